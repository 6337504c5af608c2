use Rattle.std.proofs.Common.{◌<◌, ◌≤◌, length, get_or, set, Some, None, sym, ap, ◌∙◌, subst, arith}
use Rattle.std.proofs.lemmas.Result.{IfOk-at_ok}
use Rattle.circuit.specs.Few.{Pushed}
use Rattle.circuit.specs.Plans.{line_of}
use Rattle.simulation.specs.Members.{members}
use Rattle.simulation.proofs.Chains.{Tops, Nexts, tops_in, tops_out, nexts_in, nexts_out}
use Rattle.simulation.proofs.batches.Batch.add.Goals as goal

pub invariant_of-self : goal.invariant_of-self
invariant_of-self c =
    let b = c.args.self.now in
    let fs = members c.args.self.now in
    let f = c.args.fault in
    let e = c.line-line.ensures in
    let at = ap length c.as_slice-at.ensures.items in
    let grown = sym (IfOk-at_ok (λ _. Pushed c.args.fault c.args.self.now.faults c.try_push.new.self) c.unwrap.ensures c.try_push.ensures.pushed).items in
    let low : line_of c.args.fault.site < 1024 = omega (arith, c.if-line-lt-MAX_LINES.true) in
    let head : line_of c.args.fault.site < length c.args.self.now.heads = omega arith in
    let link : length (members c.args.self.now) < length c.args.self.now.links = omega (arith, c.requires) in
    record {
      tops = λ g lt. ap (λ k. get_or (set b.heads k (Some (length c.as_slice-at.result.now))) g None) e ∙ ap (λ n. get_or (set b.heads (line_of f.site) (Some n)) g None) at
          ∙ subst (Tops (set b.heads (line_of f.site) (Some (length fs)))) grown (tops_in fs f b.heads head b.tops) g lt;
      nexts = λ i h lt. ap (λ k. get_or (set b.links (length c.as_slice-at.result.now) (get_or b.heads k None)) i None) e ∙ ap (λ n. get_or (set b.links n (get_or b.heads (line_of f.site) None)) i None) at
          ∙ subst (Nexts (set b.links (length fs) (get_or b.heads (line_of f.site) None))) grown (nexts_in fs f b.heads b.links link low b.tops b.nexts) i h lt;
    }

pub invariant_of-self-else-line-lt-MAX_LINES : goal.invariant_of-self-else-line-lt-MAX_LINES
invariant_of-self-else-line-lt-MAX_LINES c =
    let b = c.args.self.now in
    let fs = members c.args.self.now in
    let grown = sym (IfOk-at_ok (λ _. Pushed c.args.fault c.args.self.now.faults c.try_push.new.self) c.unwrap.ensures c.try_push.ensures.pushed).items in
    let off : 1024 ≤ line_of c.args.fault.site = omega (arith, c.if-line-lt-MAX_LINES.false) in
    record {
      tops = subst (Tops b.heads) grown (tops_out fs c.args.fault b.heads off b.tops);
      nexts = subst (Nexts b.links) grown (nexts_out fs c.args.fault b.links off b.nexts);
    }
