use Rattle.std.proofs.Common.{◌+◌, ◌∷◌, None, get_or, length, sym, ap, ◌∙◌, rules, arith}
use Rattle.simulation.specs.Lanes.{line_at, left, no_fault}
use Rattle.simulation.specs.Members.{members}
use Rattle.simulation.proofs.Chains.{latest_found, left_latest}
use Rattle.simulation.proofs.batches.chains.ChainIterator.next.Goals as goal

pub bounds-as_slice-at : goal.bounds-as_slice-at
bounds-as_slice-at c =
    let here = c.args.self.now.within _ c.in_ok-at.was in
    omega (arith, here.0, ap length c.as_slice.ensures.items)

pub bounds-self-at : goal.bounds-self-at
bounds-self-at c =
    let here = c.args.self.now.within _ c.in_ok-at.was in
    omega (arith, here.0, ap length c.as_slice.ensures.items, c.as_slice.ensures.few)

pub invariant_of-self : goal.invariant_of-self
invariant_of-self c =
    let b = c.args.self.now.batch.now in
    let at = c.in_ok-at.field-0 in
    let here = c.args.self.now.within at c.in_ok-at.was in
    record {
      within = λ i e.
          let found = latest_found (members b) (line_at (members b) at) at i (sym (b.nexts at here.0 here.1) ∙ e) in
          (omega (arith, found.0, here.0), omega (arith, found.1, here.1));
    }

pub returns-clause-steps : goal.returns-clause-steps
returns-clause-steps c =
    let b = c.args.self.now.batch.now in
    let at = c.in_ok-at.field-0 in
    let here = c.args.self.now.within at c.in_ok-at.was in
    ap (left (members b)) c.in_ok-at.was
    ∙ ap (λ xs. (at + 1, get_or (members b) at no_fault) ∷ xs) (sym (ap (left (members b)) (b.nexts at here.0 here.1) ∙ left_latest (members b) (line_at (members b) at) at))
    ∙ ap (λ fs. (at + 1, get_or fs at no_fault) ∷ left (members b) (get_or b.links at None)) (sym c.as_slice.ensures.items)

pub returns-clause-goes : goal.returns-clause-goes
returns-clause-goes c =
    let b = c.args.self.now.batch.now in
    let at = c.in_ok-at.field-0 in
    let here = c.args.self.now.within at c.in_ok-at.was in
    let whole = ap (left (members b)) c.in_ok-at.was in
    let rest = ap (left (members b)) (b.nexts at here.0 here.1) ∙ left_latest (members b) (line_at (members b) at) at in
    search rules
