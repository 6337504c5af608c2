use Rattle.std.proofs.Common.{◌+◌, ◌*◌, [], ◌∷◌, ◌++◌, ap, ◌∙◌, arith}
use Rattle.std.proofs.lemmas.List.{append_assoc}
use Rattle.circuit.specs.Machines.{binary, value_at}
use Rattle.simulation.specs.Lanes.{seen}
use Rattle.simulation.proofs.Sums.{look_at, word_step, output_low, word_room, byte_low}
use Rattle.simulation.proofs.filing.read_word.Goals as goal

pub overflow_mul-word : goal.overflow_mul-word
overflow_mul-word g c =
    let d = c.args.circuit.now.draft in
    let split = c.loop-line.invariant.1 ∙ ap (λ xs. xs ++ c.loop-line.invariant.0) c.in-Some.ensures.steps in
    omega (arith, word_room _ _ _ _ split (value_at binary (seen g.M.Method.lane c.args.stems.now c.args.lane)) c.loop-line.word (omega (arith, d.outputs.ok.0, d.slim)) c.loop-line.invariant.2)

pub offset_bounds-stems-line : goal.offset_bounds-stems-line
offset_bounds-stems-line g c =
    let split = c.loop-line.invariant.1 ∙ ap (λ xs. xs ++ c.loop-line.invariant.0) c.in-Some.ensures.steps in
    omega (arith, output_low _ _ _ _ split _ c.args.circuit.now.draft.shown, c.args.circuit.now.draft.lines.ok.0, c.requires.stems)

pub overflow_add-word : goal.overflow_add-word
overflow_add-word g c =
    let d = c.args.circuit.now.draft in
    let split = c.loop-line.invariant.1 ∙ ap (λ xs. xs ++ c.loop-line.invariant.0) c.in-Some.ensures.steps in
    omega (arith, word_room _ _ _ _ split (value_at binary (seen g.M.Method.lane c.args.stems.now c.args.lane)) c.loop-line.word (omega (arith, d.outputs.ok.0, d.slim)) c.loop-line.invariant.2, c.from.ensures, byte_low c.look.result)

pub loop-line-preserved : goal.loop-line-preserved
loop-line-preserved g c =
    let m = g.M.Method in
    let k = c.in-Some.line.now in
    let done = c.loop-line.invariant.0 in
    let split = c.loop-line.invariant.1 ∙ ap (λ xs. xs ++ c.loop-line.invariant.0) c.in-Some.ensures.steps in
    let low = output_low _ _ _ _ split _ c.args.circuit.now.draft.shown in
    let value = value_at binary (seen m.lane c.args.stems.now c.args.lane) in (
      k ∷ done,
      split ∙ append_assoc c.next.new.self.iter.rest.now (k ∷ []) done,
      ap (λ n. c.loop-line.word * 2 + n) c.from.ensures
          ∙ word_step value done k c.loop-line.word c.look.result
          (look_at m.lane m.LANES c.args.lane k c.args.stems.now c.index-stems-line.result c.look.result c.requires.lane (omega (arith, low, c.args.circuit.now.draft.lines.ok.0, c.requires.stems)) c.index-stems-line.is c.look.ensures) c.loop-line.invariant.2,
    )
