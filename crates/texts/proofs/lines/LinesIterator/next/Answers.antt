use Rattle.std.proofs.Common.{◌≡◌, suc, ◌+◌, ◌<◌, ◌∷◌, length, take, drop, sym, ap, ◌∙◌, arith, false-eqb}
use Rattle.std.specs.List.{prefix_len}
use Rattle.std.proofs.lemmas.List.{drop-drop}
use Rattle.texts.specs.Lines.{in_line, lines_of}
use Rattle.texts.proofs.LineTurns.{lines_turn}
use Rattle.texts.proofs.lines.LinesIterator.next.Goals as goal

pub returns-clause-steps : goal.returns-clause-steps
returns-clause-steps c =
    let s = c.args.self.now.rest.now in
    let n = prefix_len in_line s in
    let some : 0 < length s = omega (arith, false-eqb _ 0 c.if-is_empty.ensures) in
    let one : n + 1 ≡ suc n = omega arith in
    let run = c.line_len.ensures.run in
    let front : c.split_at.result.0.now ≡ take n s = c.split_at.ensures.front ∙ ap (λ k. take k s) run in
    let back : c.past_end-self.result.now ≡ drop (suc n) s = c.past_end-self.ensures ∙ ap (drop 1) (c.split_at.ensures.back ∙ ap (λ k. drop k s) run) ∙ drop-drop 1 n s ∙ ap (λ k. drop k s) one in
    lines_turn s some ∙ (λ i. sym front i ∷ lines_of (sym back i))
