use Rattle.std.proofs.Common.{◌+◌, ◌<◌, ◌∷◌, ◌++◌, length, take, drop, set, sym, ap, ◌∙◌, ap₂, add-one, arith}
use lib.Bits.{bit_xor}
use Rattle.std.proofs.lemmas.List.{at_drop_all, append-nil, take_all}
use Rattle.circuit.specs.Plans.{plan}
use Rattle.simulation.specs.Lanes.{lane_word}
use Rattle.simulation.specs.Rows.{X, live, filed}
use Rattle.simulation.proofs.Entries.{filed_dropped, filed_live}
use Rattle.simulation.proofs.Fronts.{live_dropped, live_taken}
use Rattle.simulation.proofs.Tables.{front_grows}
use Rattle.simulation.proofs.filing.file.Goals as goal
use Rattle.simulation.proofs.filing.file.Goals.{else-is_live, then-is_live}

pub read_word-requires : goal.read_word-requires
read_word-requires g c =
    record {
      lane = omega (arith, ap length (live_taken c.args.listed.now c.loop-i.i _ c.loop-i-test.true (sym c.if-is_live.ensures)), c.loop-i.invariant.0, c.requires.lanes);
      stems = c.requires.stems;
    }

pub loop-i-preserved : goal.loop-i-preserved
loop-i-preserved g c =
    let xs = c.args.listed.now in
    let i = c.loop-i.i in
    let lt = c.loop-i-test.true in
    let row = c.loop-i.row in
    let lane = c.loop-i.lane in
    let rest = drop (i + 1) xs in
    let w = lane_word g.M.Method.lane c.args.stems.now (plan c.args.circuit.now).outputs in
    let room : c.loop-i.i < length c.loop-i.row = omega (arith, c.requires.row) in
    elim c.if-is_live.branch [
      | else-is_live v ↦ (
        ap (λ k. k + length (live rest)) v.lane-is ∙ omega (arith, ap length (live_dropped xs i _ lt (sym v.if-is_live.ensures)), c.loop-i.invariant.0),
        ap (λ z. take (i + 1) (set row i z) ++ filed w c.if-is_live.lane rest) v.row-is ∙ ap (λ k. take (i + 1) (set row i X) ++ filed w k rest) v.lane-is
            ∙ front_grows row i X (filed w lane (drop i xs)) (filed w lane rest) _ room (filed_dropped w lane xs i _ lt (sym v.if-is_live.ensures)) c.loop-i.invariant.1,
      )
      | then-is_live v ↦
          let y = bit_xor v.read_word.result c.read_word-good.result in
          let e = filed_live w lane xs i _ lt (sym v.if-is_live.ensures) ∙ ap (λ n. bit_xor (w n) (w 0) ∷ filed w n rest) (sym (add-one lane))
          ∙ ap₂ (λ a b. bit_xor a b ∷ filed w (lane + 1) rest) (sym v.read_word.ensures) (sym c.read_word-good.ensures) in (
            ap (λ k. k + length (live rest)) v.lane-is ∙ omega (arith, ap length (live_taken xs i _ lt (sym v.if-is_live.ensures)), c.loop-i.invariant.0),
            ap (λ z. take (i + 1) (set row i z) ++ filed w c.if-is_live.lane rest) v.row-is ∙ ap (λ k. take (i + 1) (set row i y) ++ filed w k rest) v.lane-is
                ∙ front_grows row i y (filed w lane (drop i xs)) (filed w (lane + 1) rest) _ room e c.loop-i.invariant.1,
          )
    ]

pub returns : goal.returns
returns g c =
    let xs = c.args.listed.now in
    let i = c.loop-i.i in
    let w = lane_word g.M.Method.lane c.args.stems.now (plan c.args.circuit.now).outputs in
    record {
      good = c.read_word-good.ensures;
      entries =
          sym (take_all i c.loop-i.row (omega (arith, c.requires.row, c.loop-i-test.false)))
          ∙ sym (append-nil _) ∙ ap (λ ys. take i c.loop-i.row ++ ys) (sym (at_drop_all (filed w c.loop-i.lane) xs i c.loop-i-test.false))
          ∙ c.loop-i.invariant.1;
    }
