-- A text means a circuit exactly where the grammar accepts it as that circuit.
use Rattle.std.proofs.Common.{◌≡◌, ℕ, false, ltb, List, [], length, Ok, Err, Result, sym, refl, ap, ◌∙◌}
use Rattle.std.proofs.lemmas.Bool.{ltb-false, le-ltb}
use Rattle.circuit.specs.Plans.{Plan}
use Rattle.circuit.specs.declared.refusals.Refusal.{Refusal}
use Rattle.circuit.proofs.Found.{find_at}
use Rattle.netlist.specs.Driving.{state, drive, show, outcome}
use Rattle.texts.specs.Lines.{lines_of}
use Rattle.netlist.specs.Reading.{tell, meaning}
use Rattle.netlist.specs.Grammar.{Accepted, Lawful, driving, showing}
use Rattle.netlist.proofs.Said.{LineLaw, start}
use Rattle.texts.proofs.Risen.{bind_ok, unless_ok}
use Rattle.netlist.proofs.LineReads.{line_reads}
use Rattle.netlist.proofs.LineHolds.{line_holds}
use Rattle.netlist.proofs.TextLines.{said, told_read, read_tell, lines_text, text_read}
use Rattle.netlist.proofs.Drawn.{makes}
use Rattle.netlist.proofs.Drawing.{makes_fitting, showing_now, all_driven, all_shown, whole_again}

line_law : LineLaw
line_law = record { reads = line_reads; holds = line_holds }

module _ (text : List ℕ) (p : Plan) where
  accepted_text : meaning text ≡ Ok p → Accepted text p
  accepted_text e =
      let a = unless_ok (ltb 65536 (length text)) _ _ p e in
      let b = bind_ok (tell drive 1 start (lines_of text)) _ p a.1 in
      let c = bind_ok (tell show 1 b.0.plan (lines_of text)) _ p b.2 in
      let r = told_read drive 1 start b.0 (lines_of text) b.1 in
      let x = lines_text line_law 1 text r.1 in
      record {
        short = ltb-false 65536 (length text) a.0;
        statements = said r.0;
        spelt = x.0;
        make = makes b.0 c.0 p r.0 x.1 (sym (read_tell drive start r.1) ∙ b.1) (sym (read_tell show b.0.plan r.1) ∙ c.1) c.2;
      }

  accepts_text : Accepted text p → meaning text ≡ Ok p
  accepts_text h =
      let sound = h.make.sound in
      let r = text_read line_law h.spelt (makes_fitting p sound h.statements h.make.lines) 1 in
      let sts = r.0 in
      let driven = ap driving r.2 ∙ h.make.lines in
      let shown = ap showing r.2 ∙ h.make.outputs in
      let d = all_driven p sound sts driven shown in
      let drove : tell drive 1 start (lines_of text) ≡ Ok (state (showing_now p sound []) d.0) = read_tell drive start r.1 ∙ d.1 in
      let showed : tell show 1 (showing_now p sound []) (lines_of text) ≡ Ok p = read_tell show (showing_now p sound []) r.1 ∙ all_shown p sound sts driven shown in
      let small : ltb 65536 (length text) ≡ false = le-ltb 65536 (length text) h.short in
      rw (small, drove, showed) (whole_again p sound)

told : (r : Result (Unit {0}) Refusal) (p q : Plan) → outcome r p ≡ Ok q → (r ≡ Ok tt) × (p ≡ q)
told (Ok tt) p q e = let z : p ≡ q = cc in (refl, z)
told (Err d) p q e = absurd (cc)

pub lawful : (text : List ℕ) (r : Result (Unit {0}) Refusal) (p : Plan) → outcome r p ≡ meaning text → Lawful text r p
lawful text r p e =
    let granted : r ≡ Ok tt → Accepted text p = λ ok. accepted_text text p (sym e ∙ ap (λ r. outcome r p) ok) in
    record {
      accepts = λ q h. told r p q (e ∙ accepts_text text q h);
      accepted = granted;
      found = λ ok i lt. find_at i p.names _ lt refl (λ k below same. (granted ok).make.sound.distinct k i below lt same);
    }
