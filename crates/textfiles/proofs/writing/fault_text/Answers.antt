use Rattle.std.proofs.Common.{◌≡◌, IfOk, string_bytes, IsUtf8, sym, ap, ◌∙◌, subst}
use Rattle.std.specs.Option.{option_map}
use Rattle.std.specs.List.{slice_get}
use Rattle.circuit.specs.Plans.{plan}
use Rattle.circuit.specs.Spelled.{bytes_of}
use Rattle.textfiles.specs.Writing.{spelled, name_of, fault_text}
use Rattle.textfiles.proofs.RoundTrip.{name_text, renamed, read_again}
use Rattle.textfiles.proofs.writing.fault_text.Goals as goal

pub returns-clause-law : goal.returns-clause-law
returns-clause-law c =
    let p = plan c.args.circuit.now in
    let f = c.args.fault in
    let w = name_of p f in
    let r = c.to_string.result in
    let shown = c.name_text-name.result.now in
    let same : spelled (option_map bytes_of c.name-name.result) ≡ w = ap spelled (c.name-name.ensures ∙ ap (slice_get p.names) c.line.ensures) in
    let named : IsUtf8 w → IfOk r (λ s. string_bytes s ≡ fault_text w f) =
    λ u. renamed string_bytes r f shown w (c.name_text-name.ensures.text (subst IsUtf8 (sym same) u) ∙ same) c.to_string.ensures.ok in
    λ h there. read_again string_bytes r p f w c.args.circuit.now.draft.counted h there (named (name_text w h.bytes))
