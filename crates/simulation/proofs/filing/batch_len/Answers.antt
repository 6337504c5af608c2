use Rattle.std.proofs.Common.{◌≡◌, not, length, ap, ◌∙◌, rules}
use Rattle.std.proofs.lemmas.Iterator.{YieldsList-from_slice}
use Rattle.std.proofs.lemmas.Iterator.Consumers.{nth_from_yields_List, YieldsList-from_filter, YieldsList-from_enumerate}
use Rattle.std.specs.Option.{option_map}
use Rattle.simulation.specs.Rows.{front}
use Rattle.simulation.proofs.Fronts.{place, front_nth}
use Rattle.simulation.proofs.filing.batch_len.Goals as goal

pub returns : goal.returns
returns c =
    let k = c.args.lanes in
    let xs = c.args.listed.now in
    let found =
    nth_from_yields_List c.nth.result c.nth.new.self k c.nth.ensures.ran
    (YieldsList-from_filter _ (λ x. not x.1.dropped) (YieldsList-from_enumerate (YieldsList-from_slice xs (cc)) (cc)) c.filter.ensures.closure (λ x b q h. search rules)) in
    let end : place (length xs) (option_map (λ x. (x.0, x.1.now)) c.nth.result) ≡ front c.args.lanes c.args.listed.now = ap (place (length xs)) found ∙ front_nth k xs in
    search rules
