use Rattle.std.proofs.Common.{get_or, unwrap_or, sym, ap, ◌∙◌, rules, tests}
use Rattle.std.proofs.lemmas.Iterator.{YieldsList-from_slice, YieldsList-from_map}
use Rattle.std.proofs.lemmas.Iterator.Adapters.{option_map_id}
use Rattle.std.proofs.lemmas.Iterator.Consumers.{max_from_yields_List}
use Rattle.circuit.proofs.Levels.{highest_reduce}
use Rattle.circuit.proofs.whole.survey.highest.Goals as goal

pub returns : goal.returns
returns c =
    let ts = c.args.levels.now in
    c.unwrap_or.ensures ∙ ap (λ o. unwrap_or o 0) (sym (option_map_id _) ∙ max_from_yields_List c.map.result _ c.max.ensures.ran (YieldsList-from_map _ (λ p. get_or ts p 0) (YieldsList-from_slice c.args.pins.now cc) c.map.ensures.closure (λ x r q k. search (rules, tests)))) ∙ highest_reduce _
