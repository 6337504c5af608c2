use Rattle.std.proofs.Common.{◌≡◌, [], ◌∷◌, ◌++◌, map, vec_items, sym, ap, ◌∙◌, subst}
use Rattle.std.proofs.lemmas.List.{map_push}
use Rattle.circuit.specs.Shape.{inputs_in, Counted, Fed, Numbered, Distinct}
use Rattle.circuit.specs.Spelled.{bytes_of}
use Rattle.netlist.proofs.Pushed.{counted_push, fed_push, numbered_push, distinct_push}
use Rattle.netlist.proofs.driving.push_line.Goals as goal

pub invariant_of-draft-clause-tallied : goal.invariant_of-draft-clause-tallied
invariant_of-draft-clause-tallied c = c.requires.inputs.0 ∙ ap inputs_in (sym c.push_reserved.ensures.items)

pub invariant_of-draft-clause-counted : goal.invariant_of-draft-clause-counted
invariant_of-draft-clause-counted c = subst Counted (sym c.push_reserved.ensures.items) (counted_push _ c.args.line c.requires.line c.args.draft.now.counted)

pub invariant_of-draft-clause-fed : goal.invariant_of-draft-clause-fed
invariant_of-draft-clause-fed c = subst Fed (sym c.push_reserved.ensures.items) (fed_push _ c.args.line c.requires.line c.args.draft.now.fed)

pub invariant_of-draft-clause-numbered : goal.invariant_of-draft-clause-numbered
invariant_of-draft-clause-numbered c = subst Numbered (sym c.push_reserved.ensures.items) (numbered_push _ c.args.line c.requires.line c.args.draft.now.numbered)

pub invariant_of-draft-clause-distinct : goal.invariant_of-draft-clause-distinct
invariant_of-draft-clause-distinct c =
    let ns = vec_items c.args.draft.now.names in
    let names : map bytes_of (vec_items c.push_reserved-2.new.self) ≡ map bytes_of ns ++ bytes_of c.args.name ∷ [] = ap (map bytes_of) c.push_reserved-2.ensures.items ∙ map_push bytes_of ns c.args.name in
    subst Distinct (sym names) (distinct_push (map bytes_of ns) (bytes_of c.args.name) c.args.draft.now.distinct c.requires.fresh)
