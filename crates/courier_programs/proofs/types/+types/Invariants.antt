use Rattle.std.proofs.Common.{◌≡◌, [], drop, option_map}
use Rattle.courier_notation.specs.Written.{candidate_models, candidates_from, field_models, fields_from, type_model}
use Rattle.courier_texts.specs.Named.{members_seen}
use Rattle.courier_programs.specs.Meanings.{components_seen}
use Rattle.courier_programs.specs.Faults.{steps}
use Rattle.courier_programs.specs.Scopes.{env}
use Rattle.courier_programs.specs.Types.{candidate_step, candidates_meant, candidates_seen, component_step, components_meant, type_meant}
use Rattle.courier_programs.proofs.types.+types.Given as goal

abbrev pub invariant-take_components-loop-name : goal.invariant-take_components-loop-name
invariant-take_components-loop-name l =
    let step = component_step (env l.maker.scope.now) (type_meant (env l.maker.scope.now) l.depth (type_model l.written)) in
    steps step (components_seen l.parts.items, l.left) (drop l.name-index l.names) ≡ steps step (components_seen l.fn.parts.items, l.fn.room) l.names

abbrev pub invariant-take_candidates-loop-designator : goal.invariant-take_candidates-loop-designator
invariant-take_candidates-loop-designator l =
    let step = candidate_step (env l.maker.scope.now) (type_meant (env l.maker.scope.now) l.depth (type_model l.written)) in
    steps step (candidates_seen l.parts.items, l.left) (drop l.designator-index l.chosen) ≡ steps step (candidates_seen l.fn.parts.items, l.fn.room) l.chosen

abbrev pub invariant-components_of-loop-group : goal.invariant-components_of-loop-group
invariant-components_of-loop-group l =
    let meant = components_meant (env l.maker.scope.now) (type_meant (env l.maker.scope.now) l.depth) in
    meant l.seen.items (components_seen l.parts.items, l.left) (fields_from (field_models (drop l.group-index l.groups))) ≡ meant [] ([], l.fn.room) (fields_from (field_models l.groups))

abbrev pub invariant-candidates_of-loop-group : goal.invariant-candidates_of-loop-group
invariant-candidates_of-loop-group l =
    let meant = candidates_meant (env l.maker.scope.now) (option_map (λ m. members_seen m.now) l.tag) (type_meant (env l.maker.scope.now) l.depth) in
    meant (members_seen l.taken.items) (candidates_seen l.parts.items, l.left) (candidates_from (candidate_models (drop l.group-index l.groups))) ≡ meant [] ([], l.fn.room) (candidates_from (candidate_models l.groups))
