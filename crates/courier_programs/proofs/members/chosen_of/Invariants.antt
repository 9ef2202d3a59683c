use Rattle.std.proofs.Common.{◌≡◌, [], drop, option_map}
use Rattle.courier_texts.specs.Named.{members_seen}
use Rattle.courier_programs.specs.Faults.{steps}
use Rattle.courier_programs.specs.Scopes.{env}
use Rattle.courier_programs.specs.Types.{designator_step}
use Rattle.courier_programs.proofs.members.chosen_of.Given as goal

abbrev pub invariant-loop-designator : goal.invariant-loop-designator
invariant-loop-designator l = steps (designator_step (env l.scope) (option_map (λ m. members_seen m.now) l.tag)) (members_seen l.taken.items, l.chosen.items) (drop l.designator-index l.designators) ≡ steps (designator_step (env l.scope) (option_map (λ m. members_seen m.now) l.tag)) (members_seen l.fn.taken.items, []) l.designators
