use Rattle.std.proofs.Common.{◌⊎◌, ◌<◌, length, inr, refl, ap, ◌∙◌, arith, rules}
use Rattle.courier_notation.specs.Written.{field_models, fields_from, type_model}
use Rattle.courier_notation.proofs.Models.{model_choice as written_choice, model_record as written_record}
use Rattle.courier_programs.specs.Memory.{HasFields, ResolvedTypeWants, StandsForType}
use Rattle.courier_programs.specs.Scopes.{env}
use Rattle.courier_programs.specs.Types.{choice_meant, fields_meant, type_level_meant}
use Rattle.courier_programs.proofs.Models.{model_choice, model_record}
use Rattle.courier_notation.proofs.Failing.{is_right, wants_more}
use Rattle.courier_programs.proofs.Wants.{has_fields}
use Rattle.courier_notation.proofs.written.WrittenType.TheLaws.{the_size}
use Rattle.courier_programs.proofs.Falls.{item_falls}
use Rattle.courier_programs.proofs.types.+types.Goals as goal

pub record_of-returns-clause-exact : goal.record_of-returns-clause-exact
unfolding fields_meant
record_of-returns-clause-exact t c = rw (model_record c.in_ok-parts.parts, c.in_ok-parts.ensures.exact) refl

pub choice_of-returns-clause-exact : goal.choice_of-returns-clause-exact
unfolding choice_meant
choice_of-returns-clause-exact t c = rw (model_choice c.in_ok-parts.parts, c.in_ok-members.ensures, c.in_ok-parts.ensures.exact) refl

pub type_by-returns-in-Record-clause-exact : goal.type_by-returns-in-Record-clause-exact
unfolding type_level_meant
type_by-returns-in-Record-clause-exact t c =
    let type = ap type_model c.in-Record.is ∙ written_record c.in-Record.groups in
    rw (type, ← c.deref-in-Record.ensures.value) c.record_of.ensures.exact

pub type_by-returns-in-Choice-clause-exact : goal.type_by-returns-in-Choice-clause-exact
unfolding type_level_meant
type_by-returns-in-Choice-clause-exact t c =
    let type = ap type_model c.in-Choice.is ∙ written_choice c.in-Choice.tag c.in-Choice.groups in
    rw (type, ← c.deref-in-Choice.ensures.value) c.choice_of.ensures.exact

pub type_by-returns-in-Record-clause-memory : goal.type_by-returns-in-Record-clause-memory
type_by-returns-in-Record-clause-memory t c =
    let type = ap type_model c.in-Record.is ∙ written_record c.in-Record.groups in
    let groups = c.in-Record.groups.items in
    rw type (wants_more c.record_of.result (0 < length groups) (HasFields (fields_from (field_models groups))) (has_fields groups) (rw c.deref-in-Record.ensures.value at c.record_of.ensures.memory))

pub candidates_of-take_candidates-requires : goal.candidates_of-take_candidates-requires
candidates_of-take_candidates-requires t c =
    (item_falls _ the_size c.args.groups.now c.loop-group.group-index c.group-item.result c.group-item.result.1 _ t _ _ c.group-item.is c.loop-group-test.true (omega arith) c.decreases (omega arith), tt)

pub element_of-returns-in_err-new-clause-memory : goal.element_of-returns-in_err-new-clause-memory
element_of-returns-in_err-new-clause-memory t c =
    let e = env c.args.maker.scope.now in
    let type = type_model c.args.written.now in
    let wants : ResolvedTypeWants e type ⊎ StandsForType e type = inr (c.args.depth, c.args.room, is_right c.in_ok-part.ensures.exact) in
    search rules
