use Rattle.std.proofs.Common.{IsOk, ap, refl}
use Rattle.std.proofs.lemmas.Result.{err_from_is_err_and}
use Rattle.courier_notation.specs.declared.reason.Reason.TheVariants.{NoArrow, NoColon}
use Rattle.courier_notation.specs.declared.token.Token.TheVariants.{Arrow, Colon}
use Rattle.courier_notation.specs.Written.{field_models, candidate_models, group_model}
use Rattle.courier_notation.specs.Reading.{most_parts, type_at, field_at, candidate_at, choice_behind, designator_at, name_at}
use Rattle.courier_notation.proofs.Failing.{wanted, wanted_more}
use Rattle.courier_notation.proofs.Listing.{begun, ends, first_begins, first_in_group, first_of_list, goes_on, is_done, is_full, seen_push}
use Rattle.courier_notation.proofs.Models.{model_record, model_choice}
use Rattle.courier_notation.proofs.types.+types.Goals as goal

pub fields_of-loop-init : goal.fields_of-loop-init
fields_of-loop-init t c = begun (field_at (type_at c.args.depth)) name_at most_parts c.args.tokens.now (ap field_models c.new-fields.ensures.items)

pub fields_of-returns-in_err-field-clause-exact : goal.fields_of-returns-in_err-field-clause-exact
fields_of-returns-in_err-field-clause-exact t c =
    let p = err_from_is_err_and c.from_residual.result c.from_residual.ensures.1 in
    rw (p.1, p.2) (ends c.loop.invariant c.loop-test.true c.in_err-field.field-0.0 c.in_err-field.ensures.exact)

pub fields_of-returns-in-None-clause-exact : goal.fields_of-returns-in-None-clause-exact
fields_of-returns-in-None-clause-exact t c =
    is_done c.loop.invariant c.loop-test.true c.in_ok-field.ensures.exact c.in-None.ensures.none (seen_push group_model c.loop.fields.items c.in_ok-field.field c.in_ok-push.ensures.items)

pub fields_of-loop-preserved : goal.fields_of-loop-preserved
fields_of-loop-preserved t c =
    goes_on c.loop.invariant c.loop-test.true c.in_ok-field.ensures.exact c.in-Some.ensures.some (seen_push group_model c.loop.fields.items c.in_ok-field.field c.in_ok-push.ensures.items)
    (first_in_group name_at (Colon, NoColon) (type_at c.args.depth) c.loop.rest.now c.in_ok-field.ensures.exact)

pub fields_of-returns-clause-exact : goal.fields_of-returns-clause-exact
fields_of-returns-clause-exact t c = rw c.wrong.ensures (is_full c.loop.invariant c.loop-test.false)

pub candidates_of-loop-init : goal.candidates_of-loop-init
candidates_of-loop-init t c = begun (candidate_at (type_at c.args.depth)) designator_at most_parts c.args.tokens.now (ap candidate_models c.new-candidates.ensures.items)

pub candidates_of-returns-in_err-candidate-clause-exact : goal.candidates_of-returns-in_err-candidate-clause-exact
candidates_of-returns-in_err-candidate-clause-exact t c =
    let p = err_from_is_err_and c.from_residual.result c.from_residual.ensures.1 in
    rw (p.1, p.2) (ends c.loop.invariant c.loop-test.true c.in_err-candidate.field-0.0 c.in_err-candidate.ensures.exact)

pub candidates_of-returns-in-None-clause-exact : goal.candidates_of-returns-in-None-clause-exact
candidates_of-returns-in-None-clause-exact t c =
    is_done c.loop.invariant c.loop-test.true c.in_ok-candidate.ensures.exact c.in-None.ensures.none (seen_push group_model c.loop.candidates.items c.in_ok-candidate.candidate c.in_ok-push.ensures.items)

pub candidates_of-loop-preserved : goal.candidates_of-loop-preserved
candidates_of-loop-preserved t c =
    goes_on c.loop.invariant c.loop-test.true c.in_ok-candidate.ensures.exact c.in-Some.ensures.some (seen_push group_model c.loop.candidates.items c.in_ok-candidate.candidate c.in_ok-push.ensures.items)
    (first_in_group designator_at (Arrow, NoArrow) (type_at c.args.depth) c.loop.rest.now c.in_ok-candidate.ensures.exact)

pub candidates_of-returns-clause-exact : goal.candidates_of-returns-clause-exact
candidates_of-returns-clause-exact t c = rw c.wrong.ensures (is_full c.loop.invariant c.loop-test.false)

pub record_of-returns-clause-exact : goal.record_of-returns-clause-exact
record_of-returns-clause-exact t c = rw (model_record c.in_ok-fields.fields, c.in_ok-fields.ensures.exact) refl

pub choice_of-returns-clause-exact : goal.choice_of-returns-clause-exact
unfolding choice_behind
choice_of-returns-clause-exact t c =
    rw (model_choice c.in_ok-tag.tag c.in_ok-candidates.candidates, c.in_ok-tag.ensures, c.in_ok-rest.ensures, c.in_ok-inside.ensures, c.in_ok-candidates.ensures.exact, c.in_ok-rest-2.ensures) refl

pub fields_of-returns-in_err-field-clause-memory : goal.fields_of-returns-in_err-field-clause-memory
fields_of-returns-in_err-field-clause-memory t c =
    let p = err_from_is_err_and c.from_residual.result c.from_residual.ensures.1 in
    rw (p.1, p.2) (wanted_more c.in_err-field.field-0.0 (IsOk (name_at c.loop.rest.now)) (IsOk (name_at c.args.tokens.now)) (first_begins c.loop.invariant) c.in_err-field.ensures.memory)

pub fields_of-returns-in_err-push-clause-memory : goal.fields_of-returns-in_err-push-clause-memory
fields_of-returns-in_err-push-clause-memory t c =
    let p = err_from_is_err_and c.from_residual-in_err-push.result c.from_residual-in_err-push.ensures.1 in
    rw (p.1, p.2) (first_begins c.loop.invariant (first_in_group name_at (Colon, NoColon) (type_at c.args.depth) c.loop.rest.now c.in_ok-field.ensures.exact))

pub candidates_of-returns-in_err-candidate-clause-memory : goal.candidates_of-returns-in_err-candidate-clause-memory
candidates_of-returns-in_err-candidate-clause-memory t c =
    let p = err_from_is_err_and c.from_residual.result c.from_residual.ensures.1 in
    rw (p.1, p.2) (wanted_more c.in_err-candidate.field-0.0 (IsOk (designator_at c.loop.rest.now)) (IsOk (designator_at c.args.tokens.now)) (first_begins c.loop.invariant) c.in_err-candidate.ensures.memory)

pub candidates_of-returns-in_err-push-clause-memory : goal.candidates_of-returns-in_err-push-clause-memory
candidates_of-returns-in_err-push-clause-memory t c =
    let p = err_from_is_err_and c.from_residual-in_err-push.result c.from_residual-in_err-push.ensures.1 in
    rw (p.1, p.2) (first_begins c.loop.invariant (first_in_group designator_at (Arrow, NoArrow) (type_at c.args.depth) c.loop.rest.now c.in_ok-candidate.ensures.exact))

pub field_of-returns-in_err-written-clause-memory : goal.field_of-returns-in_err-written-clause-memory
field_of-returns-in_err-written-clause-memory t c =
    let p = err_from_is_err_and c.from_residual-in_err-written.result c.from_residual-in_err-written.ensures.1 in
    rw (p.1, p.2) (wanted c.in_err-written.field-0.0 (IsOk (name_at c.args.tokens.now)) (first_of_list name_at most_parts c.args.tokens.now c.in_ok-names.ensures.exact))

pub candidate_of-returns-in_err-written-clause-memory : goal.candidate_of-returns-in_err-written-clause-memory
candidate_of-returns-in_err-written-clause-memory t c =
    let p = err_from_is_err_and c.from_residual-in_err-written.result c.from_residual-in_err-written.ensures.1 in
    rw (p.1, p.2) (wanted c.in_err-written.field-0.0 (IsOk (designator_at c.args.tokens.now)) (first_of_list designator_at most_parts c.args.tokens.now c.in_ok-designators.ensures.exact))
