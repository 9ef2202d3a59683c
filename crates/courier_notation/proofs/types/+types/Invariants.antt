use Rattle.std.proofs.Common.{◌*◌, ◌+◌}
use Rattle.courier_notation.specs.Written.{field_models, candidate_models}
use Rattle.courier_notation.specs.Reading.{most_parts, field_at, candidate_at, designator_at, name_at, type_at}
use Rattle.courier_notation.proofs.Listing.{IsReadTo}
use Rattle.courier_notation.proofs.types.+types.Given as goal

abbrev pub invariant-fields_of-loop : goal.invariant-fields_of-loop
invariant-fields_of-loop l = IsReadTo (field_at (type_at l.depth)) name_at most_parts (field_models l.fields.items) l.counter l.rest l.fn.tokens

abbrev pub invariant-candidates_of-loop : goal.invariant-candidates_of-loop
invariant-candidates_of-loop l = IsReadTo (candidate_at (type_at l.depth)) designator_at most_parts (candidate_models l.candidates.items) l.counter l.rest l.fn.tokens

abbrev pub decreases-type_of : goal.decreases-type_of
decreases-type_of l = 8 * l.depth

abbrev pub decreases-field_of : goal.decreases-field_of
decreases-field_of l = 8 * l.depth + 1

abbrev pub decreases-candidate_of : goal.decreases-candidate_of
decreases-candidate_of l = 8 * l.depth + 1

abbrev pub decreases-fields_of : goal.decreases-fields_of
decreases-fields_of l = 8 * l.depth + 2

abbrev pub decreases-candidates_of : goal.decreases-candidates_of
decreases-candidates_of l = 8 * l.depth + 2

abbrev pub decreases-fields_inside : goal.decreases-fields_inside
decreases-fields_inside l = 8 * l.depth + 3

abbrev pub decreases-bracketed : goal.decreases-bracketed
decreases-bracketed l = 8 * l.depth + 4

abbrev pub decreases-record_of : goal.decreases-record_of
decreases-record_of l = 8 * l.depth + 5

abbrev pub decreases-choice_of : goal.decreases-choice_of
decreases-choice_of l = 8 * l.depth + 5

abbrev pub decreases-array_of : goal.decreases-array_of
decreases-array_of l = 8 * l.depth + 5

abbrev pub decreases-sequence_of : goal.decreases-sequence_of
decreases-sequence_of l = 8 * l.depth + 5

abbrev pub decreases-type_behind : goal.decreases-type_behind
decreases-type_behind l = 8 * l.depth + 6
