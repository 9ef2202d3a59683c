use Rattle.std.proofs.Common.{◌*◌, ◌+◌, List}
use Rattle.courier_notation.specs.declared.declared.Constant.{Constant}
use Rattle.courier_notation.specs.Programs.{constant_at, element_at}
use Rattle.courier_notation.specs.Reading.{most_parts}
use Rattle.courier_notation.proofs.Listing.{IsReadTo}
use Rattle.courier_notation.proofs.constants.+constants.Given as goal

abbrev pub invariant-behind_elements-loop : goal.invariant-behind_elements-loop
invariant-behind_elements-loop l =
    (front : List Constant) × IsReadTo (element_at (constant_at l.depth)) (element_at (constant_at l.depth)) most_parts front l.counter l.rest l.fn.tokens

abbrev pub decreases-constant_of : goal.decreases-constant_of
decreases-constant_of l = 8 * l.depth

abbrev pub decreases-component_of : goal.decreases-component_of
decreases-component_of l = 8 * l.depth + 1

abbrev pub decreases-element_of : goal.decreases-element_of
decreases-element_of l = 8 * l.depth + 2

abbrev pub decreases-behind_elements : goal.decreases-behind_elements
decreases-behind_elements l = 8 * l.depth + 3

abbrev pub decreases-elements_inside : goal.decreases-elements_inside
decreases-elements_inside l = 8 * l.depth + 4

abbrev pub decreases-chosen_of : goal.decreases-chosen_of
decreases-chosen_of l = 8 * l.depth + 4

abbrev pub decreases-constant_by : goal.decreases-constant_by
decreases-constant_by l = 8 * l.depth + 5
