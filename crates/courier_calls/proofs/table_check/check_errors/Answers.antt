use Rattle.std.proofs.Common.{◌≡◌, map, rules, Err}
use Rattle.courier_types.specs.Check.{shape_fault}
use Rattle.courier_types.specs.Shape.{shape_model}
use Rattle.courier_calls.specs.Table.{error_model, error_shapes_fault}
use Rattle.courier_calls.proofs.BadShapes.{found_first, found_on}
use Rattle.courier_calls.proofs.table_check.check_errors.Goals as goal

pub returns-in_err-check_shape : goal.returns-in_err-check_shape
returns-in_err-check_shape c =
    let is : c.from_residual.result ≡ Err c.in_err-check_shape.field-0.0 = search rules in
    let found = found_first (shape_fault (shape_model c.error-item.result.arguments)) _ c.in_err-check_shape.field-0.0 c.in_err-check_shape.ensures in
    rw is (found_on (λ es. error_shapes_fault (map error_model es)) _ _ _ _ c.error-item.is c.loop-error-test.true found c.loop-error.invariant)
