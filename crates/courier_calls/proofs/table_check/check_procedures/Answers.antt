use Rattle.std.proofs.Common.{◌≡◌, ◌∙◌, ap, map, option_map, rules, Err}
use Rattle.courier_types.specs.Check.{shape_fault}
use Rattle.courier_types.specs.Shape.{shape_model}
use Rattle.courier_types.proofs.Loops.{walk_on}
use Rattle.courier_calls.specs.declared.fault.TableFault.TheVariants.{BadShape}
use Rattle.courier_calls.specs.Table.{procedure_model, procedure_shapes_fault}
use Rattle.courier_calls.proofs.BadShapes.{none_yet, found_first, found_on}
use Rattle.courier_calls.proofs.table_check.check_procedures.Goals as goal

pub loop-procedure-preserved : goal.loop-procedure-preserved
loop-procedure-preserved c =
    let procedure = c.procedure-item.result in
    walk_on (λ ps. procedure_shapes_fault (map procedure_model ps)) _ _ _ _ _ c.procedure-item.is c.loop-procedure-test.true
    (none_yet (shape_fault (shape_model procedure.arguments)) _ c.in_ok-check_shape.ensures
    ∙ none_yet (shape_fault (shape_model procedure.results)) _ c.in_ok-check_shape-2.ensures) c.loop-procedure.invariant

pub returns-in_err-check_shape : goal.returns-in_err-check_shape
returns-in_err-check_shape c =
    let fault = c.in_err-check_shape.field-0.0 in
    let is : c.from_residual.result ≡ Err fault = search rules in
    rw is (found_on (λ ps. procedure_shapes_fault (map procedure_model ps)) _ _ _ fault c.procedure-item.is c.loop-procedure-test.true
    (found_first (shape_fault (shape_model c.procedure-item.result.arguments)) _ fault c.in_err-check_shape.ensures) c.loop-procedure.invariant)

pub returns-in_err-check_shape-2 : goal.returns-in_err-check_shape-2
returns-in_err-check_shape-2 c =
    let procedure = c.procedure-item.result in
    let fault = c.in_err-check_shape-2.field-0.0 in
    let is : c.from_residual-in_err-check_shape-2.result ≡ Err fault = search rules in
    rw is (found_on (λ ps. procedure_shapes_fault (map procedure_model ps)) _ _ _ fault c.procedure-item.is c.loop-procedure-test.true
    (ap (option_map BadShape) (none_yet (shape_fault (shape_model procedure.arguments)) _ c.in_ok-check_shape.ensures)
    ∙ found_first (shape_fault (shape_model procedure.results)) _ fault c.in_err-check_shape-2.ensures) c.loop-procedure.invariant)
