use Rattle.std.proofs.Common.{◌++◌, ◌+◌, [], drop, ap, sym, ◌∙◌, arith, eq-eqb, ne_eqb}
use Rattle.std.proofs.lemmas.Result.{err_from_is_err_and}
use Rattle.courier_types.specs.Value.{value_model, value_models}
use Rattle.courier_types.proofs.Loops.{item_here, walk_ends, walk_on}
use Rattle.courier_types.proofs.Writes.{model_chosen}
use Rattle.courier_texts.specs.Named.{named_model, component_models, variant_models}
use Rattle.courier_texts.specs.Printing.{components_text, value_text, variant_text}
use Rattle.courier_texts.proofs.Appends.{all_printed, goes_on, left_is, nothing, stops}
use Rattle.courier_texts.proofs.Printed.{part_text, front_printed, front_first, no_value_text, no_part_text, next_variant, named_record, named_choice, value_fields}
use Rattle.courier_texts.proofs.printing.+print.Goals as goal

pub print_components-returns-then-i-values : goal.print_components-returns-then-i-values
print_components-returns-then-i-values t c =
    let l = c.loop-i in
    all_printed l.invariant (no_value_text l.front.now c.args.components.now c.args.values.now l.i (omega arith))

pub print_components-returns : goal.print_components-returns
print_components-returns t c =
    let l = c.loop-i in
    all_printed l.invariant (no_part_text l.front.now c.args.components.now c.args.values.now l.i c.loop-i-test.false)

pub print_components-returns-in_err-append : goal.print_components-returns-in_err-append
print_components-returns-in_err-append t c =
    let l = c.loop-i in
    let parts = c.args.components.now in
    let values = c.args.values.now in
    let part = c.index-components-i.result in
    let here = item_here parts l.i part (omega arith) c.index-components-i.is in
    let left = components_text l.front.now (component_models (drop l.i parts)) (value_models (drop l.i values)) in
    let whole = components_text [] (component_models parts) (value_models values) in
    let first = front_first l.front.now parts values l.i part here (omega arith) in
    let p = err_from_is_err_and c.from_residual.result c.from_residual.ensures.1 in
    rw (p.1, p.2) (stops c.in_err-append.field-0.0 c.args.out.now l.out l.front.now first.0 whole (left_is c.args.out.now l.out left (l.front.now ++ first.0) whole l.invariant first.1) c.in_err-append.ensures)

pub print_components-returns-in_err-print_part : goal.print_components-returns-in_err-print_part
print_components-returns-in_err-print_part t c =
    let l = c.loop-i in
    let s = front_printed l.front.now c.args.components.now c.args.values.now l.i c.index-components-i.result c.index-values-i.result (omega arith) c.index-components-i.is (omega arith) c.index-values-i.is l.invariant c.in_ok-append.ensures in
    let put = rw c.deref.ensures.value at c.in_err-print_part.ensures in
    let p = err_from_is_err_and c.from_residual-in_err-print_part.result c.from_residual-in_err-print_part.ensures.1 in
    rw (p.1, p.2) (stops c.in_err-print_part.field-0.0 c.args.out.now c.append.new.out (part_text c.index-components-i.result c.index-values-i.result) _ _ s put)

pub print_components-loop-i-preserved : goal.print_components-loop-i-preserved
print_components-loop-i-preserved t c =
    let l = c.loop-i in
    let s = front_printed l.front.now c.args.components.now c.args.values.now l.i c.index-components-i.result c.index-values-i.result (omega arith) c.index-components-i.is (omega arith) c.index-values-i.is l.invariant c.in_ok-append.ensures in
    goes_on c.args.out.now c.append.new.out c.print_part.new.out (part_text c.index-components-i.result c.index-values-i.result) _ _ s (rw c.deref.ensures.value at c.in_ok-print_part.ensures)

pub print_chosen-returns-then-variant-designator : goal.print_chosen-returns-then-variant-designator
unfolding variant_text
print_chosen-returns-then-variant-designator t c =
    let l = c.loop-variant in
    let v = value_model c.args.value.now in
    let m = c.variant-item.result in
    let found = next_variant m (drop (l.variant-index + 1) c.args.variants.now) c.args.designator v (eq-eqb m.1.0 c.args.designator c.if-variant-designator.true) in
    let text = walk_on (λ ps. variant_text (variant_models ps) c.args.designator v) c.args.variants.now l.variant-index m _ _ c.variant-item.is (omega arith) found l.invariant.here in
    rw (sym text, ← l.invariant.same, ← c.deref.ensures.value) c.print_part.ensures

pub print_chosen-loop-variant-preserved : goal.print_chosen-loop-variant-preserved
unfolding variant_text
print_chosen-loop-variant-preserved t c =
    let l = c.loop-variant in
    let v = value_model c.args.value.now in
    let m = c.variant-item.result in
    let passed = next_variant m (drop (l.variant-index + 1) c.args.variants.now) c.args.designator v (ne_eqb m.1.0 c.args.designator c.if-variant-designator.false) in
    record { same = l.invariant.same; here = walk_on (λ ps. variant_text (variant_models ps) c.args.designator v) c.args.variants.now l.variant-index m _ _ c.variant-item.is (omega arith) passed l.invariant.here }

pub print_chosen-returns : goal.print_chosen-returns
unfolding variant_text
print_chosen-returns t c =
    let l = c.loop-variant in
    let v = value_model c.args.value.now in
    let none = walk_ends (λ ps. variant_text (variant_models ps) c.args.designator v) c.args.variants.now l.variant-index _ c.loop-variant-test.false l.invariant.here in
    rw (sym none) (nothing c.args.out.now l.out l.invariant.same c.requires)

pub print_value-returns-in-Record-Fields : goal.print_value-returns-in-Record-Fields
unfolding value_text
print_value-returns-in-Record-Fields t c =
    let type = ap named_model c.in-Record-Fields.is-0 ∙ named_record c.in-Record-Fields.components in
    let value = ap value_model c.in-Record-Fields.is-1 ∙ value_fields c.in-Record-Fields.values in
    rw (type, value, ← c.deref-in-Record-Fields.ensures.value, ← c.deref-in-Record-Fields-2.ensures.value) c.print_record.ensures

pub print_value-returns-in-Choice-Choice : goal.print_value-returns-in-Choice-Choice
unfolding value_text
print_value-returns-in-Choice-Choice t c =
    let type = ap named_model c.in-Choice-Choice.is-0 ∙ named_choice c.in-Choice-Choice.variants in
    let value = ap value_model c.in-Choice-Choice.is-1 ∙ model_chosen c.in-Choice-Choice.designator c.in-Choice-Choice.value in
    rw (type, value, ← c.deref-in-Choice-Choice.ensures.value, ← c.deref-in-Choice-Choice-2.ensures) c.print_chosen.ensures
