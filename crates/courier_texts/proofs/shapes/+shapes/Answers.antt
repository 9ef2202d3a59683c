use Rattle.std.proofs.Common.{ap, ◌∙◌, rules}
use Rattle.std.proofs.lemmas.Result.{on_err_weaker}
use Rattle.courier_types.specs.Shape.{ShapeModel}
use Rattle.courier_types.proofs.Loops.{model_choice}
use Rattle.courier_texts.specs.Named.{named_model}
use Rattle.courier_texts.proofs.Printed.{named_record, named_choice}
use Rattle.courier_texts.proofs.Shaped.{all_shapes, all_members, enumeration_shape, record_has_parts, choice_has_parts}
use Rattle.courier_texts.proofs.shapes.+shapes.Goals as goal

pub shapes_of_components-returns-clause-shapes : goal.shapes_of_components-returns-clause-shapes
shapes_of_components-returns-clause-shapes t c =
    let l = c.loop-component in
    all_shapes l.shapes.items c.args.components.now l.component-index c.loop-component-test.false l.invariant

pub members_of_variants-returns-clause-members : goal.members_of_variants-returns-clause-members
members_of_variants-returns-clause-members t c =
    let l = c.loop-variant in
    all_members l.members.items c.args.variants.now l.variant-index c.loop-variant-test.false l.invariant

pub shape_of-returns-in_ok-words_of-in-Enumeration-clause-shape : goal.shape_of-returns-in_ok-words_of-in-Enumeration-clause-shape
shape_of-returns-in_ok-words_of-in-Enumeration-clause-shape t c =
    let words = c.in_ok-words_of-in-Enumeration.field-0 in
    let members = c.in-Enumeration.members in
    let listed = rw c.deref.ensures.value at c.in_ok-words_of-in-Enumeration.ensures.words in
    rw c.in-Enumeration.is (enumeration_shape words members listed)

pub shape_of-returns-in-Record-clause-shape : goal.shape_of-returns-in-Record-clause-shape
shape_of-returns-in-Record-clause-shape t c =
    let type = ap named_model c.in-Record.is ∙ named_record c.in-Record.components in
    rw (type, ← c.deref-in-Record.ensures.value) c.shape_of_record.ensures.shape

pub shape_of-returns-in_ok-members_of_variants-in-Choice-clause-shape : goal.shape_of-returns-in_ok-members_of_variants-in-Choice-clause-shape
shape_of-returns-in_ok-members_of_variants-in-Choice-clause-shape t c =
    let members = c.in_ok-members_of_variants-in-Choice.field-0 in
    let type = ap named_model c.in-Choice.is ∙ named_choice c.in-Choice.variants in
    rw (type, ← c.deref-in-Choice.ensures.value) (model_choice members ∙ ap ShapeModel.choice c.in_ok-members_of_variants-in-Choice.ensures.members)

pub shape_of-returns-in-Record-clause-memory : goal.shape_of-returns-in-Record-clause-memory
shape_of-returns-in-Record-clause-memory t c =
    on_err_weaker c.shape_of_record.result (record_has_parts c.args.named.now c.in-Record.components c.in-Record.is) (rw c.deref-in-Record.ensures.value at c.shape_of_record.ensures.memory)

pub shape_of-returns-in_err-members_of_variants-in-Choice-clause-memory : goal.shape_of-returns-in_err-members_of_variants-in-Choice-clause-memory
shape_of-returns-in_err-members_of_variants-in-Choice-clause-memory t c =
    let has = choice_has_parts c.args.named.now c.in-Choice.variants c.in-Choice.is (rw c.deref-in-Choice.ensures.value at c.in_err-members_of_variants-in-Choice.ensures.memory) in
    search rules
