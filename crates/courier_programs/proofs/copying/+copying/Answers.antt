use Rattle.std.proofs.Common.{ap, sym, ◌∙◌, rules}
use Rattle.courier_texts.specs.Named.{NamedModel, named_model}
use Rattle.courier_texts.proofs.Shaped.{choice_has_parts, record_has_parts}
use Rattle.courier_programs.specs.Meanings.{components_from}
use Rattle.courier_programs.specs.Types.{variants_from}
use Rattle.courier_programs.proofs.Models.{model_choice, model_record}
use Rattle.courier_programs.proofs.copying.+copying.Goals as goal

pub copy_of-returns-in_ok-copy_components-in-Record-clause-copy : goal.copy_of-returns-in_ok-copy_components-in-Record-clause-copy
copy_of-returns-in_ok-copy_components-in-Record-clause-copy t c =
    let same = rw c.deref-in-Record.ensures.value at c.in_ok-copy_components-in-Record.ensures.copy in
    model_record c.in_ok-copy_components-in-Record.field-0 ∙ ap (λ cs. NamedModel.components (components_from cs)) same ∙ sym (ap named_model c.in-Record.is ∙ model_record c.in-Record.components)

pub copy_of-returns-in_ok-copy_variants-in-Choice-clause-copy : goal.copy_of-returns-in_ok-copy_variants-in-Choice-clause-copy
copy_of-returns-in_ok-copy_variants-in-Choice-clause-copy t c =
    let same = rw c.deref-in-Choice.ensures.value at c.in_ok-copy_variants-in-Choice.ensures.copy in
    model_choice c.in_ok-copy_variants-in-Choice.field-0 ∙ ap (λ cs. NamedModel.choice (variants_from cs)) same ∙ sym (ap named_model c.in-Choice.is ∙ model_choice c.in-Choice.variants)

pub copy_of-returns-in_err-copy_components-in-Record-clause-memory : goal.copy_of-returns-in_err-copy_components-in-Record-clause-memory
copy_of-returns-in_err-copy_components-in-Record-clause-memory t c =
    let has = record_has_parts c.args.named.now c.in-Record.components c.in-Record.is (rw c.deref-in-Record.ensures.value at c.in_err-copy_components-in-Record.ensures.memory) in
    search rules

pub copy_of-returns-in_err-copy_variants-in-Choice-clause-memory : goal.copy_of-returns-in_err-copy_variants-in-Choice-clause-memory
copy_of-returns-in_err-copy_variants-in-Choice-clause-memory t c =
    let has = choice_has_parts c.args.named.now c.in-Choice.variants c.in-Choice.is (rw c.deref-in-Choice.ensures.value at c.in_err-copy_variants-in-Choice.ensures.memory) in
    search rules
