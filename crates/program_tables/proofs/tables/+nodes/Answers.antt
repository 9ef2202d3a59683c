use Rattle.std.proofs.Common.{ap, ◌∙◌}
use Rattle.std.proofs.lemmas.Result.{on_ok_weaker}
use Rattle.courier_texts.specs.Named.{named_model}
use Rattle.program_tables.specs.Tables.{nodes_seen}
use Rattle.courier_texts.proofs.Printed.{named_choice, named_record}
use Rattle.program_tables.proofs.Nodes.{choice_there, record_there}
use Rattle.program_tables.proofs.tables.+nodes.Goals as goal

pub append_choice-returns : goal.append_choice-returns
append_choice-returns t c =
    on_ok_weaker c.append_variants.result (choice_there (nodes_seen c.args.out.now.items) (nodes_seen c.append_node.new.out.items) (nodes_seen c.append_variants.new.out.items) c.args.name.now c.args.variants.now c.in_ok-append_node.ensures) c.append_variants.ensures.nodes

pub append_record-returns : goal.append_record-returns
append_record-returns t c =
    on_ok_weaker c.append_components.result (record_there (nodes_seen c.args.out.now.items) (nodes_seen c.append_node.new.out.items) (nodes_seen c.append_components.new.out.items) c.args.name.now c.args.components.now c.in_ok-append_node.ensures) c.append_components.ensures.nodes

pub append_type-returns-in-Record : goal.append_type-returns-in-Record
append_type-returns-in-Record t c =
    let type = ap named_model c.in-Record.is ∙ named_record c.in-Record.components in
    rw (type, ← c.deref-in-Record.ensures.value) c.append_record.ensures

pub append_type-returns-in-Choice : goal.append_type-returns-in-Choice
append_type-returns-in-Choice t c =
    let type = ap named_model c.in-Choice.is ∙ named_choice c.in-Choice.variants in
    rw (type, ← c.deref-in-Choice.ensures.value) c.append_choice.ensures
