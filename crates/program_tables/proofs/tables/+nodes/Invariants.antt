use Rattle.std.proofs.Common.{◌≡◌, ◌++◌, drop}
use Rattle.courier_texts.specs.Named.{component_models, variant_models}
use Rattle.program_tables.specs.Tables.{component_nodes, nodes_seen, variant_nodes}
use Rattle.program_tables.proofs.tables.+nodes.Given as goal

abbrev pub invariant-append_components-loop-component : goal.invariant-append_components-loop-component
invariant-append_components-loop-component l = nodes_seen l.out.items ++ component_nodes (component_models (drop l.component-index l.components)) ≡ nodes_seen l.fn.out.items ++ component_nodes (component_models l.components)

abbrev pub invariant-append_variants-loop-variant : goal.invariant-append_variants-loop-variant
invariant-append_variants-loop-variant l = nodes_seen l.out.items ++ variant_nodes (variant_models (drop l.variant-index l.variants)) ≡ nodes_seen l.fn.out.items ++ variant_nodes (variant_models l.variants)
