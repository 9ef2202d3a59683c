use Rattle.std.proofs.Common.{◌≡◌, take}
use Rattle.courier_programs.specs.Meanings.{components_seen}
use Rattle.courier_programs.specs.Types.{candidates_seen}
use Rattle.courier_programs.proofs.copying.+copying.Given as goal

abbrev pub invariant-copy_components-loop-component : goal.invariant-copy_components-loop-component
invariant-copy_components-loop-component l = components_seen l.copies.items ≡ components_seen (take l.component-index l.components)

abbrev pub invariant-copy_variants-loop-variant : goal.invariant-copy_variants-loop-variant
invariant-copy_variants-loop-variant l = candidates_seen l.copies.items ≡ candidates_seen (take l.variant-index l.variants)
