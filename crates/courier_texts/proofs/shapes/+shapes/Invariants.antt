use Rattle.std.proofs.Common.{◌≡◌, map, take}
use Rattle.courier_types.specs.Shape.{shape_model}
use Rattle.courier_texts.proofs.Shaped.{component_shape, member_model, variant_member}
use Rattle.courier_texts.proofs.shapes.+shapes.Given as goal

abbrev pub invariant-shapes_of_components-loop-component : goal.invariant-shapes_of_components-loop-component
invariant-shapes_of_components-loop-component l = map shape_model l.shapes.items ≡ map component_shape (take l.component-index l.components)

abbrev pub invariant-members_of_variants-loop-variant : goal.invariant-members_of_variants-loop-variant
invariant-members_of_variants-loop-variant l = map member_model l.members.items ≡ map variant_member (take l.variant-index l.variants)
