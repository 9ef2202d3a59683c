use Rattle.std.proofs.Common.{◌≡◌, ◌++◌, [], codes, drop}
use Rattle.courier_types.specs.Value.{value_model, value_models}
use Rattle.courier_texts.specs.Named.{named_model, component_models, variant_models}
use Rattle.courier_texts.specs.Printing.{elements_text, components_text, variant_text, value_text}
use Rattle.courier_texts.proofs.Appends.{SoFar}
use Rattle.courier_texts.proofs.printing.+print.Given as goal

abbrev pub invariant-print_elements-loop-value : goal.invariant-print_elements-loop-value
invariant-print_elements-loop-value l =
    SoFar l.fn.out l.out (elements_text l.front (value_text (named_model l.element)) (value_models (drop l.value-index l.values)) ++ codes "]")
    (codes "[" ++ elements_text [] (value_text (named_model l.element)) (value_models l.values) ++ codes "]")

abbrev pub invariant-print_components-loop-i : goal.invariant-print_components-loop-i
invariant-print_components-loop-i l =
    SoFar l.fn.out l.out (components_text l.front (component_models (drop l.i l.components)) (value_models (drop l.i l.values)))
    (components_text [] (component_models l.components) (value_models l.values))

abbrev pub invariant-print_chosen-loop-variant : goal.invariant-print_chosen-loop-variant
invariant-print_chosen-loop-variant l = record {
  same : l.out ≡ l.fn.out;
  here : variant_text (variant_models (drop l.variant-index l.variants)) l.designator (value_model l.value) ≡ variant_text (variant_models l.variants) l.designator (value_model l.value);
}
