use Rattle.std.proofs.Common.{◌≡◌, drop}
use Rattle.courier_types.specs.AnyWord.{shape_of}
use Rattle.courier_types.specs.Value.{value_models}
use Rattle.courier_types.specs.Fits.{has_shape, each_passes, AreValues}
use Rattle.courier_types.proofs.fitting.are_words.Given as goal

abbrev pub invariant-loop-value : goal.invariant-loop-value
invariant-loop-value l = record {
  decides : each_passes (has_shape (shape_of l.kind)) (value_models (drop l.value-index l.values)) ≡ each_passes (has_shape (shape_of l.kind)) (value_models l.values);
  numbers : AreValues (value_models (drop l.value-index l.values)) → AreValues (value_models l.values);
}
