-- Values that are spelled by any one word have as many words as they are.
use Rattle.std.proofs.Common.{◌≡◌, ◌∙◌, true, List, length, length-append, refl, arith}
use Rattle.std.proofs.lemmas.Bool.{and_parts}
use Rattle.courier_types.specs.declared.any_word.AnyWord.{AnyWord}
use Rattle.courier_types.specs.declared.any_word.AnyWord.TheVariants.{Cardinal, Integer, Unspecified}
use Rattle.courier_types.specs.declared.value.Value.{Value}
use Rattle.courier_types.specs.AnyWord.{shape_of}
use Rattle.courier_types.specs.Value.{ValueModel, ValueModels, no_values, value_and, count, value_models}
use Rattle.courier_types.specs.Spelling.{value_spelling, values_spelling}
use Rattle.courier_types.specs.Fits.{has_shape, each_passes}
use Rattle.courier_types.proofs.Writes.{count_models}

one_word : (kind : AnyWord) (v : ValueModel) → has_shape (shape_of kind) v ≡ true → length (value_spelling v) ≡ 1
unfolding has_shape
one_word Cardinal (ValueModel.cardinal n) e = refl
one_word Integer (ValueModel.integer n) e = refl
one_word Unspecified (ValueModel.unspecified n) e = refl
one_word kind v e = absurd cc

one_each : (kind : AnyWord) (vs : ValueModels) → each_passes (has_shape (shape_of kind)) vs ≡ true → length (values_spelling vs) ≡ count vs
one_each kind no_values e = refl
one_each kind (value_and v vs) e =
    let p = and_parts (has_shape (shape_of kind) v) (each_passes (has_shape (shape_of kind)) vs) e in
    let all = length-append (value_spelling v) (values_spelling vs) in
    let one = one_word kind v p.0 in
    let more = one_each kind vs p.1 in
    omega (arith, all, one, more)

pub words_counted : (kind : AnyWord) (vs : List Value) → each_passes (has_shape (shape_of kind)) (value_models vs) ≡ true → length (values_spelling (value_models vs)) ≡ length vs
words_counted kind vs e = one_each kind (value_models vs) e ∙ count_models vs
