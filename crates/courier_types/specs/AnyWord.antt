-- Shapes of which any one word spells a value.
use Rattle.std.specs.Prelude.{ℕ}
use Rattle.std.specs.Int.{w16, cast_signed}
use Rattle.courier_types.specs.declared.any_word.AnyWord.{AnyWord}
use Rattle.courier_types.specs.declared.any_word.AnyWord.TheVariants.{Cardinal, Integer, Unspecified}
use Rattle.courier_types.specs.Shape.{ShapeModel}
use Rattle.courier_types.specs.Value.{ValueModel}

abbrev pub shape_of : AnyWord → ShapeModel
shape_of Cardinal = ShapeModel.cardinal
shape_of Integer = ShapeModel.integer
shape_of Unspecified = ShapeModel.unspecified

-- the value that the word spells
abbrev pub word_value : AnyWord → ℕ → ValueModel
word_value Cardinal n = ValueModel.cardinal n
word_value Integer n = ValueModel.integer (cast_signed w16 n)
word_value Unspecified n = ValueModel.unspecified n
