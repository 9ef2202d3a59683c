-- What is written of the arguments of a call: this project's account of the words that follow the head of a call.
use Rattle.std.specs.Prelude.{◌≡◌, ℕ, List}
use Rattle.courier_types.specs.Fits.{Fits}
use Rattle.courier_types.specs.Shape.{shape_model}
use Rattle.courier_types.specs.Spelling.{value_spelling}
use Rattle.courier_types.specs.Value.{value_model}
use Rattle.courier_calls.specs.Calls.{ArgumentsModel, argument_words}
use Rattle.courier_calls.specs.declared.call.Written.{Written}
use Rattle.courier_calls.specs.declared.call.Written.TheVariants.{Value, Words}

-- a value that is written fits its shape
abbrev pub CanBeWritten : Written → Type 0
CanBeWritten (Value shape value) = Fits (shape_model shape.now) (value_model value.now)
CanBeWritten (Words words) = Unit {0}

abbrev pub written_words : Written → List ℕ
written_words (Value shape value) = value_spelling (value_model value.now)
written_words (Words words) = words.now

-- what is written is of the arguments: it fits, and its words are theirs
pub record IsOfArguments (arguments : ArgumentsModel) (written : Written) : Type 0 where
  pub fits : CanBeWritten written
  pub words : written_words written ≡ argument_words arguments
