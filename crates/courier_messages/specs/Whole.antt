-- The value that all of some words spell.
use Rattle.std.specs.Prelude.{ℕ, List, length, ◌==◌, if◌then◌else◌, Option, Some, None, Result, Ok, Err}
use Rattle.courier_types.specs.declared.read_fault.ReadFault.{ReadFault}
use Rattle.courier_types.specs.Shape.{ShapeModel}
use Rattle.courier_types.specs.Value.{ValueModel}
use Rattle.courier_types.specs.Front.{value_of}

abbrev pub all_taken : List ℕ → Result (ValueModel × ℕ) ReadFault → Option ValueModel
all_taken words (Ok x) = if x.1 == length words then Some x.0 else None
all_taken words (Err e) = None

-- the value that all the words spell, if any
unfoldable pub whole : ShapeModel → List ℕ → Option ValueModel
whole shape words = all_taken words (value_of shape words)
