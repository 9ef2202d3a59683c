-- What the definitions imply: the statements of the laws, each under the name of its law.
use Rattle.std.specs.Prelude.{◌≡◌, ◌↔◌, ℕ, List, [], ◌++◌, length, take, Some, None, Ok, Err, IsTrue}
use Rattle.courier_types.specs.declared.read_fault.ReadFault.{ReadFault}
use Rattle.courier_types.specs.Shape.{ShapeModel, IsShape}
use Rattle.courier_types.specs.Value.{ValueModel}
use Rattle.courier_types.specs.Spelling.{AreWords, SpellsValue, value_spelling}
use Rattle.courier_types.specs.Check.{IsChecked, IsFirstDoubled, first_doubled, first_fault, wordless}
use Rattle.courier_types.specs.Fits.{Fits}
use Rattle.courier_types.specs.Fault.{IsValueFault}
use Rattle.courier_types.specs.Front.{IsValueAtFront, value_of}

abbrev pub NoSpellingBeginsAnother : Type 0
NoSpellingBeginsAnother = (shape : ShapeModel) (v w : ValueModel) (a b x y : List ℕ) → SpellsValue shape v a →
    SpellsValue shape w b → a ++ x ≡ b ++ y → (v ≡ w) × (a ≡ b)

pub record FittingValueIsSpelled : Type 0 where
  pub spells : (shape : ShapeModel) (value : ValueModel) → Fits shape value → SpellsValue shape value (value_spelling value)
  pub words : (shape : ShapeModel) (value : ValueModel) → Fits shape value → AreWords (value_spelling value)

pub record SpelledValueFits : Type 0 where
  pub fits : (shape : ShapeModel) (value : ValueModel) (words : List ℕ) → SpellsValue shape value words → Fits shape value
  pub words : (shape : ShapeModel) (value : ValueModel) (words : List ℕ) → SpellsValue shape value words → AreWords words

pub record ValueOfIsSpelled : Type 0 where
  pub found : (shape : ShapeModel) (words : List ℕ) (value : ValueModel) (taken : ℕ) → AreWords words →
      value_of shape words ≡ Ok (value, taken) → IsValueAtFront shape words value taken
  pub only : (shape : ShapeModel) (value : ValueModel) (spelling rest : List ℕ) → SpellsValue shape value spelling →
      value_of shape (spelling ++ rest) ≡ Ok (value, length spelling)

pub record ValueFaultIsTold : Type 0 where
  pub some : (shape : ShapeModel) (words : List ℕ) → IsChecked shape → IsShape shape → AreWords words →
      ((value : ValueModel) (taken : ℕ) → SpellsValue shape value (take taken words) → ⊥)
      ↔ ((fault : ReadFault) × IsValueFault shape words fault)
  pub one : (shape : ShapeModel) (words : List ℕ) (fault : ReadFault) → IsChecked shape → IsShape shape → AreWords words →
      (value_of shape words ≡ Err fault) ↔ IsValueFault shape words fault

abbrev pub WrittenValueIsRead : Type 0
WrittenValueIsRead = (shape : ShapeModel) (value : ValueModel) (rest : List ℕ) → Fits shape value →
    value_of shape (value_spelling value ++ rest) ≡ Ok (value, length (value_spelling value))

abbrev pub WordsAreReadWhole : Type 0
WordsAreReadWhole = (shape : ShapeModel) (value : ValueModel) (words : List ℕ) → AreWords words →
    SpellsValue shape value words ↔ (value_of shape words ≡ Ok (value, length words))

abbrev pub DoubledWordIsTheFirst : Type 0
DoubledWordIsTheFirst = (words : List ℕ) (word : ℕ) → (first_doubled words ≡ Some word) ↔ IsFirstDoubled words word

abbrev pub WordlessShapeHasAValueOfNoWords : Type 0
WordlessShapeHasAValueOfNoWords = (shape : ShapeModel) → first_fault shape ≡ None →
    IsTrue (wordless shape) ↔ ((value : ValueModel) × SpellsValue shape value [])
