-- Where reading may be refused memory: this project's rule. Reading goes from the left, and met no fault before that
-- place.
use Rattle.std.specs.Prelude.{◌≡◌, ◌≢◌, ◌⊎◌, ℕ, ◌+◌, ◌/◌, ◌%◌, ◌<◌, ◌≤◌, List, [], ◌∷◌, length, IsOk}
use Rattle.courier_types.specs.Shape.{ShapeModel, ShapeModels, no_shapes, shape_and, MemberModels, no_members, member_and}
use Rattle.courier_types.specs.Reading.{reading}

-- a want of memory to read this many bytes: there is at least one, and their words are all there
abbrev pub BytesWant : ℕ → List ℕ → Type 0
BytesWant n ws = (0 < n) × (n / 2 + n % 2 ≤ length ws)

-- a want of memory to read a text: its count, then its bytes
abbrev pub TextWants : List ℕ → Type 0
TextWants [] = ⊥
TextWants (n ∷ ws) = BytesWant n ws

-- a want of memory to read this many elements: there is at least one, and words are there
abbrev pub ElementsWant : ℕ → List ℕ → Type 0
ElementsWant n ws = (0 < n) × (0 < length ws)

-- a want of memory to read a sequence: a count that is at most this one, then its elements
abbrev pub CountedWant : ℕ → List ℕ → Type 0
CountedWant most [] = ⊥
CountedWant most (n ∷ ws) = (n ≤ most) × ElementsWant n ws

-- a want of memory to read a record: it has a component
abbrev pub PartsWant : ShapeModels → Type 0
PartsWant no_shapes = ⊥
PartsWant (shape_and _ _) = Unit {0}

-- a want of memory to read a choice: its designator, then what its value wants
abbrev pub ChoiceWants : (ℕ → List ℕ → Type 0) → List ℕ → Type 0
ChoiceWants wants [] = ⊥
ChoiceWants wants (d ∷ ws) = wants d ws

-- reading a value of the shape from the words wants memory
abbrev mutual
  pub WantsMemory : ShapeModel → List ℕ → Type 0
  WantsMemory ShapeModel.text ws = TextWants ws
  WantsMemory (ShapeModel.array n element) ws = ElementsWant n ws
  WantsMemory (ShapeModel.sequence most element) ws = CountedWant most ws
  WantsMemory (ShapeModel.fields parts) ws = PartsWant parts
  WantsMemory (ShapeModel.choice members) ws = ChoiceWants (MemberWants members) ws
  WantsMemory _ ws = ⊥

  -- the designator is listed, and its value wants memory, or is read and then held
  pub MemberWants : MemberModels → ℕ → List ℕ → Type 0
  MemberWants no_members _ _ = ⊥
  MemberWants (member_and designator shape members) chosen ws =
      ((chosen ≡ designator) × (WantsMemory shape ws ⊎ IsOk (reading shape ws))) ⊎ ((chosen ≢ designator) × MemberWants members chosen ws)
