-- Where reading may be refused memory, as its functions come there.
use Rattle.std.proofs.Common.{◌≡◌, ℕ, zero, suc, ◌+◌, ◌*◌, get_or, ◌<◌, ◌≤◌, Bool, true, false, cond, ◌&&◌, List, [], ◌∷◌, length, drop, None, Result, Ok, Err, is_ok, IsOk, refl, sym, ap, subst, ◌∙◌, arith, inl, inr, eq-eqb}
use Rattle.std.proofs.lemmas.Bool.{cases_Bool, cases_eq, le-ltb}
use denote.Param.Weighed.{most, at_most}
use Rattle.std.specs.Option.{option_or}
use Rattle.courier_types.specs.declared.read_fault.Reason.TheVariants.{Truncated, OverMaximum}
use Rattle.courier_types.specs.declared.stop.Stop.{Stop}
use Rattle.courier_types.specs.declared.stop.Stop.TheVariants as stops
use Rattle.courier_types.specs.Source.{Fails}
use Rattle.courier_types.specs.declared.shape.Shape.{Shape}
use Rattle.courier_types.specs.Shape.{ShapeModel, ShapeModels, no_shapes, shape_and, MemberModels, no_members, member_and, shape_model, shape_models, member_models}
use Rattle.courier_types.specs.Value.{ValueModel, ValueModels, value_and}
use Rattle.courier_types.specs.Check.{wordless, all_wordless, element_fault, first_fault, faults_of_parts, faults_of_members}
use Rattle.courier_types.specs.Memory.{ElementsWant, CountedWant, PartsWant, ChoiceWants, WantsMemory, MemberWants}
use Rattle.courier_types.specs.Reading.{Fault, ◌>>=◌, Reader, over, front_long, front_listed, front_text, reading_times, reading_counted, reading_choice, reading, reading_fields, reading_member}
use Rattle.courier_types.proofs.Sound.{neither}
use Rattle.courier_types.proofs.Loops.{at_member, past_member, failed}
use Rattle.courier_types.proofs.Wordless.{of_no_words}
use Rattle.courier_types.proofs.SpelledIsRead.{again}

-- ---- sound shapes

no_words_no_fault : (b : Bool) → element_fault b ≡ None → b ≡ false
no_words_no_fault true h = absurd cc
no_words_no_fault false h = refl

-- an element of a sound shape has words, and is sound
pub element_has_words : (shape : ShapeModel) → option_or (element_fault (wordless shape)) (first_fault shape) ≡ None → wordless shape ≡ false
element_has_words shape h = no_words_no_fault (wordless shape) (neither (element_fault (wordless shape)) (first_fault shape) h).0

pub element_is_sound : (shape : ShapeModel) → option_or (element_fault (wordless shape)) (first_fault shape) ≡ None → first_fault shape ≡ None
element_is_sound shape h = (neither (element_fault (wordless shape)) (first_fault shape) h).1

pub elements_are_sound : (shape : ShapeModel) → option_or (element_fault (wordless shape)) (first_fault shape) ≡ None → (wordless shape ≡ false) × (first_fault shape ≡ None)
elements_are_sound shape h = (element_has_words shape h, element_is_sound shape h)

parts_from : (parts : List Shape) (i : ℕ) → faults_of_parts (shape_models parts) ≡ None → faults_of_parts (shape_models (drop i parts)) ≡ None
parts_from parts zero h = h
parts_from [] (suc i) h = h
parts_from (part ∷ parts) (suc i) h = parts_from parts i (neither (first_fault (shape_model part)) (faults_of_parts (shape_models parts)) h).1

pub part_is_sound : (parts : List Shape) (i : ℕ) (part : Shape) → drop i parts ≡ part ∷ drop (i + 1) parts → faults_of_parts (shape_models parts) ≡ None → first_fault (shape_model part) ≡ None
part_is_sound parts i part here h =
    (neither (first_fault (shape_model part)) (faults_of_parts (shape_models (drop (i + 1) parts))) (subst (λ ps. faults_of_parts (shape_models ps) ≡ None) here (parts_from parts i h))).0

members_from : (members : List (ℕ × Shape)) (i : ℕ) → faults_of_members (member_models members) ≡ None → faults_of_members (member_models (drop i members)) ≡ None
members_from members zero h = h
members_from [] (suc i) h = h
members_from (member ∷ members) (suc i) h = members_from members i (neither (first_fault (shape_model member.1)) (faults_of_members (member_models members)) h).1

pub member_is_sound : (members : List (ℕ × Shape)) (i : ℕ) (member : ℕ × Shape) → drop i members ≡ member ∷ drop (i + 1) members → faults_of_members (member_models members) ≡ None → first_fault (shape_model member.1) ≡ None
member_is_sound members i member here h =
    (neither (first_fault (shape_model member.1)) (faults_of_members (member_models (drop (i + 1) members))) (subst (λ ms. faults_of_members (member_models ms) ≡ None) here (members_from members i h))).0

-- ---- a part is no deeper than what it is a part of

pub part_falls : {X : Type 0} (size : X → ℕ) (xs : List X) (i : ℕ) (x : X) (t k : ℕ) → x ≡ get_or xs i x → i < length xs → 3 * most size xs + suc k ≡ t → 3 * size x + 0 < t
part_falls size xs i x t k e lt h =
    let h1 : size (get_or xs i x) ≤ most size xs = at_most size xs i x lt in
    let h2 : size x ≡ size (get_or xs i x) = ap size e in
    omega arith

pub member_falls : {X Y : Type 0} (size : X → ℕ) (inner : Y → ℕ) (xs : List X) (i : ℕ) (x : X) (y : Y) (t k : ℕ) → x ≡ get_or xs i x → i < length xs → inner y ≤ size x → 3 * most size xs + suc k ≡ t → 3 * inner y + 0 < t
member_falls size inner xs i x y t k e lt le h =
    let h1 : size (get_or xs i x) ≤ most size xs = at_most size xs i x lt in
    let h2 : size x ≡ size (get_or xs i x) = ap size e in
    omega arith

-- ---- at the end of the words

other_false : (a b : Bool) → a ≡ true → (a && b) ≡ false → b ≡ false
other_false true b e h = h
other_false false b e h = absurd cc

mutual
  unfolding reading reading_times reading_counted reading_choice front_text front_listed front_long

  -- a shape whose values have words is not read of none
  pub none_to_read : (shape : ShapeModel) → wordless shape ≡ false → first_fault shape ≡ None → reading shape [] ≡ failed (0, Truncated)
  none_to_read ShapeModel.boolean w h = refl
  none_to_read ShapeModel.cardinal w h = refl
  none_to_read ShapeModel.long_cardinal w h = refl
  none_to_read ShapeModel.integer w h = refl
  none_to_read ShapeModel.long_integer w h = refl
  none_to_read ShapeModel.unspecified w h = refl
  none_to_read ShapeModel.text w h = refl
  none_to_read (ShapeModel.enumeration listed) w h = refl
  none_to_read (ShapeModel.array zero shape) w h = let t = eq-eqb 0 0 refl in absurd cc
  none_to_read (ShapeModel.array (suc n) shape) w h =
      ap (λ r. over ValueModel.array (r >>= λ first. over (value_and first.0) (reading_times (reading shape) n first.1))) (none_to_read shape (element_has_words shape h) (element_is_sound shape h))
  none_to_read (ShapeModel.sequence most shape) w h = refl
  none_to_read (ShapeModel.fields shapes) w h = ap (over ValueModel.fields) (no_parts_to_read shapes w h)
  none_to_read (ShapeModel.choice some_members) w h = refl

  no_parts_to_read : (shapes : ShapeModels) → all_wordless shapes ≡ false → faults_of_parts shapes ≡ None → reading_fields shapes [] ≡ failed (0, Truncated)
  no_parts_to_read no_shapes w h = absurd cc
  no_parts_to_read (shape_and shape shapes) w h =
      let p = neither (first_fault shape) (faults_of_parts shapes) h in
      elim (cases_Bool (wordless shape)) [
        | inl none ↦
            let v = of_no_words shape none in
            ap (λ r. r >>= λ first. over (value_and first.0) (reading_fields shapes first.1)) (again shape v.0 [] [] v.1)
            ∙ ap (over (value_and v.0)) (no_parts_to_read shapes (other_false (wordless shape) (all_wordless shapes) none w) p.1)
        | inr some ↦ ap (λ r. r >>= λ first. over (value_and first.0) (reading_fields shapes first.1)) (none_to_read shape some p.0)
      ]

pub no_elements_to_read : (shape : ShapeModel) (count : ℕ) (ws : List ℕ) → wordless shape ≡ false → first_fault shape ≡ None → 0 < count → length ws ≡ 0 → reading_times (reading shape) count ws ≡ failed (0, Truncated)
unfolding reading_times
no_elements_to_read shape zero ws w h k e = absurd (omega arith)
no_elements_to_read shape (suc n) [] w h k e = ap (λ r. r >>= λ first. over (value_and first.0) (reading_times (reading shape) n first.1)) (none_to_read shape w h)
no_elements_to_read shape (suc n) (x ∷ ws) w h k e = absurd (omega arith)

-- ---- records

-- where room was refused, some was wanted
pub room_wanted : {A E : Type 0} (r : Result A E) (e : E) (n : ℕ) → (n ≡ 0 → IsOk r) → r ≡ Err e → 0 < n
room_wanted r e zero h k =
    let some : is_ok r ≡ true = h refl in
    let none : is_ok r ≡ false = ap is_ok k in
    absurd cc
room_wanted r e (suc n) h k = omega arith

pub some_parts : (parts : List Shape) → 0 < length parts → PartsWant (shape_models parts)
some_parts [] h = absurd (omega arith)
some_parts (part ∷ parts) h = tt

-- ---- sequences

-- behind a count that is no more than the most, the values of a sequence are read one by one
counted_is : (one : Reader ValueModel) (most count : ℕ) (ws behind : List ℕ) → ws ≡ count ∷ behind → count ≤ most → reading_counted one most ws ≡ reading_times one count behind
unfolding reading_counted
counted_is one most count ws behind there few =
    ap (reading_counted one most) there ∙ ap (λ (b : Bool). cond b (failed (length behind + 1, OverMaximum)) (reading_times one count behind)) (le-ltb most count few)

-- a sequence stops where its elements do, which stand behind the count
pub sequence_stops : (element : ShapeModel) (most count : ℕ) (ws behind : List ℕ) (e : Stop) → ws ≡ count ∷ behind → count ≤ most → Fails (ElementsWant count behind) e (reading_times (reading element) count behind)
    → Fails (CountedWant most ws) e (over ValueModel.sequence (reading_counted (reading element) most ws))
sequence_stops element most count ws behind stops.Truncated there few h = ap (over ValueModel.sequence) (counted_is (reading element) most count ws behind there few ∙ h)
sequence_stops element most count ws behind (stops.WrongWord n r) there few h = ap (over ValueModel.sequence) (counted_is (reading element) most count ws behind there few ∙ h)
sequence_stops element most count ws behind stops.NoMemory there few h = subst (λ (u : List ℕ). CountedWant most u) (sym there) (few, h)

pub sequence_read : (element : ShapeModel) (most count : ℕ) (ws behind : List ℕ) (vs : ValueModels) (after : List ℕ) → ws ≡ count ∷ behind → count ≤ most → reading_times (reading element) count behind ≡ Ok (vs, after)
    → over ValueModel.sequence (reading_counted (reading element) most ws) ≡ Ok (ValueModel.sequence vs, after)
sequence_read element most count ws behind vs after there few h = ap (over ValueModel.sequence) (counted_is (reading element) most count ws behind there few ∙ h)

-- ---- choices

pub member_here : (members : List (ℕ × Shape)) (i d : ℕ) (m : ℕ × Shape) (ws : List ℕ) → drop i members ≡ m ∷ drop (i + 1) members → m.0 ≡ d → WantsMemory (shape_model m.1) ws → MemberWants (member_models (drop i members)) d ws
member_here members i d m ws here h w = subst (λ ms. MemberWants (member_models ms) d ws) (sym here) (inl (sym h, inl w))

pub member_past : (members : List (ℕ × Shape)) (i d : ℕ) (m : ℕ × Shape) (ws : List ℕ) → drop i members ≡ m ∷ drop (i + 1) members → (m.0 ≡ d → ⊥) → MemberWants (member_models (drop (i + 1) members)) d ws → MemberWants (member_models (drop i members)) d ws
member_past members i d m ws here h w = subst (λ ms. MemberWants (member_models ms) d ws) (sym here) (inr (λ x. h (sym x), w))

is_ok_where : {A : Type 0} (a b : Result A Fault) → a ≡ b → IsOk a → IsOk b
is_ok_where a b e h = subst (λ r. IsOk r) e h

-- a value that was read is held
read_is_held : (members : MemberModels) (d : ℕ) (ws : List ℕ) → IsOk (reading_member members d ws) → MemberWants members d ws
unfolding reading_member reading
read_is_held no_members d ws h = let e : false ≡ true = h in absurd cc
read_is_held (member_and e shape members) d ws h =
    elim (cases_eq d e) [
      | inl g ↦ inl (g, inr (is_ok_where (reading_member (member_and e shape members) d ws) (reading shape ws) (at_member e shape members d ws (sym g)) h))
      | inr g ↦ inr (g, read_is_held members d ws (is_ok_where (reading_member (member_and e shape members) d ws) (reading_member members d ws) (past_member e shape members d ws (λ x. g (sym x))) h))
    ]

pub held : (members : MemberModels) (d : ℕ) (ws rest : List ℕ) (v : ValueModel) (after : List ℕ) → ws ≡ d ∷ rest → reading_member members d rest ≡ Ok (v, after) → ChoiceWants (MemberWants members) ws
held members d ws rest v after e h = subst (λ (u : List ℕ). ChoiceWants (MemberWants members) u) (sym e) (read_is_held members d rest (is_ok_where (Ok (v, after)) (reading_member members d rest) (sym h) refl))

-- a choice stops where its value does, which stands behind the designator
pub choice_stops : (members : MemberModels) (d : ℕ) (ws rest : List ℕ) (e : Stop) → ws ≡ d ∷ rest → Fails (MemberWants members d rest) e (reading_member members d rest) → Fails (ChoiceWants (MemberWants members) ws) e (reading_choice (reading_member members) ws)
unfolding reading_choice
choice_stops members d ws rest stops.Truncated there h = ap (reading_choice (reading_member members)) there ∙ ap (over (ValueModel.choice d)) h
choice_stops members d ws rest (stops.WrongWord n r) there h = ap (reading_choice (reading_member members)) there ∙ ap (over (ValueModel.choice d)) h
choice_stops members d ws rest stops.NoMemory there h = subst (λ (u : List ℕ). ChoiceWants (MemberWants members) u) (sym there) h

pub choice_read : (members : MemberModels) (d : ℕ) (ws rest : List ℕ) (v : ValueModel) (after : List ℕ) → ws ≡ d ∷ rest → reading_member members d rest ≡ Ok (v, after) → reading_choice (reading_member members) ws ≡ Ok (ValueModel.choice d v, after)
unfolding reading_choice
choice_read members d ws rest v after there h = ap (reading_choice (reading_member members)) there ∙ ap (over (ValueModel.choice d)) h
