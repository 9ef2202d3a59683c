-- A text that is appended part by part.
use Rattle.std.proofs.Common.{◌≡◌, ℕ, ◌+◌, ◌≤◌, List, [], ◌++◌, length, Result, Ok, Err, Vec, Global, vec_len, vec_capacity, refl, sym, ap, subst, ◌∙◌, append_assoc, arith}
use Rattle.std.proofs.lemmas.List.{append-nil, length-append}
use Rattle.courier_texts.specs.declared.text_refusal.TextRefusal.{TextRefusal}
use Rattle.courier_texts.specs.declared.text_refusal.TextRefusal.TheVariants as refusals
use Rattle.courier_texts.specs.Appending.{most_text, IsAppended, IsRefused, Appends}

-- some of the whole text was appended, and this is left
pub record SoFar (old now : Vec ℕ Global) (left whole : List ℕ) : Type 0 where
  pub items : now.items ++ left ≡ old.items ++ whole
  pub count : vec_len now + length left ≡ vec_len old + length whole
  pub within : vec_len now ≤ most_text
  pub capacity : vec_capacity old ≤ vec_capacity now

pub begins : (old : Vec ℕ Global) (whole : List ℕ) → vec_len old ≤ most_text → SoFar old old whole whole
begins old whole h = record { items = refl; count = refl; within = h; capacity = omega arith }

pub left_is : (old now : Vec ℕ Global) (left other whole : List ℕ) → SoFar old now left whole → left ≡ other → SoFar old now other whole
left_is old now left other whole s e = let P : List ℕ → Type 0 = λ l. SoFar old now l whole in subst P e s

pub goes_on : (old now next : Vec ℕ Global) (a left whole : List ℕ) → SoFar old now (a ++ left) whole → IsAppended a now next → SoFar old next left whole
goes_on old now next a left whole s p = record {
  items = ap (λ (l : List ℕ). l ++ left) p.items ∙ append_assoc now.items a left ∙ s.items;
  count = omega (arith, length-append a left, s.count, p.count);
  within = p.within;
  capacity = omega (arith, s.capacity, p.capacity);
}

pub stops : (e : TextRefusal) (old now : Vec ℕ Global) (a left whole : List ℕ) → SoFar old now (a ++ left) whole → IsRefused e a now → IsRefused e whole old
stops refusals.LongText old now a left whole s h = omega (arith, length-append a left, s.count)
stops refusals.NoMemory old now a left whole s h = omega (arith, length-append a left, s.count, s.capacity)

pub done : (old now : Vec ℕ Global) (whole : List ℕ) → SoFar old now [] whole → IsAppended whole old now
done old now whole s = record {
  items = sym (append-nil now.items) ∙ s.items;
  count = omega (arith, s.count);
  within = s.within;
  capacity = s.capacity;
}

pub all_printed : {old now : Vec ℕ Global} {left whole : List ℕ} → SoFar old now left whole → left ≡ [] → IsAppended whole old now
all_printed {old} {now} {left} {whole} s none = done old now whole (left_is old now left [] whole s none)

-- the last part
pub ends : {A : Type 0} (r : Result A TextRefusal) (old now new : Vec ℕ Global) (a whole : List ℕ) → SoFar old now a whole → Appends r a now new → Appends r whole old new
ends (Ok x) old now new a whole s p = done old new whole (goes_on old now new a [] whole (left_is old now a (a ++ []) whole s (sym (append-nil a))) p)
ends (Err e) old now new a whole s p = stops e old now a [] whole (left_is old now a (a ++ []) whole s (sym (append-nil a))) p

pub nothing : (old now : Vec ℕ Global) → now ≡ old → vec_len old ≤ most_text → IsAppended [] old now
nothing old now same h =
    let P : Vec ℕ Global → Type 0 = IsAppended [] old in
    subst P (sym same) (done old old [] (begins old [] h))
