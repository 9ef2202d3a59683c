-- A text that is appended part by part.
use Rattle.std.proofs.Common.{◌≡◌, ℕ, ◌+◌, ◌≤◌, ◌<◌, List, ◌++◌, length, Vec, Global, vec_len, vec_capacity, ◌∙◌, ap, append_assoc, arith}
use Rattle.std.proofs.lemmas.List.{length-append}
use Rattle.call_texts.specs.Appending.{IsTextAppended}

-- some of the whole text was appended, and this is left
pub record SoFar (old now : Vec ℕ Global) (left whole : List ℕ) : Type 0 where
  pub items : now.items ++ left ≡ old.items ++ whole
  pub count : vec_len now + length left ≡ vec_len old + length whole
  pub capacity : vec_capacity old ≤ vec_capacity now

pub goes_on : (old now next : Vec ℕ Global) (a left whole : List ℕ) → SoFar old now (a ++ left) whole → IsTextAppended a now next → SoFar old next left whole
goes_on old now next a left whole s p = record {
  items = ap (λ (l : List ℕ). l ++ left) p.items ∙ append_assoc now.items a left ∙ s.items;
  count = omega (arith, length-append a left, s.count, p.count);
  capacity = omega (arith, s.capacity, p.capacity);
}

pub stops : (old now : Vec ℕ Global) (a left whole : List ℕ) → SoFar old now (a ++ left) whole → vec_capacity now < vec_len now + length a → vec_capacity old < vec_len old + length whole
stops old now a left whole s h = omega (arith, length-append a left, s.count, s.capacity)
