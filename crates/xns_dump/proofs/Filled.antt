-- Texts that are written part by part, from the left.
use Rattle.std.proofs.Common.{◌≡◌, ◌∙◌, ap, sym, arith, ℕ, ◌+◌, ◌≤◌, ◌<◌, List, [], ◌∷◌, ◌++◌, length, slice_set, take, drop, length-append}
use Rattle.std.proofs.lemmas.List.{length-drop, length-take-le, take_all, take_more_set}
use Rattle.std.proofs.lemmas.Slice.{take-put_mid}
use borrow.Rule.Slice.PartMut.{put_mid}

-- the length stays where a part is as long as what it takes the place of
pub length-put : (text new : List ℕ) (a k : ℕ) → a + k ≤ length text → length new ≡ k → length (put_mid a k text new) ≡ length text
length-put text new a k fits e =
    omega (arith, fits, e, length-append (take a text) (new ++ drop k (drop a text)), length-append new (drop k (drop a text)), length-take-le a text (omega arith), length-drop k (drop a text), length-drop a text)

-- a part more
pub part_written : (text before new : List ℕ) (a k n : ℕ) → a + k ≤ length text → length new ≡ k → n ≡ a + k → take a text ≡ before
    → take n (put_mid a k text new) ≡ before ++ new
part_written text before new a k n fits e en so_far =
    take-put_mid a k text new n (omega (arith, e, en)) (omega arith) ∙ ap (λ l. l ++ new) so_far

-- a byte more
pub byte_written : (text before : List ℕ) (a byte n : ℕ) → a < length text → n ≡ a + 1 → take a text ≡ before
    → take n (slice_set text a byte) ≡ before ++ (byte ∷ [])
byte_written text before a byte n fits en so_far =
    ap (λ (m : ℕ). take m (slice_set text a byte)) en ∙ take_more_set text a byte fits ∙ ap (λ l. l ++ (byte ∷ [])) so_far

-- all parts
pub all_written : (text whole : List ℕ) (n : ℕ) → length text ≤ n → take n text ≡ whole → text ≡ whole
all_written text whole n le so_far = sym (take_all n text le) ∙ so_far
