-- The words of a message stand at the front of a buffer.
use Rattle.std.proofs.Common.{◌≡◌, ◌∙◌, ap, sym, ℕ, List, ◌++◌, length, take}
use Rattle.std.proofs.lemmas.List.{take_at}

-- as many words as the first list has are the first list
pub front_words : (n : ℕ) (xs ys now : List ℕ) → n ≡ length xs → now ≡ xs ++ ys → take n now ≡ xs
front_words n xs ys now count same = ap (take n) same ∙ take_at xs ys n (sym count)
