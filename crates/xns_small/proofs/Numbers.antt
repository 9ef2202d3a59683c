-- The numbers of two and four bytes in a place, spelled, and what follows them.
use Rattle.std.proofs.Common.{◌≡◌, ℕ, ◌+◌, ◌-◌, ◌<◌, ◌≤◌, List, ◌++◌, length, drop, take, get_or, sym, ap, ◌∙◌, arith}
use Rattle.std.specs.Prelude.{slice_range}
use Rattle.std.specs.Int.{w16, w32, to_be_bytes}
use Rattle.std.proofs.lemmas.List.{take-append-drop, drop-drop}
use Rattle.std.proofs.lemmas.List.Elements.{All-from_get_or}
use Rattle.xns_idp.proofs.Slices.{word_slice, long_slice}
use Rattle.xns_idp.specs.Packet.{AreBytes}
use Rattle.xns_idp.specs.Reading.{word_at, long_at}

are_bytes : (bytes : List ℕ) → ((i : ℕ) → get_or bytes i 0 < 256) → AreBytes bytes
are_bytes bytes fits = All-from_get_or (λ x. x < 256) bytes 0 (λ i _. fits i)

-- k bytes in a place, and what follows them
part_and_rest : (n k : ℕ) (bytes : List ℕ) → drop n bytes ≡ slice_range bytes n (n + k) ++ drop (n + k) bytes
part_and_rest n k bytes =
    let count : k ≡ n + k - n = omega arith in
    sym (take-append-drop k (drop n bytes))
    ∙ (ap (λ (xs : List ℕ). take k (drop n bytes) ++ xs) (drop-drop k n bytes)
    ∙ ap (λ (m : ℕ). take m (drop n bytes) ++ drop (n + k) bytes) count)

pub word_spelled : (n : ℕ) (bytes : List ℕ) → ((i : ℕ) → get_or bytes i 0 < 256) → n + 2 ≤ length bytes → drop n bytes ≡ to_be_bytes w16 (word_at bytes n) ++ drop (n + 2) bytes
word_spelled n bytes fits le =
    part_and_rest n 2 bytes ∙ ap (λ (xs : List ℕ). xs ++ drop (n + 2) bytes) (sym (word_slice bytes n (n + 2) (are_bytes bytes fits) (omega arith) le))

pub long_spelled : (n : ℕ) (bytes : List ℕ) → ((i : ℕ) → get_or bytes i 0 < 256) → n + 4 ≤ length bytes → drop n bytes ≡ to_be_bytes w32 (long_at bytes n) ++ drop (n + 4) bytes
long_spelled n bytes fits le =
    part_and_rest n 4 bytes ∙ ap (λ (xs : List ℕ). xs ++ drop (n + 4) bytes) (sym (long_slice bytes n (n + 4) (are_bytes bytes fits) (omega arith) le))
