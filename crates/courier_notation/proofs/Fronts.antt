-- The longest front of bytes that pass a test, and the number that digits make.
use Rattle.std.proofs.Common.{◌≡◌, ℕ, zero, suc, ◌+◌, ◌*◌, ◌-◌, ◌≤◌, ◌<◌, Bool, true, false, cond, List, [], ◌∷◌, length, take, drop, get_or, refl, ap, ◌∙◌, arith}
use Rattle.courier_notation.specs.Lexing.{passing_front, behind_front, digits_number}

-- all bytes before this place pass the test, and the byte at this place fails it or is none
pub split_is : (test : ℕ → Bool) (bytes : List ℕ) (i : ℕ) → ((k : ℕ) → k < i → test (get_or bytes k 0) ≡ true) → i ≤ length bytes → (i < length bytes → test (get_or bytes i 0) ≡ false)
    → (passing_front test bytes ≡ take i bytes) × (behind_front test bytes ≡ drop i bytes)
split_is test [] zero before within at = (refl, refl)
split_is test [] (suc i) before within at = absurd (omega arith)
split_is test (b ∷ bytes) zero before within at =
    let fails : test b ≡ false = at (omega arith) in
    (ap (λ (t : Bool). cond t (b ∷ passing_front test bytes) []) fails, ap (λ (t : Bool). cond t (behind_front test bytes) (b ∷ bytes)) fails)
split_is test (b ∷ bytes) (suc i) before within at =
    let passes : test b ≡ true = before 0 (omega arith) in
    let others = split_is test bytes i (λ k h. before (suc k) (omega arith)) (omega arith) (λ h. at (omega arith)) in
    (ap (λ (t : Bool). cond t (b ∷ passing_front test bytes) []) passes ∙ ap (λ (f : List ℕ). b ∷ f) others.0, ap (λ (t : Bool). cond t (behind_front test bytes) (b ∷ bytes)) passes ∙ others.1)

-- more digits make no lesser number
pub digits_grow : (n : ℕ) (digits : List ℕ) → n ≤ digits_number n digits
digits_grow n [] = omega arith
digits_grow n (d ∷ digits) = omega (arith, digits_grow (10 * n + (d - 48)) digits)
