-- Numbers of two and of four bytes.
use Rattle.std.proofs.Common.{◌≡◌, ℕ, ◌+◌, ◌*◌, ◌/◌, ◌%◌, ◌^◌, ◌<◌, [], ◌∷◌, ◌++◌, refl, arith}
use Rattle.std.specs.Int.{w16, w32, to_be_bytes}

-- ---- the number of a number's bytes is that number

pub word_back : (n : ℕ) → n < 2 ^ 16 → 256 * (n / 256 % 256) + n % 256 ≡ n
word_back n h = omega arith

pub long_back : (n : ℕ) → n < 2 ^ 32 → 65536 * (256 * (n / 16777216 % 256) + n / 65536 % 256) + (256 * (n / 256 % 256) + n % 256) ≡ n
long_back n h = omega arith

-- ---- the bytes of the number of bytes are those bytes

pub two_bytes : (x y : ℕ) → x < 256 → y < 256 → to_be_bytes w16 (256 * x + y) ≡ x ∷ y ∷ []
two_bytes x y hx hy =
    let high : (256 * x + y) / 256 % 256 ≡ x = omega arith in
    let low : (256 * x + y) % 256 ≡ y = omega arith in
    rw (high, low) refl

pub four_bytes : (m n : ℕ) → m < 65536 → n < 65536 → to_be_bytes w32 (65536 * m + n) ≡ to_be_bytes w16 m ++ to_be_bytes w16 n
four_bytes m n hm hn =
    let a : (65536 * m + n) / 16777216 % 256 ≡ m / 256 % 256 = omega arith in
    let b : (65536 * m + n) / 65536 % 256 ≡ m % 256 = omega arith in
    let c : (65536 * m + n) / 256 % 256 ≡ n / 256 % 256 = omega arith in
    let d : (65536 * m + n) % 256 ≡ n % 256 = omega arith in
    rw (a, b, c, d) refl
