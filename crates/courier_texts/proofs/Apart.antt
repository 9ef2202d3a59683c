-- Texts that go on the same way, up to where they are told apart.
use Rattle.std.proofs.Common.{◌≡◌, ℕ, suc, ◌+◌, ◌*◌, ◌-◌, ◌^◌, ◌<◌, ◌&&◌, Bool, true, false, List, [], ◌∷◌, ◌++◌, length, refl, sym, ap, ◌∙◌, arith, rules, pos, negsuc}
use Rattle.std.specs.List.{list_all}
use Rattle.std.specs.Str.{all_ascii_digits}
use Rattle.std.specs.Fmt.{decimal, signed_decimal}
use Rattle.std.specs.Int.Signed.{mag}
use Rattle.std.specs.Prelude.{ℤ}
use Rattle.std.specs.Char.{is_ascii_digit}
use Rattle.std.proofs.lemmas.Str.Parse.{IsNumeralModel, numerals_by_fold}
use Rattle.std.proofs.lemmas.Fmt.{decimal_injective, decimal_nonempty, digits_decimal, signed_decimal_injective}
use Rattle.std.proofs.lemmas.Bool.{and_parts}
use Rattle.std.proofs.lemmas.Bool.Decides.{nat_tests}
use Rattle.courier_texts.specs.Laws.{is_plain}

-- nothing follows, or a byte that is not plain
abbrev pub IsApart : List ℕ → Type 0
IsApart [] = Unit {0}
IsApart (b ∷ bytes) = is_plain b ≡ false

-- a plain byte stands first
abbrev pub Starts : List ℕ → Type 0
Starts [] = ⊥
Starts (b ∷ bytes) = is_plain b ≡ true

abbrev pub IsPlain : List ℕ → Type 0
IsPlain bytes = list_all is_plain bytes ≡ true

pub heads : (b c : ℕ) (xs ys : List ℕ) → b ∷ xs ≡ c ∷ ys → (b ≡ c) × (xs ≡ ys)
heads b c xs ys e = (cc, cc)

pub clash : (c d : ℕ) → is_plain c ≡ true → is_plain d ≡ false → c ≡ d → ⊥
clash c d t f e = let g : true ≡ false = sym t ∙ ap is_plain e ∙ f in cc

-- plain bytes are the same where what follows them is apart
pub split : (a b x y : List ℕ) → IsPlain a → IsPlain b → IsApart x → IsApart y → a ++ x ≡ b ++ y → (a ≡ b) × (x ≡ y)
split [] [] x y p q ax ay e = (refl, e)
split [] (c ∷ b) [] y p q ax ay e = absurd (cc)
split [] (c ∷ b) (d ∷ x) y p q ax ay e =
    absurd (clash c d (and_parts (is_plain c) (list_all is_plain b) q).0 ax (sym (heads d c x (b ++ y) e).0))
split (c ∷ a) [] x [] p q ax ay e = absurd (cc)
split (c ∷ a) [] x (d ∷ y) p q ax ay e =
    absurd (clash c d (and_parts (is_plain c) (list_all is_plain a) p).0 ay (heads c d (a ++ x) y e).0)
split (c ∷ a) (d ∷ b) x y p q ax ay e =
    let h = heads c d (a ++ x) (b ++ y) e in
    let more = split a b x y (and_parts (is_plain c) (list_all is_plain a) p).1 (and_parts (is_plain d) (list_all is_plain b) q).1 ax ay h.1 in
    ((let same : c ≡ d = h.0 in let others : a ≡ b = more.0 in cc), more.1)

-- ---- decimals

read_on : ℕ → List ℕ → ℕ
read_on n [] = n
read_on n (c ∷ cs) = read_on (10 * n + (c - 48)) cs

own : IsNumeralModel (λ ds. all_ascii_digits ds ≡ true) (read_on 0)
unfolding read_on
own = numerals_by_fold _ (search rules) read_on (search rules)

digit_is_plain : (c : ℕ) → is_ascii_digit c ≡ true → is_plain c ≡ true
digit_is_plain c h = grind (arith, nat_tests)

digits_are_plain : (ds : List ℕ) → all_ascii_digits ds ≡ true → IsPlain ds
digits_are_plain [] h = refl
digits_are_plain (c ∷ cs) h =
    let p = and_parts (is_ascii_digit c) (all_ascii_digits cs) h in
    ap (λ (b : Bool). b && list_all is_plain cs) (digit_is_plain c p.0) ∙ digits_are_plain cs p.1

pub plain_decimal : (n : ℕ) → n < 2 ^ 64 → IsPlain (decimal n)
plain_decimal n h = digits_are_plain (decimal n) (digits_decimal own n h)

-- plain bytes start with a plain one, if there are some
pub plain_starts : (bytes more : List ℕ) → IsPlain bytes → 0 < length bytes → Starts (bytes ++ more)
plain_starts [] more p h = absurd (omega arith)
plain_starts (b ∷ bytes) more p h = (and_parts (is_plain b) (list_all is_plain bytes) p).0

pub decimal_starts : (n : ℕ) (more : List ℕ) → n < 2 ^ 64 → Starts (decimal n ++ more)
decimal_starts n more h = plain_starts (decimal n) more (plain_decimal n h) (decimal_nonempty n h)

pub signed_starts : (z : ℤ) (more : List ℕ) → mag z < 2 ^ 63 → Starts (signed_decimal z ++ more)
signed_starts (pos n) more h = decimal_starts n more (omega arith)
signed_starts (negsuc n) more h = refl

pub plain_signed : (z : ℤ) → mag z < 2 ^ 63 → IsPlain (signed_decimal z)
plain_signed (pos n) h = plain_decimal n (omega arith)
plain_signed (negsuc n) h = plain_decimal (suc n) (omega arith)

pub numbers : (n m : ℕ) (x y : List ℕ) → n < 2 ^ 64 → m < 2 ^ 64 → IsApart x → IsApart y → decimal n ++ x ≡ decimal m ++ y → (n ≡ m) × (x ≡ y)
numbers n m x y h k ax ay e =
    let p = split (decimal n) (decimal m) x y (plain_decimal n h) (plain_decimal m k) ax ay e in (decimal_injective n m h k p.0, p.1)

pub integers : (n m : ℤ) (x y : List ℕ) → mag n < 2 ^ 63 → mag m < 2 ^ 63 → IsApart x → IsApart y → signed_decimal n ++ x ≡ signed_decimal m ++ y → (n ≡ m) × (x ≡ y)
integers n m x y h k ax ay e =
    let p = split (signed_decimal n) (signed_decimal m) x y (plain_signed n h) (plain_signed m k) ax ay e in
    (signed_decimal_injective n m h k p.0, p.1)
