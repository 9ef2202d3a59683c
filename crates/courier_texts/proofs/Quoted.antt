-- A string between quotes is read back byte by byte.
use Rattle.std.proofs.Common.{◌≡◌, ℕ, ◌+◌, ◌*◌, ◌-◌, ◌/◌, ◌%◌, ◌<◌, ◌==◌, Bool, true, false, List, [], ◌∷◌, ◌++◌, Option, Some, None, refl, sym, ap, ◌∙◌, append_assoc, arith}
use Rattle.std.specs.Prelude.{nat_lt, if◌then◌else◌}
use Rattle.std.specs.List.{flat_map}
use Rattle.std.proofs.lemmas.Bool.{eqb-true}
use Rattle.std.proofs.lemmas.Bool.Decides.{nat_tests}
use Rattle.courier_texts.specs.Printing.{hex_digit, escaped, quoted_byte}
use Rattle.courier_texts.proofs.Apart.{heads}

-- the value of a hex digit
abbrev hex_value : ℕ → ℕ
hex_value h = if nat_lt h 58 then h - 48 else h - 87

-- the byte that two hex digits stand for, and what is behind them
abbrev read_hex : List ℕ → Option (ℕ × List ℕ)
read_hex (h ∷ l ∷ rest) = Some (16 * hex_value h + hex_value l, rest)
read_hex _ = None

abbrev read_escape : List ℕ → Option (ℕ × List ℕ)
read_escape [] = None
read_escape (d ∷ rest) = if d == 120 then read_hex rest else Some (d, rest)

-- the first byte of a string, and what is behind it; none stands before a quote
abbrev read_byte : List ℕ → Option (ℕ × List ℕ)
read_byte [] = None
read_byte (c ∷ rest) = if c == 34 then None else if c == 92 then read_escape rest else Some (c, rest)

hex_back : (n : ℕ) → n < 16 → hex_value (hex_digit n) ≡ n
hex_back n h = grind (arith, nat_tests)

escaped_back : (b : ℕ) (p : List ℕ) → b < 256 → read_byte (escaped b ++ p) ≡ Some (b, p)
escaped_back b p h =
    let high = hex_back (b / 16) (omega arith) in
    let low = hex_back (b % 16) (omega arith) in
    let whole : 16 * hex_value (hex_digit (b / 16)) + hex_value (hex_digit (b % 16)) ≡ b = rw (high, low) (omega arith) in
    ap (λ (n : ℕ). Some (n, p)) whole

by_tests : (b : ℕ) (p : List ℕ) (t1 t2 t3 t4 : Bool) → b < 256 → (b == 34) ≡ t1 → (b == 92) ≡ t2
    → read_byte ((if t1 then 92 ∷ 34 ∷ [] else if t2 then 92 ∷ 92 ∷ [] else if t3 then escaped b else if t4 then escaped b else b ∷ []) ++ p) ≡ Some (b, p)
by_tests b p true t2 t3 t4 h e f = ap (λ (n : ℕ). Some (n, p)) (sym (eqb-true b 34 e))
by_tests b p false true t3 t4 h e f = ap (λ (n : ℕ). Some (n, p)) (sym (eqb-true b 92 f))
by_tests b p false false true t4 h e f = escaped_back b p h
by_tests b p false false false true h e f = escaped_back b p h
by_tests b p false false false false h e f = rw (e, f) refl

pub byte_back : (b : ℕ) (p : List ℕ) → b < 256 → read_byte (quoted_byte b ++ p) ≡ Some (b, p)
byte_back b p h = by_tests b p (b == 34) (b == 92) (nat_lt b 32) (nat_lt 126 b) h refl refl

-- the numbers are bytes
abbrev pub AreSmall : List ℕ → Type 0
AreSmall [] = Unit {0}
AreSmall (b ∷ bytes) = (b < 256) × AreSmall bytes

first : (b : ℕ) (bs more : List ℕ) → b < 256 → read_byte (flat_map quoted_byte (b ∷ bs) ++ more) ≡ Some (b, flat_map quoted_byte bs ++ more)
first b bs more h = ap read_byte (append_assoc (quoted_byte b) (flat_map quoted_byte bs) more) ∙ byte_back b (flat_map quoted_byte bs ++ more) h

-- a byte is found, and these are behind it
abbrev found : ℕ → List ℕ → Option (ℕ × List ℕ)
found b p = Some (b, p)

none_some : (b : ℕ) (p : List ℕ) → None ≡ found b p → ⊥
none_some b p e = cc

same_some : (b c : ℕ) (p q : List ℕ) → found b p ≡ found c q → (b ≡ c) × (p ≡ q)
same_some b c p q e = let Both : Type 0 = ℕ × List ℕ in let l : Both = (b, p) in let r : Both = (c, q) in let h : l ≡ r = cc in (ap (λ (z : ℕ × List ℕ). z.0) h, ap (λ (z : ℕ × List ℕ). z.1) h)

pub strings : (bs cs x y : List ℕ) → AreSmall bs → AreSmall cs → flat_map quoted_byte bs ++ 34 ∷ x ≡ flat_map quoted_byte cs ++ 34 ∷ y → (bs ≡ cs) × (x ≡ y)
strings [] [] x y p q e = (refl, (heads 34 34 x y e).1)
strings [] (c ∷ cs) x y p q e =
    absurd (none_some c (flat_map quoted_byte cs ++ 34 ∷ y) (ap read_byte e ∙ first c cs (34 ∷ y) q.0))
strings (b ∷ bs) [] x y p q e =
    absurd (none_some b (flat_map quoted_byte bs ++ 34 ∷ x) (sym (ap read_byte e) ∙ first b bs (34 ∷ x) p.0))
strings (b ∷ bs) (c ∷ cs) x y p q e =
    let h = same_some b c (flat_map quoted_byte bs ++ 34 ∷ x) (flat_map quoted_byte cs ++ 34 ∷ y) (sym (first b bs (34 ∷ x) p.0) ∙ ap read_byte e ∙ first c cs (34 ∷ y) q.0) in
    let more = strings bs cs x y p.1 q.1 h.1 in
    ((let same : b ≡ c = h.0 in let others : bs ≡ cs = more.0 in cc), more.1)
