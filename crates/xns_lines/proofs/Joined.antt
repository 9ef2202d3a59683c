-- The lines of an input, joined again.
use Rattle.std.proofs.Common.{◌≡◌, ◌≢◌, ◌∙◌, ap, sym, refl, ℕ, ◌==◌, Bool, true, false, cond, List, [], ◌∷◌, ◌++◌, arith}
use Rattle.std.specs.Prelude.{All}
use Rattle.std.specs.List.{flat_map}
use Rattle.std.proofs.lemmas.List.Elements.{All-cons, All-head, All-nil, All-tail}
use Rattle.std.proofs.lemmas.Bool.{eqb-true}
use Rattle.std.proofs.lemmas.Bool.Decides.{nat_tests}
use Rattle.xns_lines.specs.Lines.{closed_lines, split_at_newlines, open_line, with_first_plain}

abbrev joined : List (List ℕ) → List ℕ → List ℕ
joined lines rest = flat_map (λ line. line ++ 10 ∷ []) lines ++ rest

joined_with : (q : Bool) (byte : ℕ) → (byte == 10) ≡ q → (lines : List (List ℕ)) (rest : List ℕ)
    → joined (cond q ([] ∷ lines, rest) (with_first_plain byte lines rest)).0 (cond q ([] ∷ lines, rest) (with_first_plain byte lines rest)).1 ≡ byte ∷ joined lines rest
joined_with true byte e lines rest = ap (λ b. b ∷ joined lines rest) (sym (eqb-true byte 10 e))
joined_with false byte e [] rest = refl
joined_with false byte e (line ∷ lines) rest = refl

pub joined_is : (input : List ℕ) → joined (closed_lines input) (open_line input) ≡ input
unfolding split_at_newlines
joined_is [] = refl
joined_is (byte ∷ input) = joined_with (byte == 10) byte refl (closed_lines input) (open_line input) ∙ ap (λ t. byte ∷ t) (joined_is input)

not_ten : (byte : ℕ) → (byte == 10) ≡ false → byte ≢ 10
not_ten byte e = grind (arith, nat_tests)

abbrev IsPlain : ℕ → Type 0
IsPlain byte = byte ≢ 10

abbrev AreAllPlain : List ℕ → Type 0
AreAllPlain line = All IsPlain line

abbrev ArePlain : List (List ℕ) → List ℕ → Type 0
ArePlain lines rest = All AreAllPlain lines × All IsPlain rest

plain_with : (q : Bool) (byte : ℕ) → (byte == 10) ≡ q → (lines : List (List ℕ)) (rest : List ℕ) → ArePlain lines rest
    → ArePlain (cond q ([] ∷ lines, rest) (with_first_plain byte lines rest)).0 (cond q ([] ∷ lines, rest) (with_first_plain byte lines rest)).1
plain_with true byte e lines rest h = (All-cons AreAllPlain [] lines (All-nil IsPlain) h.0, h.1)
plain_with false byte e [] rest h = (h.0, All-cons IsPlain byte rest (not_ten byte e) h.1)
plain_with false byte e (line ∷ lines) rest h =
    (All-cons AreAllPlain (byte ∷ line) lines (All-cons IsPlain byte line (not_ten byte e) (All-head AreAllPlain line lines h.0)) (All-tail AreAllPlain line lines h.0), h.1)

pub are_plain : (input : List ℕ) → ArePlain (closed_lines input) (open_line input)
unfolding split_at_newlines
are_plain [] = (All-nil AreAllPlain, All-nil IsPlain)
are_plain (byte ∷ input) = plain_with (byte == 10) byte refl (closed_lines input) (open_line input) (are_plain input)
