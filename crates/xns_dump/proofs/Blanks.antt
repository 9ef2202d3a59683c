-- Lines among which there is no blank.
use Rattle.std.proofs.Common.{◌≡◌, ◌∙◌, ap, sym, refl, arith, ℕ, suc, true, cond, List, [], ◌∷◌, length}
use Rattle.std.specs.Prelude.{not}
use Rattle.std.specs.List.{filter}
use Rattle.std.proofs.lemmas.Bool.{false_from_ne_true, not_from_false}
use Rattle.memchr.specs.Find.{Nowhere, Passes, is_byte2}
use Rattle.xns_dump.specs.Dump.Line.{digits_of, is_space_or_tab}
use Rattle.xns_lines.specs.Lines.{without_return}

-- nothing is left out where there is no blank
pub filter_no_blank : (line : List ℕ) → Nowhere (Passes (is_byte2 32 9) line) 0 (length line) → filter (λ byte. not (is_space_or_tab byte)) line ≡ line
filter_no_blank [] none = refl
filter_no_blank (byte ∷ line) none =
    let kept : not (is_space_or_tab byte) ≡ true = not_from_false (is_space_or_tab byte) (false_from_ne_true (is_space_or_tab byte) (none 0 (omega arith) (omega arith))) in
    let rest = filter_no_blank line (λ k low high. none (suc k) (omega arith) (omega (arith, high))) in
    ap (λ p. cond p (byte ∷ filter (λ b. not (is_space_or_tab b)) line) (filter (λ b. not (is_space_or_tab b)) line)) kept ∙ ap (λ t. byte ∷ t) rest

-- the digits of a line without blanks
pub digits_of-plain : (line plain : List ℕ) → plain ≡ without_return line → Nowhere (Passes (is_byte2 32 9) plain) 0 (length plain) → plain ≡ digits_of line
unfolding digits_of
digits_of-plain line plain same none = sym (filter_no_blank plain none) ∙ ap (filter (λ byte. not (is_space_or_tab byte))) same
