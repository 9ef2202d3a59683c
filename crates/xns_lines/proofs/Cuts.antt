-- The lines of bytes to which bytes are added at the end.
use Rattle.std.proofs.Common.{◌≡◌, ◌∙◌, ap, sym, refl, rules, arith, ℕ, suc, ◌+◌, ◌<◌, ◌≤◌, ◌==◌, ◌||◌, Bool, true, false, cond, List, [], ◌∷◌, ◌++◌, length, length-append, append_assoc, append-nil, take, drop, get_or, subst}
use Rattle.std.specs.List.{list_any}
use Rattle.std.specs.Prelude.{nat_lt}
use Rattle.std.proofs.Math.Seq.{drop-cons}
use Rattle.std.proofs.lemmas.Bool.{eqb-true, false_from_ne_true}
use Rattle.std.proofs.lemmas.Bool.Decides.{nat_tests}
use Rattle.std.proofs.lemmas.List.{take-append-drop}
use Rattle.std.proofs.lemmas.List.Folds.{list_any-append}
use Rattle.memchr.specs.Find.{Passes, is_byte}
use Rattle.xns_lines.specs.Lines.Cutter.{HasNoNewline}
use Rattle.xns_lines.specs.Faults.{FaultyLines, IsJustified}
use Rattle.xns_lines.specs.Lines.{AreWithinLimits, BeginsLong, IsWithinLimits, closed_lines, split_at_newlines, is_long, line_if_any, lines_of, open_line, with_first, with_first_plain, most_line_bytes}
use Rattle.xns_lines.specs.declared.fault.RunFault.{RunFault}

abbrev Parts : Type 0
Parts = List (List ℕ) × List ℕ

abbrev put_with : Bool → ℕ → Parts → Parts
put_with p x parts = cond p ([] ∷ parts.0, parts.1) (with_first_plain x parts.0 parts.1)

abbrev add_with : Bool → ℕ → Parts → Parts
add_with q b parts = cond q (parts.0 ++ parts.1 ∷ [], []) (parts.0, parts.1 ++ b ∷ [])

commute : (p q : Bool) (x b : ℕ) (lines : List (List ℕ)) (rest : List ℕ) → put_with p x (add_with q b (lines, rest)) ≡ add_with q b (put_with p x (lines, rest))
commute true true x b lines rest = refl
commute true false x b lines rest = refl
commute false true x b [] rest = refl
commute false true x b (line ∷ lines) rest = refl
commute false false x b [] rest = refl
commute false false x b (line ∷ lines) rest = refl

-- what one more byte at the end makes of the parts
cut-add : (xs : List ℕ) (b : ℕ) → split_at_newlines (xs ++ b ∷ []) ≡ add_with (b == 10) b (split_at_newlines xs)
unfolding split_at_newlines
cut-add [] b = refl
cut-add (x ∷ xs) b = ap (with_first x) (cut-add xs b) ∙ commute (x == 10) (b == 10) x b (split_at_newlines xs).0 (split_at_newlines xs).1

pub closed-newline : (xs : List ℕ) → closed_lines (xs ++ 10 ∷ []) ≡ closed_lines xs ++ open_line xs ∷ []
closed-newline xs = ap (λ p. p.0) (cut-add xs 10)

pub open-newline : (xs : List ℕ) → open_line (xs ++ 10 ∷ []) ≡ []
open-newline xs = ap (λ p. p.1) (cut-add xs 10)

pub closed-byte : (xs : List ℕ) (b : ℕ) → (b == 10) ≡ false → closed_lines (xs ++ b ∷ []) ≡ closed_lines xs
closed-byte xs b e = ap (λ p. p.0) (cut-add xs b) ∙ ap (λ q. (add_with q b (split_at_newlines xs)).0) e

pub open-byte : (xs : List ℕ) (b : ℕ) → (b == 10) ≡ false → open_line (xs ++ b ∷ []) ≡ open_line xs ++ b ∷ []
open-byte xs b e = ap (λ p. p.1) (cut-add xs b) ∙ ap (λ q. (add_with q b (split_at_newlines xs)).1) e

pub closed-nothing : closed_lines [] ≡ []
unfolding split_at_newlines
closed-nothing = refl

pub open-nothing : open_line [] ≡ []
unfolding split_at_newlines
open-nothing = refl

-- ---- counts and lengths

pub long_if_any : (rest : List ℕ) → list_any is_long (line_if_any rest) ≡ nat_lt most_line_bytes (length rest)
long_if_any [] = refl
long_if_any (b ∷ rest) = search rules

count_if_any : (rest : List ℕ) → length (line_if_any rest) ≤ 1
count_if_any [] = omega arith
count_if_any (b ∷ rest) = omega arith

-- the lines are those that are over and at most one more
pub line_count-parts : (xs : List ℕ) → length (lines_of xs) ≡ length (closed_lines xs) + length (line_if_any (open_line xs))
line_count-parts xs = length-append (closed_lines xs) (line_if_any (open_line xs))

pub few_closed : (most : ℕ) (xs : List ℕ) → length (lines_of xs) ≤ most → length (closed_lines xs) ≤ most
few_closed most xs few = omega (arith, few, line_count-parts xs)

pub few_more : (most : ℕ) (xs ys : List ℕ) → length (closed_lines xs) < most → closed_lines ys ≡ closed_lines xs → length (lines_of ys) ≤ most
few_more most xs ys lt same = omega (arith, lt, line_count-parts ys, ap length same, count_if_any (open_line ys))

pub one_line : (rest : List ℕ) → 0 < length rest → line_if_any rest ≡ rest ∷ []
one_line [] lt = absurd (omega arith)
one_line (b ∷ rest) lt = refl

pub no_line : (rest : List ℕ) → length rest ≡ 0 → rest ≡ []
no_line [] e = refl
no_line (b ∷ rest) e = absurd (omega arith)

pub not_long : (n : ℕ) → n ≤ most_line_bytes → nat_lt most_line_bytes n ≡ false
not_long n le = grind (arith, nat_tests)

-- lines over and a line that is not, none of which is too long
pub all_within : (most : ℕ) (xs : List ℕ) → list_any is_long (closed_lines xs) ≡ false → length (open_line xs) ≤ most_line_bytes → length (lines_of xs) ≤ most → AreWithinLimits most (lines_of xs)
all_within most xs closed rest few = record {
  short = list_any-append is_long (closed_lines xs) (line_if_any (open_line xs)) ∙ ap (λ b. b || list_any is_long (line_if_any (open_line xs))) closed
      ∙ long_if_any (open_line xs) ∙ not_long (length (open_line xs)) rest;
  few = few;
}

-- all lines of what was read are good, and the fault comes behind them
abbrev pub all_lines : (most : ℕ) (f : RunFault) (read : List ℕ) → IsWithinLimits most read → IsJustified most f read (lines_of read) [] → FaultyLines most f read
all_lines most f read within justified = record {
  good = lines_of read;
  next = [];
  joined = sym (append-nil (lines_of read));
  within = within;
  justified = justified;
}

-- ---- what stays as bytes are added

join : Parts → List ℕ → Parts
join parts ys = (parts.0 ++ closed_lines (parts.1 ++ ys), open_line (parts.1 ++ ys))

put_join : (q : Bool) (x : ℕ) → (x == 10) ≡ q → (lines : List (List ℕ)) (rest ys : List ℕ) → put_with q x (join (lines, rest) ys) ≡ join (put_with q x (lines, rest)) ys
unfolding split_at_newlines join
put_join true x e lines rest ys = refl
put_join false x e [] rest ys = sym (ap (λ q. put_with q x (split_at_newlines (rest ++ ys))) e)
put_join false x e (line ∷ lines) rest ys = refl

cut-append : (xs ys : List ℕ) → split_at_newlines (xs ++ ys) ≡ join (split_at_newlines xs) ys
unfolding split_at_newlines join
cut-append [] ys = refl
cut-append (x ∷ xs) ys = ap (with_first x) (cut-append xs ys) ∙ put_join (x == 10) x refl (split_at_newlines xs).0 (split_at_newlines xs).1 ys

abbrev whole : Parts → List (List ℕ)
whole parts = parts.0 ++ line_if_any parts.1

-- the lines that are over stay, and the others come of the bytes behind
pub lines_of-append : (xs ys : List ℕ) → lines_of (xs ++ ys) ≡ closed_lines xs ++ lines_of (open_line xs ++ ys)
unfolding join
lines_of-append xs ys = ap whole (cut-append xs ys) ∙ append_assoc (closed_lines xs) (closed_lines (open_line xs ++ ys)) (line_if_any (open_line (open_line xs ++ ys)))

unclosed_with : (q : Bool) (b : ℕ) (lines : List (List ℕ)) (rest : List ℕ) → (put_with q b (lines, rest)).0 ≡ [] → (q ≡ false) × (lines ≡ [])
unclosed_with true b lines rest e = (cc)
unclosed_with false b [] rest e = (refl, refl)
unclosed_with false b (line ∷ lines) rest e = (cc)

closed_with : (q : Bool) (b : ℕ) (lines : List (List ℕ)) (rest : List ℕ) → q ≡ false → lines ≡ [] → (put_with q b (lines, rest)).0 ≡ []
closed_with true b lines rest e none = (cc)
closed_with false b [] rest e none = refl
closed_with false b (line ∷ lines) rest e none = (cc)

open_put : (q : Bool) (b : ℕ) → (b == 10) ≡ q → (lines : List (List ℕ)) (rest : List ℕ) → closed_lines rest ≡ [] → closed_lines (put_with q b (lines, rest)).1 ≡ []
unfolding split_at_newlines
open_put true b e lines rest h = h
open_put false b e [] rest h = closed_with (b == 10) b (closed_lines rest) (open_line rest) e h
open_put false b e (line ∷ lines) rest h = h

-- no line is over in the line that is not over
open_unclosed : (xs : List ℕ) → closed_lines (open_line xs) ≡ []
unfolding split_at_newlines
open_unclosed [] = refl
open_unclosed (x ∷ xs) = open_put (x == 10) x refl (split_at_newlines xs).0 (split_at_newlines xs).1 (open_unclosed xs)

first_of : List (List ℕ) → List ℕ → List ℕ
first_of [] rest = rest
first_of (line ∷ lines) rest = line

first_put : (b : ℕ) (lines : List (List ℕ)) (rest : List ℕ) → first_of (with_first_plain b lines rest).0 (with_first_plain b lines rest).1 ≡ b ∷ first_of lines rest
unfolding first_of
first_put b [] rest = refl
first_put b (line ∷ lines) rest = refl

-- the first line goes on with what comes behind
first_longer : (u more : List ℕ) → closed_lines u ≡ [] → length u ≤ length (first_of (closed_lines (u ++ more)) (open_line (u ++ more)))
unfolding split_at_newlines
first_longer [] more h = omega arith
first_longer (b ∷ u) more h =
    let parts = unclosed_with (b == 10) b (split_at_newlines u).0 (split_at_newlines u).1 h in
    let rest = first_longer u more parts.1 in
    let first : first_of (with_first_plain b (split_at_newlines (u ++ more)).0 (split_at_newlines (u ++ more)).1).0 (with_first_plain b (split_at_newlines (u ++ more)).0 (split_at_newlines (u ++ more)).1).1 ≡ b ∷ first_of (closed_lines (u ++ more)) (open_line (u ++ more)) = first_put b (split_at_newlines (u ++ more)).0 (split_at_newlines (u ++ more)).1 in
    subst (λ q. length (b ∷ u) ≤ length (first_of (put_with q b (split_at_newlines (u ++ more))).0 (put_with q b (split_at_newlines (u ++ more))).1)) (sym parts.0)
    (rw first (omega (arith, rest)))

begins_long : (lines : List (List ℕ)) (rest : List ℕ) → most_line_bytes < length (first_of lines rest) → BeginsLong (lines ++ line_if_any rest)
unfolding first_of
begins_long [] [] lt = absurd (omega arith)
begins_long [] (b ∷ rest) lt = lt
begins_long (line ∷ lines) rest lt = lt

-- a line that is too long stays so
pub long_stays : (xs more : List ℕ) → most_line_bytes < length (open_line xs) → BeginsLong (lines_of (open_line xs ++ more))
long_stays xs more lt =
    let rest = first_longer (open_line xs) more (open_unclosed xs) in
    begins_long (closed_lines (open_line xs ++ more)) (open_line (open_line xs ++ more)) (omega (arith, rest, lt))

some_put : (q : Bool) (b : ℕ) (lines : List (List ℕ)) (rest : List ℕ) → 0 < length (whole (put_with q b (lines, rest)))
some_put true b lines rest = omega arith
some_put false b [] rest = omega arith
some_put false b (line ∷ lines) rest = omega arith

-- bytes have a line
pub some_line : (xs : List ℕ) → 0 < length xs → 0 < length (lines_of xs)
unfolding split_at_newlines
some_line [] lt = absurd (omega arith)
some_line (b ∷ xs) lt = some_put (b == 10) b (split_at_newlines xs).0 (split_at_newlines xs).1

pub more_line : (rest more : List ℕ) → 0 < length more → 0 < length (lines_of (rest ++ more))
more_line rest more lt = some_line (rest ++ more) (omega (arith, lt, length-append rest more))

-- ---- a run of bytes among which is no byte 10

run_head : (b : ℕ) (run : List ℕ) → HasNoNewline (b ∷ run) → (b == 10) ≡ false
run_head b run h = false_from_ne_true (b == 10) (h 0 (omega arith) (omega arith))

run_tail : (b : ℕ) (run : List ℕ) → HasNoNewline (b ∷ run) → HasNoNewline run
run_tail b run h = λ k low high. h (suc k) (omega arith) (omega (arith, high))

pub closed-run : (xs run : List ℕ) → HasNoNewline run → closed_lines (xs ++ run) ≡ closed_lines xs
closed-run xs [] h = ap closed_lines (append-nil xs)
closed-run xs (b ∷ run) h =
    ap closed_lines (sym (append_assoc xs (b ∷ []) run)) ∙ closed-run (xs ++ b ∷ []) run (run_tail b run h) ∙ closed-byte xs b (run_head b run h)

pub open-run : (xs run : List ℕ) → HasNoNewline run → open_line (xs ++ run) ≡ open_line xs ++ run
open-run xs [] h = ap open_line (append-nil xs) ∙ sym (append-nil (open_line xs))
open-run xs (b ∷ run) h =
    ap open_line (sym (append_assoc xs (b ∷ []) run)) ∙ open-run (xs ++ b ∷ []) run (run_tail b run h)
    ∙ ap (λ l. l ++ run) (open-byte xs b (run_head b run h)) ∙ append_assoc (open_line xs) (b ∷ []) run

-- ---- a piece, run by run

pub newline_split : (taken front rest piece : List ℕ) (k : ℕ) → front ++ rest ≡ piece → k < length rest → Passes (is_byte 10) rest k
    → (((taken ++ front) ++ take k rest) ++ 10 ∷ []) ++ drop (k + 1) rest ≡ taken ++ piece
newline_split taken front rest piece k e lt passes =
    let ten : get_or rest k 0 ≡ 10 = eqb-true (get_or rest k 0) 10 passes in
    let next : k + 1 ≡ suc k = omega arith in
    let later : 10 ∷ drop (k + 1) rest ≡ drop k rest =
    ap (λ (n : ℕ). 10 ∷ drop n rest) next ∙ ap (λ x. x ∷ drop (suc k) rest) (sym ten) ∙ sym (drop-cons rest k 0 lt) in
    append_assoc ((taken ++ front) ++ take k rest) (10 ∷ []) (drop (k + 1) rest)
    ∙ append_assoc (taken ++ front) (take k rest) (10 ∷ drop (k + 1) rest)
    ∙ ap (λ t. (taken ++ front) ++ (take k rest ++ t)) later ∙ ap (λ t. (taken ++ front) ++ t) (take-append-drop k rest)
    ∙ append_assoc taken front rest ∙ ap (λ t. taken ++ t) e

pub newline_front : (front rest piece left : List ℕ) (k : ℕ) → front ++ rest ≡ piece → k < length rest → Passes (is_byte 10) rest k → left ≡ drop (k + 1) rest
    → ((front ++ take k rest) ++ 10 ∷ []) ++ left ≡ piece
newline_front front rest piece left k e lt passes same =
    ap (λ t. ((front ++ take k rest) ++ 10 ∷ []) ++ t) same ∙ newline_split [] front rest piece k e lt passes

pub longer_front : (taken front x y : List ℕ) → ((taken ++ front) ++ x) ++ y ≡ taken ++ ((front ++ x) ++ y)
longer_front taken front x y = ap (λ t. t ++ y) (append_assoc taken front x) ∙ append_assoc taken (front ++ x) y

pub whole_split : (taken front rest piece : List ℕ) → front ++ rest ≡ piece → (taken ++ front) ++ rest ≡ taken ++ piece
whole_split taken front rest piece e = append_assoc taken front rest ∙ ap (λ t. taken ++ t) e
