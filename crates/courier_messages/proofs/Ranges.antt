-- How bytes go into a conversation, many at a time.
use Rattle.std.proofs.Common.{◌≡◌, ◌∙◌, ap, sym, refl, ℕ, ◌+◌, ◌*◌, ◌<◌, ◌≤◌, Bool, true, false, List, [], ◌∷◌, ◌++◌, length, map, drop, append_assoc, append-nil, arith, length-append, ne_eqb, Result, Ok, Err}
use Rattle.std.proofs.lemmas.Bool.{eqb-false}
use Rattle.std.proofs.lemmas.List.{drop-append-le, drop_all, map-append}
use Rattle.std.proofs.lemmas.Grind.{elements}
use Rattle.std.proofs.lemmas.Option.{slice_get-get_or}
use Rattle.std.specs.Prelude.{◌==◌, slice_get, Some, None}
use Rattle.courier_types.specs.Pieces.{words_of}
use Rattle.courier_messages.specs.declared.fault.MessageFault.TheVariants.{TooLong}
use Rattle.courier_messages.specs.declared.fault.SessionFault.{SessionFault}
use Rattle.courier_messages.specs.declared.fault.SessionFault.TheVariants.{BadMessage}
use Rattle.courier_messages.specs.Text.{byte}
use Rattle.courier_messages.specs.Conversation.{Phase, opening, fresh, inside}
use Rattle.courier_messages.specs.Phases.{agreement, opened, ◌then◌, run}
use Rattle.courier_messages.specs.Inside.{IsSkipped}
use Rattle.courier_messages.specs.Refusal.{UnlessMemory}
use Rattle.courier_messages.proofs.Heads.{dropped_length, length_behind, range_dropped, skipped_within}
use Rattle.courier_messages.proofs.Runs.{byte_step, run_append, weaker}

-- within a message

pub inside_bytes : (bytes more : List ℕ) → length bytes + length more ≤ 131072 → run (inside bytes) (map byte more) ≡ Ok (inside (bytes ++ more))
unfolding run
inside_bytes bytes [] h = ap (λ (l : List ℕ). Ok (inside l)) (sym (append-nil bytes))
inside_bytes bytes (b ∷ more) h =
    let room : (length bytes == 131072) ≡ false = ne_eqb (length bytes) 131072 (λ e. omega (arith, e)) in
    let longer = length-append bytes (b ∷ []) in
    ap (λ (v : Bool). byte_step bytes b v then λ q. run q (map byte more)) room
    ∙ inside_bytes (bytes ++ b ∷ []) more (omega (arith, longer))
    ∙ ap (λ (l : List ℕ). Ok (inside l)) (append_assoc bytes (b ∷ []) more)

pub inside_too_many : (bytes more : List ℕ) → length bytes ≤ 131072 → 131072 < length bytes + length more → run (inside bytes) (map byte more) ≡ Err (BadMessage TooLong)
unfolding run
inside_too_many bytes [] h k = absurd (omega arith)
inside_too_many bytes (b ∷ more) h k = by_size (λ x y. inside_too_many (bytes ++ b ∷ []) more x y) (length bytes == 131072) refl where
  by_size : (length (bytes ++ b ∷ []) ≤ 131072 → 131072 < length (bytes ++ b ∷ []) + length more → run (inside (bytes ++ b ∷ [])) (map byte more) ≡ Err (BadMessage TooLong)) → (v : Bool) → (length bytes == 131072) ≡ v → (byte_step bytes b (length bytes == 131072) then λ q. run q (map byte more)) ≡ Err (BadMessage TooLong)
  by_size rec true e = ap (λ (v : Bool). byte_step bytes b v then λ q. run q (map byte more)) e
  by_size rec false e =
      let n = eqb-false (length bytes) 131072 e in
      let longer = length-append bytes (b ∷ []) in
      ap (λ (v : Bool). byte_step bytes b v then λ q. run q (map byte more)) e ∙ rec (omega (arith, longer, n)) (omega (arith, longer))

-- behind bytes that are skipped

pub more_bytes : (skipped : ℕ) (bytes more new : List ℕ) → IsSkipped skipped bytes → length bytes + length more ≤ 131072 + skipped → new ≡ bytes ++ more → run (inside (drop skipped bytes)) (map byte more) ≡ Ok (inside (drop skipped new))
more_bytes skipped bytes more new h size e =
    let within = skipped_within skipped bytes h in
    let n = length_behind skipped bytes within in
    inside_bytes (drop skipped bytes) more (omega (arith, n))
    ∙ ap (λ (l : List ℕ). Ok (inside l)) (sym (drop-append-le skipped bytes more within) ∙ ap (drop skipped) (sym e))

pub too_many_bytes : (skipped : ℕ) (bytes more : List ℕ) → IsSkipped skipped bytes → length bytes ≤ 131072 + skipped → 131072 + skipped < length bytes + length more → run (inside (drop skipped bytes)) (map byte more) ≡ Err (BadMessage TooLong)
too_many_bytes skipped bytes more h size over =
    let within = skipped_within skipped bytes h in
    let n = length_behind skipped bytes within in
    inside_too_many (drop skipped bytes) more (omega (arith, n)) (omega (arith, n))

-- the version range

few_bytes : (bytes : List ℕ) → length bytes < 4 → run (opening []) (map byte bytes) ≡ Ok (opening bytes)
unfolding run
few_bytes [] h = refl
few_bytes (a ∷ []) h = refl
few_bytes (a ∷ b ∷ []) h = refl
few_bytes (a ∷ b ∷ c ∷ []) h = refl
few_bytes (a ∷ b ∷ c ∷ d ∷ bytes) h = absurd (omega arith)

opening_on : (bytes more : List ℕ) → length bytes < 4 → run (opening bytes) (map byte more) ≡ run (opening []) (map byte (bytes ++ more))
opening_on bytes more h =
    sym (ap (run (opening [])) (map-append byte bytes more) ∙ run_append (opening []) (map byte bytes) (map byte more) ∙ ap (λ (r : Result Phase SessionFault). r then λ q. run q (map byte more)) (few_bytes bytes h))

range_first : (all : List ℕ) → 4 ≤ length all → run (opening []) (map byte all) ≡ (opened all then λ q. run q (map byte (drop 4 all)))
unfolding run
range_first [] h = absurd (omega arith)
range_first (a ∷ []) h = absurd (omega arith)
range_first (a ∷ b ∷ []) h = absurd (omega arith)
range_first (a ∷ b ∷ c ∷ []) h = absurd (omega arith)
range_first (a ∷ b ∷ c ∷ d ∷ bytes) h = refl

pub still_opening : (bytes more new : List ℕ) → length bytes < 4 → new ≡ bytes ++ more → length bytes + length more < 4 → run (opening bytes) (map byte more) ≡ Ok (opening new)
still_opening bytes more new h e few =
    let all = length-append bytes more in
    opening_on bytes more h ∙ few_bytes (bytes ++ more) (omega (arith, all)) ∙ ap (λ (l : List ℕ). Ok (opening l)) (sym e)

from_range : (bytes more : List ℕ) → length bytes < 4 → 4 ≤ length bytes + length more → run (opening bytes) (map byte more) ≡ (opened (bytes ++ more) then λ q. run q (map byte (drop 4 (bytes ++ more))))
from_range bytes more h enough =
    let all = length-append bytes more in
    opening_on bytes more h ∙ range_first (bytes ++ more) (omega (arith, all))

range_refused : (bytes more : List ℕ) (f : SessionFault) → length bytes < 4 → 4 ≤ length bytes + length more → opened (bytes ++ more) ≡ Err f → run (opening bytes) (map byte more) ≡ Err f
range_refused bytes more f h enough r = from_range bytes more h enough ∙ ap (λ (x : Result Phase SessionFault). x then λ q. run q (map byte (drop 4 (bytes ++ more)))) r

pub range_faulty : (bytes more : List ℕ) (e : SessionFault) (q : Result Phase SessionFault) → length bytes < 4 → 4 ≤ length bytes + length more → opened (bytes ++ more) ≡ q → UnlessMemory e (q ≡ Err e)
    → UnlessMemory e (run (opening bytes) (map byte more) ≡ Err e)
range_faulty bytes more e q h enough r = weaker e (λ u. u) (λ w. range_refused bytes more e h enough (r ∙ w))

pub range_alone : (bytes more : List ℕ) → length bytes < 4 → length bytes + length more ≡ 4 → opened (bytes ++ more) ≡ Ok fresh → run (opening bytes) (map byte more) ≡ Ok fresh
unfolding run
range_alone bytes more h four r =
    let all = length-append bytes more in
    from_range bytes more h (omega (arith, four))
    ∙ ap (λ (x : Result Phase SessionFault). x then λ q. run q (map byte (drop 4 (bytes ++ more)))) r
    ∙ ap (λ (l : List ℕ). run fresh (map byte l)) (drop_all 4 (bytes ++ more) (omega (arith, all, four)))

pub fresh_bytes : (more : List ℕ) → 0 < length more → run fresh (map byte more) ≡ run (inside []) (map byte more)
unfolding run
fresh_bytes [] h = absurd (omega arith)
fresh_bytes (b ∷ more) h = refl

-- what comes behind the version range is the front of a message
range_then : (bytes more : List ℕ) → length bytes < 4 → 4 < length bytes + length more → opened (bytes ++ more) ≡ Ok fresh → run (opening bytes) (map byte more) ≡ run (inside []) (map byte (drop 4 (bytes ++ more)))
range_then bytes more h over r =
    let new : List ℕ = bytes ++ more in
    let all = length-append bytes more in
    let n = length_behind 4 new (omega (arith, all)) in
    from_range bytes more h (omega arith)
    ∙ ap (λ (x : Result Phase SessionFault). x then λ q. run q (map byte (drop 4 new))) r
    ∙ fresh_bytes (drop 4 new) (omega (arith, n, all))

pub range_and_more : (bytes more : List ℕ) → length bytes < 4 → 4 < length bytes + length more → length bytes + length more ≤ 131076 → opened (bytes ++ more) ≡ Ok fresh → run (opening bytes) (map byte more) ≡ Ok (inside (drop 4 (bytes ++ more)))
range_and_more bytes more h over size r =
    let n = dropped_length 4 bytes more (omega arith) in
    range_then bytes more h over r ∙ inside_bytes [] (drop 4 (bytes ++ more)) (omega (arith, n))

pub range_and_too_much : (bytes more : List ℕ) → length bytes < 4 → 131076 < length bytes + length more → opened (bytes ++ more) ≡ Ok fresh → run (opening bytes) (map byte more) ≡ Err (BadMessage TooLong)
range_and_too_much bytes more h over r =
    let n = dropped_length 4 bytes more (omega arith) in
    range_then bytes more h (omega arith) r ∙ inside_too_many [] (drop 4 (bytes ++ more)) (omega arith) (omega (arith, n))

pub no_more_bytes : (p : Phase) (more : List ℕ) → length more ≡ 0 → run p (map byte more) ≡ Ok p
unfolding run
no_more_bytes p [] h = refl
no_more_bytes p (b ∷ more) h = absurd (omega arith)

-- the four bytes of the range

pub range_bytes : (kept more : List ℕ) (a b c d : ℕ) → slice_get (kept ++ more) 0 ≡ Some a → slice_get (kept ++ more) 1 ≡ Some b → slice_get (kept ++ more) 2 ≡ Some c → slice_get (kept ++ more) 3 ≡ Some d
    → (4 ≤ length kept + length more) × (opened (kept ++ more) ≡ agreement (a * 256 + b) (c * 256 + d))
range_bytes kept more a b c d p q r s =
    let four = four_bytes (kept ++ more) a b c d p q r s in
    let all = length-append kept more in
    (omega (arith, all, four.0), four.1)
  where
    four_bytes : (bytes : List ℕ) (a b c d : ℕ) → slice_get bytes 0 ≡ Some a → slice_get bytes 1 ≡ Some b → slice_get bytes 2 ≡ Some c → slice_get bytes 3 ≡ Some d
        → (4 ≤ length bytes) × (opened bytes ≡ agreement (a * 256 + b) (c * 256 + d))
    four_bytes [] a b c d p q r s = absurd cc
    four_bytes (w ∷ []) a b c d p q r s = absurd cc
    four_bytes (w ∷ x ∷ []) a b c d p q r s = absurd cc
    four_bytes (w ∷ x ∷ y ∷ []) a b c d p q r s = absurd cc
    four_bytes (w ∷ x ∷ y ∷ z ∷ bytes) a b c d p q r s =
        let e : w ≡ a = cc in
        let f : x ≡ b = cc in
        let g : y ≡ c = cc in
        let h : z ≡ d = cc in
        (omega arith, rw (e, f, g, h) refl)

pub range_cut : (kept more : List ℕ) (i : ℕ) → i < 4 → slice_get (kept ++ more) i ≡ None → length kept + length more < 4
range_cut kept more i h none = grind (arith, elements, slice_get-get_or, length-append)

pub words_skipped : (bytes : List ℕ) (x y : ℕ) (rest : List ℕ) → 4 ≤ length bytes → words_of bytes ≡ x ∷ y ∷ rest → words_of (drop 4 bytes) ≡ rest
words_skipped bytes x y rest h e = range_dropped bytes 0 h ∙ ap (drop 2) e
