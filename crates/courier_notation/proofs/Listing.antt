-- Parts that are read one after the other, as a loop does.
use Rattle.std.proofs.Common.{◌≡◌, ℕ, zero, suc, ◌-◌, ◌+◌, ◌≤◌, ◌<◌, ◌⊎◌, inl, inr, IsOk, List, [], ◌∷◌, ◌++◌, length, map, Some, None, Result, Ok, Err, refl, sym, ap, ◌∙◌, append_assoc, arith}
use Rattle.std.proofs.lemmas.List.{map_push}
use Rattle.courier_notation.specs.declared.reason.Reason.{Reason}
use Rattle.courier_notation.specs.declared.reason.Reason.TheVariants.{TooManyParts}
use Rattle.courier_notation.specs.declared.failure.Failure.{Failure}
use Rattle.courier_notation.specs.declared.failure.Failure.TheVariants as failures
use Rattle.courier_notation.specs.declared.token.Token.{Token}
use Rattle.courier_notation.specs.Failing.{◌>>=◌, Fails, Stops, over}
use Rattle.courier_notation.specs.Reading.{Fault, Reader, passed, behind_comma, group_at, listed, most_parts}
use Rattle.courier_notation.specs.Written.{TypeModel}
use Rattle.courier_notation.proofs.Failing.{bind_ok, first_was_right}

-- what was read before, and what is still read
abbrev pub with_front : {A : Type 0} → List A → Result (List A × List Token) Fault → Result (List A × List Token) Fault
with_front front read = over (λ xs. front ++ xs) read

pub regroup : {A : Type 0} (front : List A) (x : A) (read : Result (List A × List Token) Fault) → with_front front (over (λ others. x ∷ others) read) ≡ with_front (front ++ x ∷ []) read
regroup front x (Ok r) = ap (λ xs. Ok (xs, r.1)) (sym (append_assoc front (x ∷ []) r.0))
regroup front x (Err f) = refl

-- memory is wanted here, and so it was where the first part stands
pub first_is_wanted : (Wants : List Token → Type 0) (tokens rest : List Token) → (rest ≡ tokens) ⊎ Wants tokens → Wants rest → Wants tokens
first_is_wanted Wants tokens rest (inl same) wants = rw (sym same) wants
first_is_wanted Wants tokens rest (inr first) wants = first

-- a list that is read up to here: the parts in front, their number, the tokens that are left, and all tokens;
-- each part begins with what start reads
pub record IsReadTo {A B : Type 0} (one : Reader A) (start : Reader B) (most : ℕ) (front : List A) (i : ℕ) (rest tokens : List Token) : Type 0 where
  pub so_far : with_front front (listed one (most - i) rest) ≡ listed one most tokens
  pub first : (rest ≡ tokens) ⊎ IsOk (start tokens)

whole : {A : Type 0} (read : Result (List A × List Token) Fault) → with_front [] read ≡ read
whole (Ok r) = refl
whole (Err f) = refl

-- nothing is read yet
pub begun : {A B : Type 0} (one : Reader A) (start : Reader B) (most : ℕ) (tokens : List Token) {front : List A} → front ≡ [] → IsReadTo one start most front 0 tokens tokens
begun one start most tokens e =
    let k : most - 0 ≡ most = omega arith in
    record { so_far = rw e (ap (λ n. with_front [] (listed one n tokens)) k ∙ whole (listed one most tokens)); first = inl refl }

-- a part begins here, and so one began where the first part stands
pub first_begins : {A B : Type 0} {one : Reader A} {start : Reader B} {most i : ℕ} {front : List A} {rest tokens : List Token} → IsReadTo one start most front i rest tokens → IsOk (start rest) → IsOk (start tokens)
first_begins {start} {rest} {tokens} r begins = first_is_wanted (λ ts. IsOk (start ts)) tokens rest r.first begins

-- a part, and a comma behind it
pub goes_on : {A B : Type 0} {one : Reader A} {start : Reader B} {most i : ℕ} {front longer : List A} {ts tokens after next : List Token} {x : A} → IsReadTo one start most front i ts tokens → i < most → one ts ≡ Ok (x, after) → behind_comma after ≡ Some next → longer ≡ front ++ x ∷ [] → IsOk (start ts)
    → IsReadTo one start most longer (i + 1) next tokens
unfolding listed
goes_on {one} {most} {i} {front} {longer} {ts} {next} {x} r lt h comma more begins =
    let k : most - i ≡ suc (most - (i + 1)) = omega arith in
    let step : with_front front (listed one (most - i) ts) ≡ with_front longer (listed one (most - (i + 1)) next) = rw (k, h, comma, more) (regroup front x (listed one (most - (i + 1)) next)) in
    record { so_far = sym step ∙ r.so_far; first = inr (first_begins r begins) }

-- a part that is none
pub ends : {A B : Type 0} {one : Reader A} {start : Reader B} {most i : ℕ} {front : List A} {ts tokens : List Token} → IsReadTo one start most front i ts tokens → i < most → (e : Failure ℕ Reason) → Fails e (one ts) → Fails e (listed one most tokens)
unfolding listed
ends r lt failures.NoMemory h = tt
ends {one} {most} {i} {front} {ts} r lt (failures.Wrong place reason) h =
    let k : most - i ≡ suc (most - (i + 1)) = omega arith in
    let step : with_front front (listed one (most - i) ts) ≡ Err (place, reason) = rw (k, h) refl in
    sym r.so_far ∙ step

-- a part, and no comma behind it
pub is_done : {A B : Type 0} {one : Reader A} {start : Reader B} {most i : ℕ} {front longer : List A} {ts tokens after : List Token} {x : A} → IsReadTo one start most front i ts tokens → i < most → one ts ≡ Ok (x, after) → behind_comma after ≡ None → longer ≡ front ++ x ∷ []
    → listed one most tokens ≡ Ok (longer, after)
unfolding listed
is_done {one} {most} {i} {front} {longer} {ts} {after} r lt h comma more =
    let k : most - i ≡ suc (most - (i + 1)) = omega arith in
    let step : with_front front (listed one (most - i) ts) ≡ Ok (longer, after) = rw (k, h, comma, more) refl in
    sym r.so_far ∙ step

-- as many parts as there may be, and a comma behind them
pub is_full : {A B : Type 0} {one : Reader A} {start : Reader B} {most i : ℕ} {front : List A} {ts tokens : List Token} → IsReadTo one start most front i ts tokens → most ≤ i → listed one most tokens ≡ Err (length ts, TooManyParts)
unfolding listed
is_full {one} {most} {i} {front} {ts} r le =
    let k : most - i ≡ 0 = omega arith in
    let step : with_front front (listed one (most - i) ts) ≡ Err (length ts, TooManyParts) = rw k refl in
    sym r.so_far ∙ step

-- parts that are seen otherwise, and one more of them
pub seen_push : {P A : Type 0} (view : P → A) (parts : List P) (x : P) {longer : List P} → longer ≡ parts ++ x ∷ [] → map view longer ≡ map view parts ++ view x ∷ []
seen_push view parts x h = ap (map view) h ∙ map_push view parts x

-- ---- the first part, behind which a list grows

-- the first part of a list is right
pub first_of_list : {A : Type 0} {x : List A × List Token} (one : Reader A) (most : ℕ) (ts : List Token) → listed one most ts ≡ Ok x → IsOk (one ts)
unfolding listed
first_of_list one zero ts is = absurd (cc)
first_of_list {x} one (suc n) ts is = first_was_right (one ts) _ x is

-- the first part is right of a list behind which something was answered
first_of_parts : {A B : Type 0} {x : B} (one : Reader A) (ts : List Token) (f : List A × List Token → Result B Fault) → (listed one most_parts ts >>= f) ≡ Ok x → IsOk (one ts)
first_of_parts {x} one ts f is = first_of_list one most_parts ts (bind_ok (listed one most_parts ts) f x is).1

-- a group begins with its first part
pub first_in_group : {A : Type 0} (part : Reader A) (mark : Token × Reason) (one : Reader TypeModel) (ts : List Token) {x : (List A × TypeModel) × List Token} → group_at part mark one ts ≡ Ok x → IsOk (part ts)
unfolding group_at
first_in_group part mark one ts is = first_of_parts part ts _ is

-- ---- parts that are passed over

pub stops_past : {A B : Type 0} {one : Reader A} {start : Reader B} {most i : ℕ} {front : List A} {ts tokens : List Token} → IsReadTo one start most front i ts tokens → i < most → (e : Failure ℕ Reason) → Stops e (one ts) → Stops e (passed (listed one most tokens))
stops_past r lt failures.NoMemory h = absurd h
stops_past r lt (failures.Wrong place reason) h = ap passed (ends r lt (failures.Wrong place reason) h)
