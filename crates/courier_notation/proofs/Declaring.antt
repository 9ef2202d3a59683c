-- Declarations that are read one after the other, as a loop does.
use Rattle.std.proofs.Common.{◌≡◌, ℕ, zero, suc, ◌-◌, ◌+◌, ◌≤◌, ◌<◌, Bool, true, false, cond, List, [], ◌∷◌, ◌++◌, length, Result, Ok, Err, refl, sym, ap, ◌∙◌, arith}
use Rattle.std.proofs.lemmas.List.{append-nil}
use Rattle.courier_notation.specs.declared.reason.Reason.{Reason}
use Rattle.courier_notation.specs.declared.reason.Reason.TheVariants.{TooManyDeclarations}
use Rattle.courier_notation.specs.declared.failure.Failure.{Failure}
use Rattle.courier_notation.specs.declared.failure.Failure.TheVariants as failures
use Rattle.courier_notation.specs.declared.token.Token.{Token}
use Rattle.courier_notation.specs.ProgramModels.{DeclaredModel}
use Rattle.courier_notation.specs.Failing.{◌>>=◌, Fails, over}
use Rattle.courier_notation.specs.Reading.{Fault}
use Rattle.courier_notation.specs.Programs.{declaration_at, declarations_at, is_end}
use Rattle.courier_notation.proofs.Listing.{regroup, with_front}

abbrev Declarations : Type 0
Declarations = List (ℕ × DeclaredModel)

-- what a further step reads
step : (n : ℕ) (ts : List Token) → is_end ts ≡ false → declarations_at (suc n) ts ≡ (declaration_at ts >>= λ first. over (λ others. first.0 ∷ others) (declarations_at n first.1))
unfolding declarations_at
step n ts h = ap (λ (b : Bool). cond b (Ok ([], ts)) (declaration_at ts >>= λ first. over (λ others. first.0 ∷ others) (declarations_at n first.1))) h

pub one_more : (front : Declarations) (most i : ℕ) (ts : List Token) (x : ℕ × DeclaredModel) (after : List Token) (total : Result (Declarations × List Token) Fault) → i < most → is_end ts ≡ false → declaration_at ts ≡ Ok (x, after)
    → with_front front (declarations_at (most - i) ts) ≡ total → with_front (front ++ x ∷ []) (declarations_at (most - (i + 1)) after) ≡ total
one_more front most i ts x after total lt goes h so_far =
    let k : most - i ≡ suc (most - (i + 1)) = omega arith in
    let stepped : with_front front (declarations_at (most - i) ts) ≡ with_front (front ++ x ∷ []) (declarations_at (most - (i + 1)) after) = rw (k, step (most - (i + 1)) ts goes, h) (regroup front x (declarations_at (most - (i + 1)) after)) in
    sym stepped ∙ so_far

pub one_fails : (e : Failure ℕ Reason) (front : Declarations) (most i : ℕ) (ts : List Token) (total : Result (Declarations × List Token) Fault) → i < most → is_end ts ≡ false → Fails e (declaration_at ts)
    → with_front front (declarations_at (most - i) ts) ≡ total → Fails e total
one_fails failures.NoMemory front most i ts total lt goes h so_far = tt
one_fails (failures.Wrong place reason) front most i ts total lt goes h so_far =
    let k : most - i ≡ suc (most - (i + 1)) = omega arith in
    let stepped : with_front front (declarations_at (most - i) ts) ≡ Err (place, reason) = rw (k, step (most - (i + 1)) ts goes, h) refl in
    sym so_far ∙ stepped

end_step : (n : ℕ) (ts : List Token) → is_end ts ≡ true → declarations_at (suc n) ts ≡ Ok ([], ts)
unfolding declarations_at
end_step n ts h = ap (λ (b : Bool). cond {A = Result (Declarations × List Token) Fault} b (Ok ([], ts)) (declaration_at ts >>= λ first. over (λ others. first.0 ∷ others) (declarations_at n first.1))) h

pub all_read : (front : Declarations) (most i : ℕ) (ts : List Token) (total : Result (Declarations × List Token) Fault) → i < most → is_end ts ≡ true
    → with_front front (declarations_at (most - i) ts) ≡ total → total ≡ Ok (front, ts)
all_read front most i ts total lt ended so_far =
    let k : most - i ≡ suc (most - (i + 1)) = omega arith in
    let stepped : with_front front (declarations_at (most - i) ts) ≡ Ok (front, ts) = rw (k, end_step (most - (i + 1)) ts ended) (ap (λ (ds : Declarations). Ok (ds, ts)) (append-nil front)) in
    sym so_far ∙ stepped

none_read : (ts : List Token) → is_end ts ≡ true → declarations_at 0 ts ≡ Ok ([], ts)
unfolding declarations_at
none_read ts h = ap (λ (b : Bool). cond {A = Result (Declarations × List Token) Fault} b (Ok ([], ts)) (Err (length ts, TooManyDeclarations))) h

no_more : (ts : List Token) → is_end ts ≡ false → declarations_at 0 ts ≡ Err (length ts, TooManyDeclarations)
unfolding declarations_at
no_more ts h = ap (λ (b : Bool). cond {A = Result (Declarations × List Token) Fault} b (Ok ([], ts)) (Err (length ts, TooManyDeclarations))) h

pub most_read : (front : Declarations) (most i : ℕ) (ts : List Token) (total : Result (Declarations × List Token) Fault) → most ≤ i → is_end ts ≡ true
    → with_front front (declarations_at (most - i) ts) ≡ total → total ≡ Ok (front, ts)
most_read front most i ts total le ended so_far =
    let k : most - i ≡ 0 = omega arith in
    let stepped : with_front front (declarations_at (most - i) ts) ≡ Ok (front, ts) = rw (k, none_read ts ended) (ap (λ (ds : Declarations). Ok (ds, ts)) (append-nil front)) in
    sym so_far ∙ stepped

pub too_many : (front : Declarations) (most i : ℕ) (ts : List Token) (total : Result (Declarations × List Token) Fault) → most ≤ i → is_end ts ≡ false
    → with_front front (declarations_at (most - i) ts) ≡ total → total ≡ Err (length ts, TooManyDeclarations)
too_many front most i ts total le goes so_far =
    let k : most - i ≡ 0 = omega arith in
    let stepped : with_front front (declarations_at (most - i) ts) ≡ Err (length ts, TooManyDeclarations) = rw (k, no_more ts goes) refl in
    sym so_far ∙ stepped

pub ended_first : (most : ℕ) (ts : List Token) → is_end ts ≡ true → declarations_at most ts ≡ Ok ([], ts)
unfolding declarations_at
ended_first zero ts h = ap (λ (b : Bool). cond b (Ok ([], ts)) (Err (length ts, TooManyDeclarations))) h
ended_first (suc n) ts h = ap (λ (b : Bool). cond b (Ok ([], ts)) (declaration_at ts >>= λ first. over (λ others. first.0 ∷ others) (declarations_at n first.1))) h
