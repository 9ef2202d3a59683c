use Rattle.std.proofs.Common.{◌≡◌, ◌<◌, ◌≤◌, ◌+◌, ℕ, zero, suc, Bool, true, false, cond, List, [], ◌∷◌, None, Some, length, drop, slice_index_or, refl, sym, ap, ◌∙◌, arith}
use Rattle.std.specs.Str.{bytes_eq}
use Rattle.courier_notation.specs.declared.token.Token.{Token}
use Rattle.courier_notation.specs.Lexing.{token_beside}
use Rattle.courier_notation.proofs.keywords.token_beside.Goals as goal

-- whether the word stands in this entry
at_entry : {A : Type 0} (name : A → List ℕ) (es : List (A × Token)) (i : ℕ) (d : A × Token) (word : List ℕ) (b : Bool) → i < length es → b ≡ bytes_eq word (name (slice_index_or es i d).0)
    → token_beside name (drop i es) word ≡ cond b (Some (slice_index_or es i d).1) (token_beside name (drop (suc i) es) word)
at_entry name [] i d word b lt e = absurd (omega arith)
at_entry name (x ∷ es) zero d word b lt e = ap (λ (b : Bool). cond b (Some x.1) (token_beside name es word)) (sym e)
at_entry name (x ∷ es) (suc i) d word b lt e = at_entry name es i d word b (omega arith) e

behind_all : {A : Type 0} (name : A → List ℕ) (es : List (A × Token)) (i : ℕ) (word : List ℕ) → length es ≤ i → token_beside name (drop i es) word ≡ None
behind_all name [] zero word le = refl
behind_all name [] (suc i) word le = refl
behind_all name (x ∷ es) zero word le = absurd (omega arith)
behind_all name (x ∷ es) (suc i) word le = behind_all name es i word (omega arith)

pub loop-name-init : goal.loop-name-init
loop-name-init c = refl

pub returns-then-eq : goal.returns-then-eq
returns-then-eq c =
    let l = c.loop-name in
    sym (at_entry (λ name. name.now) c.args.table.now l.name-index _ c.args.word.now true c.loop-name-test.true c.if-eq.ensures) ∙ l.invariant

pub loop-name-preserved : goal.loop-name-preserved
loop-name-preserved c =
    let l = c.loop-name in
    let k : l.name-index + 1 ≡ suc l.name-index = omega arith in
    rw k (sym (at_entry (λ name. name.now) c.args.table.now l.name-index _ c.args.word.now false c.loop-name-test.true c.if-eq.ensures) ∙ l.invariant)

pub returns : goal.returns
returns c = sym (behind_all (λ name. name.now) c.args.table.now c.loop-name.name-index c.args.word.now c.loop-name-test.false) ∙ c.loop-name.invariant
