-- Of the answers to calls, those to the listed ones.
use Rattle.std.proofs.Common.{◌≡◌, ◌∙◌, ap, sym, refl, subst, ℕ, zero, suc, ◌+◌, ◌≤◌, List, [], ◌∷◌, ◌++◌, append-nil, length, length-append, true, false, get_or, Option, Some, None, arith, inl, inr}
use Rattle.std.specs.Prelude.{slice_get, not}
use Rattle.std.specs.List.{filter}
use Rattle.std.proofs.lemmas.Bool.{cases_Bool, cond-true, cond-false}
use Rattle.std.proofs.lemmas.List.Elements.{filter-append}
use Rattle.std.proofs.lemmas.Option.{slice_get-get_or, slice_get_within}
use Rattle.std.specs.Option.{is_some}
use Rattle.courier_messages.specs.declared.message.Message.{Message}
use Rattle.courier_sessions.specs.Answering.{transaction_in, why_unlisted, reject_message}
use Rattle.courier_sessions.specs.Answerings.{is_answerable}
use Rattle.courier_sessions.specs.declared.program.Program.{Program}
use Rattle.courier_sessions.specs.declared.unlisted.Unlisted.{Unlisted}
use Rattle.xns_spp.specs.Growth.{Begins}
use Rattle.xns_connection.specs.Living.{to_listed}
use Rattle.xns_connection.specs.Story.{AreRejected}

pub is_listed_where : (programs : List Program) (m : Message) → why_unlisted programs m ≡ None → is_answerable programs m ≡ true
is_listed_where programs m e = ap (λ (o : Option Unlisted). not (is_some o)) e

why_not : (programs : List Program) (m : Message) → is_answerable programs m ≡ false → (u : Unlisted) × (why_unlisted programs m ≡ Some u)
why_not programs m e = by (why_unlisted programs m) refl where
  by : (o : Option Unlisted) → why_unlisted programs m ≡ o → (u : Unlisted) × (why_unlisted programs m ≡ Some u)
  by None is = let f = is_listed_where programs m is in absurd (cc)
  by (Some u) is = (u, is)

listed_then : (programs : List Program) (c m : Message) (cs ms : List Message) → is_answerable programs c ≡ true → to_listed programs (c ∷ cs) (m ∷ ms) ≡ m ∷ to_listed programs cs ms
unfolding to_listed
listed_then programs c m cs ms e = cond-true (is_answerable programs c) (m ∷ to_listed programs cs ms) (to_listed programs cs ms) e

unlisted_then : (programs : List Program) (c m : Message) (cs ms : List Message) → is_answerable programs c ≡ false → to_listed programs (c ∷ cs) (m ∷ ms) ≡ to_listed programs cs ms
unfolding to_listed
unlisted_then programs c m cs ms e = cond-false (is_answerable programs c) (m ∷ to_listed programs cs ms) (to_listed programs cs ms) e

pub no_calls : (programs : List Program) (ms : List Message) → to_listed programs [] ms ≡ []
unfolding to_listed
no_calls programs ms = refl

no_answers : (programs : List Program) (cs : List Message) → to_listed programs cs [] ≡ []
unfolding to_listed
no_answers programs [] = refl
no_answers programs (c ∷ cs) = refl

-- calls behind those that are answered change nothing
pub unanswered_behind : (programs : List Program) (cs more ms : List Message) → length ms ≤ length cs → to_listed programs (cs ++ more) ms ≡ to_listed programs cs ms
unanswered_behind programs cs more [] few = no_answers programs (cs ++ more) ∙ sym (no_answers programs cs)
unanswered_behind programs [] more (m ∷ ms) few = absurd (omega (arith, few))
unanswered_behind programs (c ∷ cs) more (m ∷ ms) few =
    let rest = unanswered_behind programs cs more ms (omega (arith, few)) in
    elim (cases_Bool (is_answerable programs c)) [
      | inl e ↦ listed_then programs c m (cs ++ more) ms e ∙ ap (λ (l : List Message). m ∷ l) rest ∙ sym (listed_then programs c m cs ms e)
      | inr e ↦ unlisted_then programs c m (cs ++ more) ms e ∙ rest ∙ sym (unlisted_then programs c m cs ms e)
    ]

-- more answers only add some
pub more_answers : (programs : List Program) (cs ms more : List Message) → Begins (to_listed programs cs ms) (to_listed programs cs (ms ++ more))
more_answers programs cs [] more = subst (λ (l : List Message). Begins l (to_listed programs cs more)) (sym (no_answers programs cs)) (to_listed programs cs more, refl)
more_answers programs [] (m ∷ ms) more = subst (λ (l : List Message). Begins l (to_listed programs [] (m ∷ ms ++ more))) (sym (no_calls programs (m ∷ ms))) (to_listed programs [] (m ∷ ms ++ more), refl)
more_answers programs (c ∷ cs) (m ∷ ms) more =
    let rest = more_answers programs cs ms more in
    elim (cases_Bool (is_answerable programs c)) [
      | inl e ↦ (rest.0, ap (λ (l : List Message). l ++ rest.0) (listed_then programs c m cs ms e) ∙ ap (λ (l : List Message). m ∷ l) rest.1 ∙ sym (listed_then programs c m cs (ms ++ more) e))
      | inr e ↦ (rest.0, ap (λ (l : List Message). l ++ rest.0) (unlisted_then programs c m cs ms e) ∙ rest.1 ∙ sym (unlisted_then programs c m cs (ms ++ more) e))
    ]

-- behind as many answers as calls
answers_behind : (programs : List Program) (cs ms ds ns : List Message) → length cs ≡ length ms → to_listed programs (cs ++ ds) (ms ++ ns) ≡ to_listed programs cs ms ++ to_listed programs ds ns
answers_behind programs [] [] ds ns e = ap (λ (l : List Message). l ++ to_listed programs ds ns) (sym (no_calls programs []))
answers_behind programs [] (m ∷ ms) ds ns e = absurd (omega (arith, e))
answers_behind programs (c ∷ cs) [] ds ns e = absurd (omega (arith, e))
answers_behind programs (c ∷ cs) (m ∷ ms) ds ns e =
    let rest = answers_behind programs cs ms ds ns (omega (arith, e)) in
    elim (cases_Bool (is_answerable programs c)) [
      | inl is ↦ listed_then programs c m (cs ++ ds) (ms ++ ns) is ∙ ap (λ (l : List Message). m ∷ l) rest ∙ sym (ap (λ (l : List Message). l ++ to_listed programs ds ns) (listed_then programs c m cs ms is))
      | inr is ↦ unlisted_then programs c m (cs ++ ds) (ms ++ ns) is ∙ rest ∙ sym (ap (λ (l : List Message). l ++ to_listed programs ds ns) (unlisted_then programs c m cs ms is))
    ]

pub filter_takes : (programs : List Program) (c : Message) (cs : List Message) → is_answerable programs c ≡ true → filter (is_answerable programs) (c ∷ cs) ≡ c ∷ filter (is_answerable programs) cs
filter_takes programs c cs e = cond-true (is_answerable programs c) (c ∷ filter (is_answerable programs) cs) (filter (is_answerable programs) cs) e

filter_drops : (programs : List Program) (c : Message) (cs : List Message) → is_answerable programs c ≡ false → filter (is_answerable programs) (c ∷ cs) ≡ filter (is_answerable programs) cs
filter_drops programs c cs e = cond-false (is_answerable programs c) (c ∷ filter (is_answerable programs) cs) (filter (is_answerable programs) cs) e

-- the answer to a call that was handed
pub one_given : (programs : List Program) (cs ms : List Message) (m : Message) → length cs ≡ length ms + 1 → AreRejected programs cs ms → to_listed programs cs (ms ++ m ∷ []) ≡ to_listed programs cs ms ++ m ∷ []
one_given programs [] ms m e all = absurd (omega (arith, e))
one_given programs (c ∷ []) [] m e all = elim (cases_Bool (is_answerable programs c)) [
  | inl is ↦ listed_then programs c m [] [] is ∙ ap (λ (l : List Message). m ∷ l) (no_calls programs []) ∙ ap (λ (l : List Message). l ++ m ∷ []) (sym (no_answers programs (c ∷ [])))
  | inr is ↦ let w = why_not programs c is in absurd (let f = all 0 c w.0 refl w.1 in cc)
]
one_given programs (c ∷ d ∷ cs) [] m e all = absurd (omega (arith, e))
one_given programs (c ∷ cs) (x ∷ ms) m e all =
    let rest = one_given programs cs ms m (omega (arith, e)) (λ k y u at is. all (suc k) y u at is) in
    elim (cases_Bool (is_answerable programs c)) [
      | inl is ↦ listed_then programs c x cs (ms ++ m ∷ []) is ∙ ap (λ (l : List Message). x ∷ l) rest ∙ ap (λ (l : List Message). l ++ m ∷ []) (sym (listed_then programs c x cs ms is))
      | inr is ↦ unlisted_then programs c x cs (ms ++ m ∷ []) is ∙ rest ∙ ap (λ (l : List Message). l ++ m ∷ []) (sym (unlisted_then programs c x cs ms is))
    ]

-- ---- calls and answers that come without the program

unlisted_first : (programs : List Program) (c : Message) (cs : List Message) → filter (is_answerable programs) (c ∷ cs) ≡ [] → is_answerable programs c ≡ false
unlisted_first programs c cs e = elim (cases_Bool (is_answerable programs c)) [
  | inl is ↦ absurd (let f : c ∷ filter (is_answerable programs) cs ≡ [] = sym (filter_takes programs c cs is) ∙ e in cc)
  | inr is ↦ is
]

unlisted_at : (programs : List Program) (cs : List Message) (k : ℕ) (c : Message) → filter (is_answerable programs) cs ≡ [] → slice_get cs k ≡ Some c → is_answerable programs c ≡ false
unlisted_at programs [] k c e at = absurd (cc)
unlisted_at programs (d ∷ cs) zero c e at = let same : c ≡ d = cc in ap (is_answerable programs) same ∙ unlisted_first programs d cs e
unlisted_at programs (d ∷ cs) (suc k) c e at = unlisted_at programs cs k c (sym (filter_drops programs d cs (unlisted_first programs d cs e)) ∙ e) at

none_listed : (programs : List Program) (cs ms : List Message) → filter (is_answerable programs) cs ≡ [] → to_listed programs cs ms ≡ []
none_listed programs [] ms e = no_calls programs ms
none_listed programs (c ∷ cs) [] e = no_answers programs (c ∷ cs)
none_listed programs (c ∷ cs) (m ∷ ms) e =
    let is = unlisted_first programs c cs e in
    unlisted_then programs c m cs ms is ∙ none_listed programs cs ms (sym (filter_drops programs c cs is) ∙ e)

at_behind : (cs ds : List Message) (k : ℕ) → slice_get (cs ++ ds) (length cs + k) ≡ slice_get ds k
at_behind [] ds k = let e : 0 + k ≡ k = omega arith in ap (slice_get ds) e
at_behind (c ∷ cs) ds k = let e : length (c ∷ cs) + k ≡ suc (length cs + k) = omega arith in ap (slice_get (c ∷ cs ++ ds)) e ∙ at_behind cs ds k

nil_of : {X : Type 0} (xs : List X) → length xs ≡ 0 → xs ≡ []
nil_of [] e = refl
nil_of (x ∷ xs) e = absurd (omega (arith, e))

none_more : {X : Type 0} (xs ys : List X) → xs ++ ys ≡ xs → ys ≡ []
none_more xs ys e = nil_of ys (let count = sym (length-append xs ys) ∙ ap length e in omega (arith, count))

-- as many were answered as were taken, none of them listed
pub nothing_given : (programs : List Program) (cs ds ms ns : List Message) → filter (is_answerable programs) (cs ++ ds) ≡ filter (is_answerable programs) cs → length (cs ++ ds) + length ms ≡ length cs + length (ms ++ ns) → length ms ≤ length cs → length cs ≤ length ms + 1
    → AreRejected programs (cs ++ ds) (ms ++ ns) → to_listed programs (cs ++ ds) (ms ++ ns) ≡ to_listed programs cs ms
nothing_given programs cs [] ms ns same even few most all =
    let one = length-append ms ns in
    let front = append-nil cs in
    let count = ap length front in
    let none : ns ≡ [] = nil_of ns (omega (arith, even, one, count)) in
    ap (λ (l : List Message). to_listed programs l (ms ++ ns)) front ∙ ap (λ (l : List Message). to_listed programs cs (ms ++ l)) none ∙ ap (to_listed programs cs) (append-nil ms)
nothing_given programs cs (d ∷ ds) ms ns same even few most all =
    let none : filter (is_answerable programs) (d ∷ ds) ≡ [] = none_more (filter (is_answerable programs) cs) (filter (is_answerable programs) (d ∷ ds)) (sym (filter-append (is_answerable programs) cs (d ∷ ds)) ∙ same) in
    let x : Message = get_or (d ∷ ds) (length ds) d in
    let there : slice_get (d ∷ ds) (length ds) ≡ Some x = slice_get-get_or (d ∷ ds) (length ds) d (omega arith) in
    let why = why_not programs x (unlisted_at programs (d ∷ ds) (length ds) x none there) in
    let rejected = all (length cs + length ds) x why.0 (at_behind cs (d ∷ ds) (length ds) ∙ there) why.1 in
    let within = slice_get_within (ms ++ ns) (length cs + length ds) (reject_message (transaction_in x) why.0) rejected in
    let one = length-append cs (d ∷ ds) in
    let two = length-append ms ns in
    let both : length cs ≡ length ms = omega (arith, even, few, most, within, one, two) in
    answers_behind programs cs ms (d ∷ ds) ns both ∙ ap (λ (l : List Message). to_listed programs cs ms ++ l) (none_listed programs (d ∷ ds) ns none) ∙ append-nil (to_listed programs cs ms)
