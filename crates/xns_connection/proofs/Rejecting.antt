-- Each call that is not listed has its reject as its answer.
use Rattle.std.proofs.Common.{◌≡◌, ◌∙◌, ap, sym, refl, subst, ℕ, zero, suc, ◌+◌, List, [], ◌∷◌, ◌++◌, length, length-append, map, Option, Some, None, arith, ◌⊎◌, inl, inr}
use Rattle.std.specs.Prelude.{slice_get, IfSome}
use Rattle.std.specs.Option.{option_to_list}
use Rattle.std.proofs.lemmas.List.{length-map}
use Rattle.courier_messages.specs.declared.message.Message.{Message}
use Rattle.courier_sessions.specs.Answering.{Answering, transaction_in, why_unlisted, reject_message}
use Rattle.courier_sessions.specs.Answerings.{HasAnswered}
use Rattle.courier_sessions.specs.declared.program.Program.{Program}
use Rattle.courier_sessions.specs.declared.unlisted.Unlisted.{Unlisted}
use Rattle.xns_spp.specs.declared.item.Item.{Item}
use Rattle.xns_connection.specs.Story.{AreRejected}

-- ---- lists

pub front_get : {X : Type 0} (xs ys : List X) (k : ℕ) (x : X) → slice_get xs k ≡ Some x → slice_get (xs ++ ys) k ≡ Some x
front_get [] ys k x e = absurd (cc)
front_get (z ∷ xs) ys zero x e = e
front_get (z ∷ xs) ys (suc k) x e = front_get xs ys k x e

-- an element of a list stands in its front, or is its last one
pub front_or_last : {X : Type 0} (xs : List X) (x : X) (k : ℕ) (y : X) → slice_get (xs ++ x ∷ []) k ≡ Some y → (slice_get xs k ≡ Some y) ⊎ ((k ≡ length xs) × (x ≡ y))
front_or_last [] x zero y e = inr (refl, let f = e in cc)
front_or_last [] x (suc k) y e = absurd (cc)
front_or_last (z ∷ xs) x zero y e = inl e
front_or_last (z ∷ xs) x (suc k) y e = elim (front_or_last xs x k y e) [ inl p ↦ inl p | inr p ↦ let is = p.0 in inr (omega (arith, is), p.1) ]

last_at : {X : Type 0} (xs : List X) (x : X) → slice_get (xs ++ x ∷ []) (length xs) ≡ Some x
last_at [] x = refl
last_at (z ∷ xs) x = last_at xs x

-- ---- how many calls are answered

pub count_of : {programs : List Program} {fed given : List Item} {taken handed answers : List Message} {a : Answering} → HasAnswered programs fed given taken handed answers a → length taken ≡ length answers + length (option_to_list a.asked)
count_of {taken = taken} {answers = answers} {a = a} d =
    sym (length-map taken transaction_in) ∙ ap length d.numbers ∙ length-append (map transaction_in answers) (option_to_list a.asked)
    ∙ ap (λ (n : ℕ). n + length (option_to_list a.asked)) (length-map answers transaction_in)

-- where a call waits each one that was taken is answered
pub all_answered : {programs : List Program} {fed given : List Item} {taken handed answers : List Message} {a : Answering} (m : Message) → HasAnswered programs fed given taken handed answers a → a.call ≡ Some m → length taken ≡ length answers
all_answered {answers = answers} {a = a} m d call =
    let none : a.asked ≡ None = subst (λ (o : Option Message). IfSome o (λ (x : Message). a.asked ≡ None)) call d.single in
    let count = count_of d ∙ ap (λ (o : Option ℕ). length answers + length (option_to_list o)) none in
    omega (arith, count)

-- ---- the steps

pub nothing_rejected : (programs : List Program) → AreRejected programs [] []
nothing_rejected programs = λ k m u at why. absurd (cc)

-- a call that is not listed, and its reject
pub one_rejected : (programs : List Program) (taken answers : List Message) (m : Message) (u : Unlisted) → length taken ≡ length answers → why_unlisted programs m ≡ Some u → AreRejected programs taken answers
    → AreRejected programs (taken ++ m ∷ []) (answers ++ reject_message (transaction_in m) u ∷ [])
one_rejected programs taken answers m u even why all = λ k c w at is. by k c w is (front_or_last taken m k c at) where
  same_reason : (c : Message) (w : Unlisted) → m ≡ c → why_unlisted programs c ≡ Some w → u ≡ w
  same_reason c w same is =
      let e : Some u ≡ Some w = sym why ∙ ap (why_unlisted programs) same ∙ is in
      cc

  by : (k : ℕ) (c : Message) (w : Unlisted) → why_unlisted programs c ≡ Some w → (slice_get taken k ≡ Some c) ⊎ ((k ≡ length taken) × (m ≡ c)) → slice_get (answers ++ reject_message (transaction_in m) u ∷ []) k ≡ Some (reject_message (transaction_in c) w)
  by k c w is (inl front) = front_get answers (reject_message (transaction_in m) u ∷ []) k (reject_message (transaction_in c) w) (all k c w front is)
  by k c w is (inr last) =
      ap (slice_get (answers ++ reject_message (transaction_in m) u ∷ [])) (last.0 ∙ even) ∙ last_at answers (reject_message (transaction_in m) u)
      ∙ ap (λ (x : Message). Some (reject_message (transaction_in x) u)) last.1 ∙ ap (λ (v : Unlisted). Some (reject_message (transaction_in c) v)) (same_reason c w last.1 is)

-- a listed call
pub one_handed : (programs : List Program) (taken answers : List Message) (m : Message) → why_unlisted programs m ≡ None → AreRejected programs taken answers → AreRejected programs (taken ++ m ∷ []) answers
one_handed programs taken answers m listed all = λ k c w at is. by k c w is (front_or_last taken m k c at) where
  none : (c : Message) (w : Unlisted) → m ≡ c → why_unlisted programs c ≡ Some w → ⊥
  none c w same is =
      let e : None ≡ Some w = sym listed ∙ ap (why_unlisted programs) same ∙ is in
      cc

  by : (k : ℕ) (c : Message) (w : Unlisted) → why_unlisted programs c ≡ Some w → (slice_get taken k ≡ Some c) ⊎ ((k ≡ length taken) × (m ≡ c)) → slice_get answers k ≡ Some (reject_message (transaction_in c) w)
  by k c w is (inl front) = all k c w front is
  by k c w is (inr last) = absurd (none c w last.1 is)

-- an answer
pub one_answered : (programs : List Program) (taken answers more : List Message) → AreRejected programs taken answers → AreRejected programs taken (answers ++ more)
one_answered programs taken answers more all = λ k c w at is. front_get answers more k (reject_message (transaction_in c) w) (all k c w at is)
