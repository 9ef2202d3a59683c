-- What a side that is called does with the call that waits: it hands it, or rejects it.
use Rattle.std.proofs.Common.{◌≡◌, ◌≢◌, sym, refl, subst, ℕ, List, [], ◌∷◌, ◌++◌, Bool, true, false, Option, Some, None, Result, Ok, Err}
use Rattle.std.specs.Option.{is_some}
use Rattle.std.specs.declared.alloc.AllocError.{AllocError}
use Rattle.courier_messages.specs.declared.message.Message.{Message}
use Rattle.xns_spp.specs.declared.item.Item.{Item}
use Rattle.courier_sessions.specs.Answering.{Answering, has_items, why_unlisted, after_call, after_reject, answer_message, answer_refusal, with_answer_out}
use Rattle.courier_sessions.specs.Answerings.{HasAnswered}
use Rattle.courier_sessions.specs.declared.answer.Answer.{Answer}
use Rattle.courier_sessions.specs.declared.program.Program.{Program}
use Rattle.courier_sessions.specs.declared.unlisted.Unlisted.{Unlisted}
use Rattle.xns_connection.specs.Story.{Story, ServerHas, with_handed}
use Rattle.xns_connection.specs.declared.side.Side.TheVariants.{Answers}
use Rattle.xns_connection.proofs.Rejecting.{one_handed, one_answered}

-- ---- a call is handed

-- a listed call is handed, or nothing
pub taken : (P : Type 0) (a n : Answering) (r : Option Message)
    → ((m : Message) → a.call ≡ Some m → why_unlisted a.programs m ≡ None → (r ≡ Some m) × (n ≡ after_call a m))
    → ((m : Message) (u : Unlisted) → a.call ≡ Some m → why_unlisted a.programs m ≡ Some u → (r ≡ None) × (n ≡ a))
    → (a.call ≡ None → (r ≡ None) × (n ≡ a))
    → ((m : Message) → a.call ≡ Some m → why_unlisted a.programs m ≡ None → r ≡ Some m → n ≡ after_call a m → P) → (r ≡ None → n ≡ a → P) → P
taken P a n r handed unlisted none does_it does_not = by_call a.call refl where
  by_why : (m : Message) (o : Option Unlisted) → a.call ≡ Some m → why_unlisted a.programs m ≡ o → P
  by_why m None c w = let z = handed m c w in does_it m c w z.0 z.1
  by_why m (Some u) c w = let z = unlisted m u c w in does_not z.0 z.1

  by_call : (o : Option Message) → a.call ≡ o → P
  by_call None c = let z = none c in does_not z.0 z.1
  by_call (Some m) c = by_why m (why_unlisted a.programs m) c refl

abbrev pub ServerHands : Type 0
ServerHands = (programs : List Program) (fed given : List Item) (taken handed answers : List Message) (a : Answering) (m : Message) → HasAnswered programs fed given taken handed answers a → a.call ≡ Some m → why_unlisted a.programs m ≡ None → HasAnswered programs fed given (taken ++ m ∷ []) (handed ++ m ∷ []) answers (after_call a m)

pub hands : ServerHands → (h : Story) (a n : Answering) (m : Message) → a.call ≡ Some m → why_unlisted a.programs m ≡ None → n ≡ after_call a m → ServerHas h a → ServerHas (with_handed (Answers a) h m) n
hands law h a n m call listed is has =
    let done = law a.programs h.fed h.given h.taken h.handed h.answers (record a { failed = false; phase = has.phase }) m has.done call listed in
    let rejected = one_handed a.programs h.taken h.answers m listed has.rejected in
    let there : ServerHas (with_handed (Answers a) h m) (after_call a m) = record { phase = has.phase; done = done; going = has.going; table = has.table; rejected = rejected } in
    subst (λ (b : Answering). ServerHas (with_handed (Answers a) h m) b) (sym is) there

-- ---- a call is answered

abbrev pub ServerAnswers : Type 0
ServerAnswers = (programs : List Program) (fed given : List Item) (taken handed answers : List Message) (a : Answering) (answer : Answer) (k : ℕ) (words : List ℕ) → HasAnswered programs fed given taken handed answers a → a.asked ≡ Some k → answer_refusal a.asked answer words ≡ None
    → HasAnswered programs fed given taken handed (answers ++ answer_message answer k words ∷ []) (with_answer_out a (answer_message answer k words))

pub answers : ServerAnswers → (h : Story) (a n : Answering) (answer : Answer) (k : ℕ) (words : List ℕ) → a.asked ≡ Some k → answer_refusal a.asked answer words ≡ None → n ≡ with_answer_out a (answer_message answer k words) → ServerHas h a
    → ServerHas (record h { answers = h.answers ++ answer_message answer k words ∷ [] }) n
answers law h a n answer k words asked right is has =
    let m : Message = answer_message answer k words in
    let done = law a.programs h.fed h.given h.taken h.handed h.answers (record a { failed = false; phase = has.phase }) answer k words has.done asked right in
    let rejected = one_answered a.programs h.taken h.answers (m ∷ []) has.rejected in
    let there : ServerHas (record h { answers = h.answers ++ m ∷ [] }) (with_answer_out a m) = record { phase = has.phase; done = done; going = has.going; table = has.table; rejected = rejected } in
    subst (λ (b : Answering). ServerHas (record h { answers = h.answers ++ m ∷ [] }) b) (sym is) there

-- ---- a call is rejected

-- an unlisted call is rejected, or nothing
pub rejected : (P : Type 0) (a n : Answering) (r : Result Bool AllocError)
    → ((m : Message) (u : Unlisted) → a.call ≡ Some m → why_unlisted a.programs m ≡ Some u → r ≡ Ok true → n ≡ after_reject a m u)
    → ((m : Message) → a.call ≡ Some m → why_unlisted a.programs m ≡ None → r ≡ Ok false)
    → (a.call ≡ None → r ≡ Ok false)
    → (r ≢ Ok true → n ≡ a)
    → ((m : Message) (u : Unlisted) → a.call ≡ Some m → why_unlisted a.programs m ≡ Some u → n ≡ after_reject a m u → P) → (n ≡ a → P) → P
rejected P a n (Ok true) does listed none not does_it does_not = by_call a.call refl where
  by_why : (m : Message) (o : Option Unlisted) → a.call ≡ Some m → why_unlisted a.programs m ≡ o → P
  by_why m None c w = let z = listed m c w in absurd (cc)
  by_why m (Some u) c w = does_it m u c w (does m u c w refl)

  by_call : (o : Option Message) → a.call ≡ o → P
  by_call None c = let z = none c in absurd (cc)
  by_call (Some m) c = by_why m (why_unlisted a.programs m) c refl
rejected P a n (Ok false) does listed none not does_it does_not = does_not (not (λ w. cc))
rejected P a n (Err f) does listed none not does_it does_not = does_not (not (λ w. cc))

-- ---- whether items are out

pub is_out : {A : Type 0} (o : Option A) (xs : List Item) → (o ≡ None → xs ≡ []) → (o ≢ None → xs ≢ []) → is_some o ≡ has_items xs
is_out None [] none some = refl
is_out None (x ∷ xs) none some = let z = none refl in absurd (cc)
is_out (Some y) [] none some = absurd (some (λ z. cc) refl)
is_out (Some y) (x ∷ xs) none some = refl
