-- What the head of a message tells a caller before the message is taken in.
use Rattle.std.proofs.Common.{◌≡◌, ◌∙◌, ap, sym, refl, subst, ℕ, List, [], ◌∷◌, map, Bool, true, false, Option, Some, None, Result, Ok, Err}
use Rattle.std.specs.Prelude.{IsOk, if◌then◌else◌, ◌==◌}
use Rattle.courier_messages.specs.declared.fault.SessionFault.{SessionFault}
use Rattle.courier_messages.specs.declared.fault.SessionFault.TheVariants.{BadReply, WrongTransaction}
use Rattle.courier_messages.specs.declared.head.Head.{Head}
use Rattle.courier_messages.specs.declared.message.Message.{Message}
use Rattle.courier_messages.specs.declared.message.Message.TheVariants.{Call, Reject, Return, Abort}
use Rattle.courier_messages.specs.Conversation.{Phase}
use Rattle.courier_messages.specs.Head.{head_in, with_words, words_in}
use Rattle.courier_messages.specs.Refusal.{Stops}
use Rattle.courier_calls.specs.declared.call.Target.{Target}
use Rattle.courier_calls.specs.Calls.{SeenModel, found}
use Rattle.courier_calls.specs.Table.{ProcedureModel, ErrorModel, EntryModel, table_model, error_of}
use Rattle.courier_calls.specs.Caller.{CallerState, answer_to, results_in, abort_seen_as, error_in, refusal_in, message_refusal, RefusesMessage, head_fault, target_fault, is_answer_listed, listed_unless, IsRightButForWords, CallerJudges, CallerHears}
use Rattle.courier_messages.proofs.Heads.{headed}
use Rattle.courier_messages.proofs.Runs.{weaker}

-- a fault of the text
pub fault_first : (caller : CallerState) (e : SessionFault) (ms : List Message) (q : Result Phase SessionFault) → Stops e ⊥ ((q ≡ Err e) × (ms ≡ []))
    → CallerJudges caller (Err e) ms q
fault_first caller e ms q =
    weaker e (λ u. u) (λ h. subst (λ (ns : List Message). RefusesMessage caller ns q e) (sym h.1) h.0)

-- no message
pub nothing_yet : (caller : CallerState) (ms : List Message) (q : Result Phase SessionFault) → IsOk q → map head_in ms ≡ [] → IsRightButForWords caller ms q
nothing_yet caller [] q k h = record { text = k; answer = λ m is. absurd cc }
nothing_yet caller (m ∷ ms) q k h = absurd cc

-- the definition's answer to a message begins with what its head shows

results_refused : (f : Result (EntryModel × ProcedureModel) SeenModel) (t : ℕ) (words : List ℕ) (e : SessionFault) →
    listed_unless (is_answer_listed f (Return t words)) ≡ Some e → refusal_in (results_in f words) ≡ Some e
results_refused (Ok x) t words e h = absurd cc
results_refused (Err r) t words e h = h

error_refused : (error : ℕ) (o : Option ErrorModel) (x : EntryModel × ProcedureModel) (t : ℕ) (words : List ℕ) (e : SessionFault) → error_of x.0.errors error ≡ o →
    listed_unless (is_answer_listed (Ok x) (Abort t error words)) ≡ Some e → refusal_in (error_in error o words) ≡ Some e
error_refused error (Some f) x t words e is h = absurd cc
error_refused error None x t words e is h = cc

abort_refused : (f : Result (EntryModel × ProcedureModel) SeenModel) (t error : ℕ) (words : List ℕ) (e : SessionFault) →
    listed_unless (is_answer_listed f (Abort t error words)) ≡ Some e → refusal_in (abort_seen_as f error words) ≡ Some e
abort_refused (Ok x) t error words e h = error_refused error (error_of x.0.errors error) x t words e refl h
abort_refused (Err r) t error words e h = h

expected_refused : (b : Bool) (a : Result SeenModel SessionFault) (o : Option SessionFault) (e : SessionFault) → (o ≡ Some e → refusal_in a ≡ Some e) →
    (if b then o else Some WrongTransaction) ≡ Some e → refusal_in (if b then a else Err WrongTransaction) ≡ Some e
expected_refused true a o e f h = f h
expected_refused false a o e f h = h

by_head : (caller : CallerState) (waiting : Option Target) (m : Message) (e : SessionFault) → head_fault (table_model caller.table) caller.transaction waiting m ≡ Some e
    → message_refusal caller waiting m ≡ Some e
unfolding answer_to
by_head caller None (Call t p v q words) e h = h
by_head caller None (Reject t r words) e h = h
by_head caller None (Return t words) e h = h
by_head caller None (Abort t a words) e h = h
by_head caller (Some w) (Call t p v q words) e h = h
by_head caller (Some w) (Reject t r words) e h = expected_refused (t == caller.transaction) (Ok (SeenModel.rejected r words)) None e (λ k. absurd cc) h
by_head caller (Some w) (Return t words) e h =
    let f = found (table_model caller.table) w.program w.version w.procedure in
    expected_refused (t == caller.transaction) (results_in f words) (listed_unless (is_answer_listed f (Return t words))) e (results_refused f t words e) h
by_head caller (Some w) (Abort t a words) e h =
    let f = found (table_model caller.table) w.program w.version w.procedure in
    expected_refused (t == caller.transaction) (abort_seen_as f a words) (listed_unless (is_answer_listed f (Abort t a words))) e (abort_refused f t a words e) h

-- neither fault is want of memory

stops_unlisted : {P : Type 0} → (right : Bool) (e : SessionFault) → listed_unless right ≡ Some e → P → Stops e ⊥ P
stops_unlisted {P} true e is x = absurd cc
stops_unlisted {P} false e is x = let w : BadReply ≡ e = cc in subst (λ (g : SessionFault). Stops g ⊥ P) w x

stops_expected : {P : Type 0} → (b right : Bool) (e : SessionFault) → (if b then listed_unless right else Some WrongTransaction) ≡ Some e → P → Stops e ⊥ P
stops_expected {P} true right e is x = stops_unlisted right e is x
stops_expected {P} false right e is x = let w : WrongTransaction ≡ e = cc in subst (λ (g : SessionFault). Stops g ⊥ P) w x

stops_reply : {P : Type 0} → (table : List EntryModel) (expects : ℕ) (waiting : Option Target) (transaction : ℕ) (m : Message) (e : SessionFault) →
    target_fault table expects waiting transaction m ≡ Some e → P → Stops e ⊥ P
stops_reply {P} table expects None transaction m e is x = let w : WrongTransaction ≡ e = cc in subst (λ (g : SessionFault). Stops g ⊥ P) w x
stops_reply {P} table expects (Some t) transaction m e is x = stops_expected (transaction == expects) _ e is x

stops_head : {P : Type 0} → (table : List EntryModel) (expects : ℕ) (waiting : Option Target) (m : Message) (e : SessionFault) →
    head_fault table expects waiting m ≡ Some e → P → Stops e ⊥ P
stops_head {P} table expects waiting (Call t p v q words) e is x = let w : BadReply ≡ e = cc in subst (λ (g : SessionFault). Stops g ⊥ P) w x
stops_head table expects waiting (Reject t r words) e is x = stops_reply table expects waiting t (Reject t r words) e is x
stops_head table expects waiting (Return t words) e is x = stops_reply table expects waiting t (Return t words) e is x
stops_head table expects waiting (Abort t a words) e is x = stops_reply table expects waiting t (Abort t a words) e is x

-- the head of a message

pub wrong_head : (caller : CallerState) (ms : List Message) (q : Result Phase SessionFault) (head : Head) (o : Option SessionFault) (e : SessionFault) → o ≡ Some e → map head_in ms ≡ head ∷ [] →
    ((words : List ℕ) → o ≡ head_fault (table_model caller.table) caller.transaction caller.waiting (with_words head words)) → CallerJudges caller (Err e) ms q
wrong_head caller [] q head o e some h f = absurd cc
wrong_head caller (m ∷ ms) q head o e some h f =
    let d = headed m ms head h in
    let is : head_fault (table_model caller.table) caller.transaction caller.waiting m ≡ Some e =
    ap (head_fault (table_model caller.table) caller.transaction caller.waiting) d.0 ∙ sym (f (words_in m)) ∙ some in
    subst (λ (ns : List Message). CallerJudges caller (Err e) (m ∷ ns) q) (sym d.1)
    (stops_head (table_model caller.table) caller.transaction caller.waiting m e is (by_head caller caller.waiting m e is))

pub right_head : (caller : CallerState) (ms : List Message) (q : Result Phase SessionFault) (head : Head) (o : Option SessionFault) → o ≡ None → IsOk q → map head_in ms ≡ head ∷ [] →
    ((words : List ℕ) → o ≡ head_fault (table_model caller.table) caller.transaction caller.waiting (with_words head words)) → IsRightButForWords caller ms q
right_head caller [] q head o none k h f = absurd cc
right_head caller (m ∷ ms) q head o none k h f =
    let d = headed m ms head h in
    record {
      text = k;
      answer = λ n is. let same : m ≡ n = cc in
          ap (head_fault (table_model caller.table) caller.transaction caller.waiting) (sym same ∙ d.0) ∙ sym (f (words_in m)) ∙ none;
    }

-- an item at which something is wrong
pub judged : (old new : CallerState) (ms : List Message) (q : Result Phase SessionFault) (e : SessionFault) (r : Result (Unit {0}) SessionFault) → r ≡ Err e
    → new.outcome ≡ old.outcome → new.waiting ≡ old.waiting → CallerJudges old (Err e) ms q → CallerHears old new ms q r
judged old new ms q e r hr o w h =
    subst (λ (t : Result (Unit {0}) SessionFault). CallerHears old new ms q t) (sym hr) (o, w, weaker e (λ u. absurd u) (λ k. k) h)
