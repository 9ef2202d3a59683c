-- What is told of an item before it is taken.
use Rattle.std.proofs.Common.{◌≡◌, ◌∙◌, ap, sym, subst, ℕ, List, [], ◌∷◌, Bool, true, false, Some, None, Option, Result, Ok, Err}
use Rattle.std.specs.Prelude.{if◌then◌else◌, IsOk, is_ok}
use Rattle.courier_messages.specs.declared.fault.SessionFault.{SessionFault}
use Rattle.courier_messages.specs.declared.fault.SessionFault.TheVariants.{WrongTransaction, BadReply}
use Rattle.courier_messages.specs.declared.head.Head.{Head}
use Rattle.courier_messages.specs.declared.message.Message.{Message}
use Rattle.courier_messages.specs.declared.message.Message.TheVariants.{Call, Reject, Return, Abort}
use Rattle.courier_messages.specs.Conversation.{Phase}
use Rattle.courier_messages.specs.Head.{with_words, words_in}
use Rattle.courier_messages.specs.Phases.{run, said, ◌then◌}
use Rattle.courier_messages.specs.Text.{signs}
use Rattle.xns_spp.specs.declared.item.Item.{Item}
use Rattle.courier_messages.specs.Refusal.{Foresees, Stops}
use Rattle.courier_sessions.specs.Answering as answering
use Rattle.courier_sessions.specs.Answering.{Answering, is_a_call, after_messages}
use Rattle.courier_sessions.specs.Talk.{Talk, reply_fault, wrong_unless, answered_unless, with_ended_messages, after_item}
use Rattle.courier_messages.proofs.Heads.{headed}
use Rattle.courier_messages.proofs.Runs.{weaker}
use Rattle.courier_sessions.proofs.Hearing.{nothing_said, one_said}

-- the side that calls

abbrev with_answers : Talk → Result Phase SessionFault → List Message → Result Talk SessionFault
with_answers t q ms = q then λ p. with_ended_messages (record t { phase = p }) ms

one_answer : (t : Talk) (q : Result Phase SessionFault) (ms : List Message) (head : Head) (o : Option SessionFault) →
    Foresees (Ok (Some head)) q ms → ((words : List ℕ) → o ≡ reply_fault t.waiting t.transaction (with_words head words))
    → (p : Phase) × (m : Message) × (with_answers t q ms ≡ answered_unless o (record t { phase = p }) m)
one_answer t (Ok p) [] head o h f = absurd cc
one_answer t (Ok p) (m ∷ ms) head o h f =
    let is : reply_fault t.waiting t.transaction m ≡ o = ap (reply_fault t.waiting t.transaction) (headed m ms head h.1).0
    ∙ sym (f (words_in m)) in
    (p, m, ap (λ (r : Option SessionFault). answered_unless r (record t { phase = p }) m) is)
one_answer t (Err e) ms head o h f = absurd cc

pub right_answer : (t : Talk) (x : Item) (head : Head) (o : Option SessionFault) → o ≡ None →
    Foresees (Ok (Some head)) (run t.phase (signs x)) (said t.phase (signs x)) → ((words : List ℕ) →
    o ≡ reply_fault t.waiting t.transaction (with_words head words)) → IsOk (after_item t x)
right_answer t x head o none h f =
    let one = one_answer t (run t.phase (signs x)) (said t.phase (signs x)) head o h f in
    ap is_ok (one.2 ∙ ap (λ (r : Option SessionFault). answered_unless r (record t { phase = one.0 }) one.1) none)

stops_wrong : {P : Type 0} → (right : Bool) (e : SessionFault) → wrong_unless right ≡ Some e → P → Stops e ⊥ P
stops_wrong {P} true e is x = absurd cc
stops_wrong {P} false e is x = let w : WrongTransaction ≡ e = cc in subst (λ (g : SessionFault). Stops g ⊥ P) w x

stops_reply : {P : Type 0} → (waiting : Bool) (expects : ℕ) (m : Message) (e : SessionFault) → reply_fault waiting expects m ≡ Some e → P →
    Stops e ⊥ P
stops_reply {P} waiting expects (Call t p v q words) e is x = let w : BadReply ≡ e = cc in subst (λ (g : SessionFault). Stops g ⊥ P) w x
stops_reply waiting expects (Reject t r words) e is x = stops_wrong _ e is x
stops_reply waiting expects (Return t words) e is x = stops_wrong _ e is x
stops_reply waiting expects (Abort t a words) e is x = stops_wrong _ e is x

pub wrong_answer : (t : Talk) (x : Item) (head : Head) (o : Option SessionFault) (e : SessionFault) → o ≡ Some e →
    Foresees (Ok (Some head)) (run t.phase (signs x)) (said t.phase (signs x)) →
    ((words : List ℕ) → o ≡ reply_fault t.waiting t.transaction (with_words head words)) → Stops e ⊥ (after_item t x ≡ Err e)
wrong_answer t x head o e some h f =
    let one = one_answer t (run t.phase (signs x)) (said t.phase (signs x)) head o h f in
    stops_reply t.waiting t.transaction (with_words head []) e (sym (f []) ∙ some)
    (one.2 ∙ ap (λ (r : Option SessionFault). answered_unless r (record t { phase = one.0 }) one.1) some)

-- the side that is called

pub fault_first : (a : Answering) (e : SessionFault) (x : Item) → Stops e ⊥
    ((run a.phase (signs x) ≡ Err e) × (said a.phase (signs x) ≡ [])) → Stops e ⊥ (answering.after_item a x ≡ Err e)
fault_first a e x = weaker e (λ u. u) (λ h. (λ i. after_messages a (h.1 i) (h.0 i)) ∙ nothing_said a (Err e))

nothing_yet : (a : Answering) (q : Result Phase SessionFault) (ms : List Message) → Foresees (Ok None) q ms →
    IsOk (after_messages a ms q)
nothing_yet a (Ok p) [] h = ap is_ok (nothing_said a (Ok p))
nothing_yet a (Ok p) (m ∷ ms) h = absurd cc
nothing_yet a (Err e) ms h = absurd cc

pub no_call_yet : (a : Answering) (x : Item) → Foresees (Ok None) (run a.phase (signs x)) (said a.phase (signs x)) →
    IsOk (answering.after_item a x)
no_call_yet a x = nothing_yet a (run a.phase (signs x)) (said a.phase (signs x))

one_message : (a : Answering) (q : Result Phase SessionFault) (ms : List Message) (head : Head) (b : Bool) →
    Foresees (Ok (Some head)) q ms → ((words : List ℕ) → b ≡ is_a_call (with_words head words))
    → (p : Phase) × (m : Message) × (after_messages a ms q ≡ ((if b then Ok p else Err BadReply) then λ p. Ok
    (record a { phase = p; call = Some m })))
one_message a (Ok p) [] head b h f = absurd cc
one_message a (Ok p) (m ∷ ms) head b h f =
    let d = headed m ms head h.1 in
    let is : is_a_call m ≡ b = ap is_a_call d.0 ∙ sym (f (words_in m)) in (
      p,
      m,
      ap (λ (l : List Message). after_messages a (m ∷ l) (Ok p)) d.1 ∙ one_said a m (Ok p)
          ∙ ap (λ (c : Bool). (if c then Ok p else Err BadReply) then λ p. Ok (record a { phase = p; call = Some m })) is,
    )
one_message a (Err e) ms head b h f = absurd cc

pub one_call : (a : Answering) (x : Item) (head : Head) (b : Bool) → b ≡ true →
    Foresees (Ok (Some head)) (run a.phase (signs x)) (said a.phase (signs x)) →
    ((words : List ℕ) → b ≡ is_a_call (with_words head words)) → IsOk (answering.after_item a x)
one_call a x head b is h f =
    let one = one_message a (run a.phase (signs x)) (said a.phase (signs x)) head b h f in
    ap is_ok (one.2 ∙ ap (λ (c : Bool). (if c then Ok one.0 else Err BadReply) then λ p. Ok (record a { phase = p; call = Some one.1 })) is)

pub another_message : (a : Answering) (x : Item) (head : Head) (b : Bool) → b ≡ false →
    Foresees (Ok (Some head)) (run a.phase (signs x)) (said a.phase (signs x)) →
    ((words : List ℕ) → b ≡ is_a_call (with_words head words)) → answering.after_item a x ≡ Err BadReply
another_message a x head b is h f =
    let one = one_message a (run a.phase (signs x)) (said a.phase (signs x)) head b h f in
    one.2 ∙ ap (λ (c : Bool). (if c then Ok one.0 else Err BadReply) then λ p. Ok (record a { phase = p; call = Some one.1 })) is
