-- One item more for the side that is called.
use Rattle.std.proofs.Common.{◌≡◌, ◌∙◌, ap, sym, refl, subst, List, [], ◌∷◌, Bool, true, false, Result, Ok, Err}
use Rattle.std.specs.Prelude.{if◌then◌else◌, Some}
use Rattle.xns_spp.specs.declared.item.Item.{Item}
use Rattle.courier_messages.specs.declared.fault.SessionFault.{SessionFault}
use Rattle.courier_messages.specs.declared.fault.SessionFault.TheVariants.{BadReply}
use Rattle.courier_messages.specs.declared.message.Message.{Message}
use Rattle.courier_messages.specs.declared.message.Message.TheVariants.{Call, Reject, Return, Abort}
use Rattle.courier_messages.specs.Conversation.{Phase}
use Rattle.courier_messages.specs.Phases.{run, said, ◌then◌}
use Rattle.courier_messages.specs.Refusal.{ComesTo, UnlessMemory}
use Rattle.courier_messages.specs.Called.{all_calls}
use Rattle.courier_messages.specs.Text.{signs}
use Rattle.courier_messages.proofs.Runs.{weaker}
use Rattle.courier_sessions.specs.Answering.{Answering, after_messages, after_item, is_a_call}

pub alone : (m : Message) → all_calls (m ∷ []) ≡ is_a_call m
unfolding all_calls
alone (Call transaction program version procedure words) = refl
alone (Reject transaction reason words) = refl
alone (Return transaction words) = refl
alone (Abort transaction error words) = refl

pub nothing_said : (a : Answering) (q : Result Phase SessionFault) → after_messages a [] q ≡ (q then λ p. Ok (record a { phase = p }))
unfolding all_calls
nothing_said a q = refl

pub one_said : (a : Answering) (m : Message) (q : Result Phase SessionFault) →
    after_messages a (m ∷ []) q ≡ ((if is_a_call m then q else Err BadReply) then λ p. Ok (record a { phase = p; call = Some m }))
one_said a m q = ap (λ (b : Bool). (if b then q else Err BadReply) then λ p. Ok (record a { phase = p; call = Some m })) (alone m)

item_is : (a : Answering) (x y : Item) (ms : List Message) (q : Result Phase SessionFault) → y ≡ x → run a.phase (signs y) ≡ q →
    said a.phase (signs y) ≡ ms → after_item a x ≡ after_messages a ms q
item_is a x y ms q e r s = ap (λ (z : Item). after_item a z) (sym e) ∙ (λ i. after_messages a (s i) (r i))

pub silent : (a : Answering) (x y : Item) (p : Phase) → y ≡ x → run a.phase (signs y) ≡ Ok p → said a.phase (signs y) ≡ [] →
    after_item a x ≡ Ok (record a { phase = p })
silent a x y p e r s = item_is a x y [] (Ok p) e r s ∙ nothing_said a (Ok p)

pub asked : (a : Answering) (x y : Item) (p : Phase) (m : Message) → is_a_call m ≡ true → y ≡ x → run a.phase (signs y) ≡ Ok p →
    said a.phase (signs y) ≡ m ∷ [] → after_item a x ≡ Ok (record a { phase = p; call = Some m })
asked a x y p m is e r s = item_is a x y (m ∷ []) (Ok p) e r s ∙ one_said a m (Ok p)
    ∙ ap (λ (b : Bool). (if b then Ok p else Err BadReply) then λ p. Ok (record a { phase = p; call = Some m })) is

pub no_call : (a : Answering) (x y : Item) (p : Phase) (m : Message) → is_a_call m ≡ false → y ≡ x → run a.phase (signs y) ≡ Ok p →
    said a.phase (signs y) ≡ m ∷ [] → after_item a x ≡ Err BadReply
no_call a x y p m is e r s = item_is a x y (m ∷ []) (Ok p) e r s ∙ one_said a m (Ok p)
    ∙ ap (λ (b : Bool). (if b then Ok p else Err BadReply) then λ p. Ok (record a { phase = p; call = Some m })) is

stops_by : (a : Answering) (x y : Item) (e : SessionFault) → y ≡ x → (run a.phase (signs y) ≡ Err e) × (said a.phase (signs y) ≡ []) →
    after_item a x ≡ Err e
stops_by a x y e same h = item_is a x y [] (Err e) same h.0 h.1 ∙ nothing_said a (Err e)

pub stopped : (a n : Answering) (x y : Item) (e : SessionFault) (r : Result (Unit {0}) SessionFault) → r ≡ Err e → y ≡ x →
    UnlessMemory e ((run a.phase (signs y) ≡ Err e) × (said a.phase (signs y) ≡ [])) → ComesTo r (after_item a x) n
stopped a n x y e r is same h = subst (λ (r : Result (Unit {0}) SessionFault). ComesTo r (after_item a x) n) (sym is)
    (weaker e (λ u. u) (stops_by a x y e same) h)
