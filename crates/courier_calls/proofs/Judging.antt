-- What is told of an item before a server takes it in.
use Rattle.std.proofs.Common.{◌≡◌, ◌∙◌, ap, sym, refl, subst, ℕ, List, [], ◌∷◌, map, Option, Result, Err}
use Rattle.std.specs.Prelude.{IsOk}
use Rattle.courier_messages.specs.declared.fault.SessionFault.{SessionFault}
use Rattle.courier_messages.specs.declared.fault.SessionFault.TheVariants.{BadReply}
use Rattle.courier_messages.specs.declared.head.Head.{Head}
use Rattle.courier_messages.specs.declared.head.Head.TheVariants as heads
use Rattle.courier_messages.specs.declared.message.Message.{Message}
use Rattle.courier_messages.specs.declared.message.Message.TheVariants.{Call, Reject, Return, Abort}
use Rattle.courier_messages.specs.Called.{all_calls, calls_of, called_ending}
use Rattle.courier_messages.specs.Conversation.{Phase}
use Rattle.courier_messages.specs.Head.{head_in}
use Rattle.courier_messages.specs.Refusal.{Stops}
use Rattle.courier_messages.specs.Phases.{run, said}
use Rattle.courier_messages.specs.Text.{signs}
use Rattle.xns_spp.specs.declared.item.Item.{Item}
use Rattle.courier_calls.specs.Calls.{Serving}
use Rattle.courier_calls.specs.Server.{ServerState, ServerJudges, TakesItem}
use Rattle.courier_calls.specs.declared.call.Call as calls
use Rattle.courier_messages.proofs.Runs.{weaker}

-- a fault of the text
pub fault_first : (e : SessionFault) (ms : List Message) (q : Result Phase SessionFault) → Stops e ⊥ ((q ≡ Err e) × (ms ≡ []))
    → Stops e ⊥ ((called_ending ms q ≡ Err e) × (calls_of ms ≡ []))
unfolding all_calls calls_of
fault_first e ms q =
    weaker e (λ u. u) (λ h. (ap (λ (ns : List Message). called_ending ns q) h.1 ∙ h.0, ap (λ (ns : List Message). calls_of ns) h.1))

-- an item at which something is wrong
pub refused_at : {S : Type 0} (serving : Serving S) (old new : ServerState S) (x : Item) (e : SessionFault) (r : Result (Option calls.Call) SessionFault) → r ≡ Err e
    → new.state ≡ old.state → new.out ≡ old.out → ServerJudges old.phase (Err e) (said old.phase (signs x)) (run old.phase (signs x)) → TakesItem serving old new x r
refused_at serving old new x e r hr s o h =
    subst (λ (t : Result (Option calls.Call) SessionFault). TakesItem serving old new x t) (sym hr)
    (weaker e (λ u. absurd u) (λ w. record { stops = w.0; calls = w.1; state = s; out = o }) h)

-- no message
pub nothing_yet : (ms : List Message) (q : Result Phase SessionFault) → IsOk q → map head_in ms ≡ [] → IsOk (called_ending ms q)
unfolding all_calls
nothing_yet [] q k h = k
nothing_yet (m ∷ ms) q k h = absurd cc

-- a call
pub a_call : (ms : List Message) (q : Result Phase SessionFault) (t p v k : ℕ) → IsOk q → map head_in ms ≡ heads.Call t p v k ∷ []
    → IsOk (called_ending ms q)
unfolding all_calls
a_call [] q t p v k is h = absurd cc
a_call (Call t' p' v' k' words ∷ []) q t p v k is h = is
a_call (Call t' p' v' k' words ∷ n ∷ ms) q t p v k is h = absurd cc
a_call (Reject t' r words ∷ ms) q t p v k is h = absurd cc
a_call (Return t' words ∷ ms) q t p v k is h = absurd cc
a_call (Abort t' e words ∷ ms) q t p v k is h = absurd cc

-- another message
pub another : (ms : List Message) (q : Result Phase SessionFault) (head : Head) → ((t p v k : ℕ) → head ≡ heads.Call t p v k → ⊥)
    → map head_in ms ≡ head ∷ [] → (called_ending ms q ≡ Err BadReply) × (calls_of ms ≡ [])
unfolding all_calls calls_of
another [] q head other h = absurd cc
another (Call t p v k words ∷ ms) q head other h = let is : head ≡ heads.Call t p v k = cc in absurd (other t p v k is)
another (Reject t r words ∷ ms) q head other h = (refl, refl)
another (Return t words ∷ ms) q head other h = (refl, refl)
another (Abort t e words ∷ ms) q head other h = (refl, refl)
