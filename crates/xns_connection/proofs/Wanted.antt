-- While a connection is not closed, and a word of the peer is wanted, something is due.
use Rattle.std.proofs.Common.{◌≡◌, ◌≢◌, ◌∙◌, ap, refl, sym, subst, ℕ, List, Bool, true, false, Option, Some, None, Result}
use Rattle.std.specs.Prelude.{◌||◌, if◌then◌else◌}
use Rattle.std.specs.Option.{is_some}
use Rattle.std.specs.declared.alloc.AllocError.{AllocError}
use Rattle.std.proofs.Math.Logic.{∥∥₁_elim}
use Rattle.std.proofs.Props.{props}
use Rattle.xns_agenda.specs.Waiting.{Waiting, act_at, act_by, after_step, due_time, lingering, new_waiting}
use Rattle.xns_agenda.specs.declared.act.Act.{Act}
use Rattle.xns_agenda.specs.declared.act.Act.TheVariants.{Nothing, Again, Ask, GiveUp, Forget}
use Rattle.xns_agenda.specs.declared.due.Due.{Due}
use Rattle.xns_agenda.specs.declared.due.Due.TheVariants.{Never, AgainAt, AskAt, ForgetAt}
use Rattle.xns_agenda.specs.declared.pace.Pace.{Pace}
use Rattle.xns_connection.specs.Closing.{wants_end, wants_word}
use Rattle.xns_connection.specs.Connecting.{is_open_due}
use Rattle.xns_connection.specs.Deeds.{Deed, Parts, acted_by, given_up, shut, side_taken, took, wait_after_deed, wait_moved, why_left}
use Rattle.xns_connection.specs.Moving.{IsAt, ConversationScene, conversation_scene}
use Rattle.xns_connection.specs.Step.{AClosingConnectionDoesNotWaitForEver, GivesNext, Hands, IsMade, IsTimed, Step, calmly, moving_on, none_waits, parts_of}
use Rattle.xns_connection.specs.Story.{wants_answer}
use Rattle.xns_connection.specs.Telling.{waits}
use Rattle.xns_connection.specs.declared.closing.Closing.{Closing}
use Rattle.xns_connection.specs.declared.connection.Connection.{Connection}
use Rattle.xns_connection.specs.declared.conversation.Conversation.{Conversation}
use Rattle.xns_connection.specs.declared.side.Side.{Side}
use Rattle.xns_connection.specs.declared.side.Side.TheVariants.{Calls, Answers}
use Rattle.xns_connection.specs.declared.why.Why.{Why}
use Rattle.xns_connection.specs.declared.why.Why.TheVariants.{NotServed}

-- what the waits promise
abbrev Asks : Type 0
Asks = (w : Waiting) (b : Option ℕ) (now : ℕ) → is_some (due_time (after_step w b true now).due) ≡ true

-- ---- what moves

after_one : Asks → (w v : Waiting) (b : Option ℕ) (wants : Bool) (now : ℕ) → v ≡ after_step w b wants now → wants ≡ true → is_some (due_time v.due) ≡ true
after_one asks w v b true now is wanted = ap (λ (u : Waiting). is_some (due_time u.due)) is ∙ asks w b now
after_one asks w v b false now is wanted = absurd (cc)

made_timed : Asks → (pace : Pace) (now : ℕ) (again : Bool) (c : Connection) → IsMade pace now again c → IsTimed (parts_of c)
made_timed asks pace now again c made none wanted = ∥∥₁_elim c.stands (Prim.hlevel props) (λ x.
    after_one asks (new_waiting pace now) c.wait (waits x.0) (wants_word c.conversation.side c.conversation.closing) now (made.waits x.0 x.1) wanted)

wanted_at : {t : Conversation} {x : ConversationScene} → IsAt t x → wants_word t.side t.closing ≡ true → wants_word x.side x.closing ≡ true
wanted_at {t} {x} at wanted =
    ap (λ (c : Closing). wants_word x.side c) (sym at.closing) ∙ (ap (λ (side : Side). wants_word side t.closing) (sym at.side) ∙ wanted)

moved_timed : Asks → (now : ℕ) (w v : Waiting) (was closed : Option Why) (t : Conversation) (x : ConversationScene) → IsAt t (shut was closed x)
    → (was ≢ None → closed ≡ was) → v ≡ wait_moved was closed w x now → closed ≡ None → wants_word t.side t.closing ≡ true
    → is_some (due_time v.due) ≡ true
moved_timed asks now w v (Some y) closed t x at stays is none wanted = let same = stays (λ z. cc) in absurd (cc)
moved_timed asks now w v None (Some y) t x at stays is none wanted = absurd (cc)
moved_timed asks now w v None None t x at stays is none wanted =
    after_one asks w v (waits x.state) (wants_word x.side x.closing) now is (wanted_at at wanted)

step_timed : Asks → (now : ℕ) (deed : Deed) (old new : Connection) → Step now deed old new → IsTimed (parts_of new)
step_timed asks now deed old new step none wanted = ∥∥₁_elim old.stands (Prim.hlevel props) (λ x.
    let m = step.on x.0 x.1 in
    moved_timed asks now (wait_after_deed deed old.wait x.0 now) new.wait old.closed new.closed new.conversation m.to m.at step.stays m.waits none wanted)

kept_timed : Asks → (now : ℕ) (w v : Waiting) (closed : Option Why) (x : ConversationScene) → v ≡ wait_moved closed closed w x now → closed ≡ None
    → wants_word x.side x.closing ≡ true → is_some (due_time v.due) ≡ true
kept_timed asks now w v (Some y) x is none wanted = absurd (cc)
kept_timed asks now w v None x is none wanted = after_one asks w v (waits x.state) (wants_word x.side x.closing) now is wanted

given_timed : Asks → (now : ℕ) (r : Result (Option (List ℕ)) AllocError) (old new : Connection) → GivesNext now r old new → IsTimed (parts_of new)
given_timed asks now r old new gives none wanted = ∥∥₁_elim new.stands (Prim.hlevel props) (λ x.
    kept_timed asks now gives.mid.wait new.wait gives.mid.closed (conversation_scene new.conversation x.0) (gives.waits x.0 x.1) (sym gives.closed ∙ none) wanted)

-- ---- what moves nothing

taken_wants : (side : Side) → wants_answer side ≡ wants_answer (side_taken side)
taken_wants (Calls t) = refl
taken_wants (Answers a) = refl

taken_timed : (p : Parts) → IsTimed p → IsTimed (record p { conversation = record p.conversation { side = side_taken p.conversation.side } })
taken_timed p timed none wanted = timed none (ap (λ (b : Bool). b || wants_end p.conversation.closing) (taken_wants p.conversation.side) ∙ wanted)

hands_timed : Asks → (now : ℕ) (old new : Connection) → IsTimed (parts_of old) → Hands now old new → IsTimed (parts_of new)
hands_timed asks now old new timed (none_waits none same) = subst (λ (c : Connection). IsTimed (parts_of c)) (sym same) timed
hands_timed asks now old new timed (calmly some calm same) = subst IsTimed (sym same) (taken_timed (parts_of old) timed)
hands_timed asks now old new timed (moving_on some free step) = step_timed asks now took old new step

unless_forgotten : (b silent : Bool) (a : Act) → a ≢ Forget → (if b then (if silent then GiveUp else a) else Nothing) ≢ Forget
unless_forgotten true true a stay = λ is. cc
unless_forgotten true false a stay = stay
unless_forgotten false silent a stay = λ is. cc

forgets_not : (w : Waiting) (d : Due) (now : ℕ) → is_open_due d ≡ true → act_by w d now ≢ Forget
forgets_not w Never now free = λ is. cc
forgets_not w (AgainAt t) now free = unless_forgotten _ _ Again (λ is. cc)
forgets_not w (AskAt t) now free = unless_forgotten _ _ Ask (λ is. cc)
forgets_not w (ForgetAt t) now free = absurd (cc)

acted_timed : (p : Parts) (a : Act) (now : ℕ) → (p.closed ≡ None → a ≢ Forget) → IsTimed p → IsTimed (acted_by p a now)
acted_timed p Nothing now stays timed = timed
acted_timed p Again now stays timed = λ none wanted. refl
acted_timed p Ask now stays timed = λ none wanted. refl
acted_timed p GiveUp now stays timed = λ none wanted. absurd (cc)
acted_timed p Forget now stays timed = λ none wanted. absurd (stays none refl)

unserved_timed : (p : Parts) (number now : ℕ) (b : Bool) → IsTimed p
    → IsTimed (if b then p else record p { conversation = given_up p.conversation; closed = Some (why_left p.conversation (NotServed number)); wait = lingering p.wait now })
unserved_timed p number now true timed = timed
unserved_timed p number now false timed = λ none wanted. absurd (cc)

pub waits_not_for_ever : Asks → AClosingConnectionDoesNotWaitForEver
waits_not_for_ever asks = record {
  begins = made_timed asks;
  steps = step_timed asks;
  gives = given_timed asks;
  hands = hands_timed asks;
  acts = λ now old new timed is. subst IsTimed (sym is)
      (acted_timed (parts_of old) (act_at old.wait now) now (λ none. forgets_not old.wait old.wait.due now (old.fits.open_due none)) timed);
  refused = λ number now old new timed is. subst IsTimed (sym is) (unserved_timed (parts_of old) number now (is_some old.closed) timed);
}
