-- A message that is handed where nothing can move then is handed as by a step.
use Rattle.std.proofs.Common.{◌≡◌, ◌∙◌, ap, refl, sym, subst, ℕ, Bool, true, false}
use Rattle.std.specs.Prelude.{◌&&◌, ◌||◌, ◌==◌, not}
use Rattle.std.proofs.Math.Logic.{∥∥₁_elim}
use Rattle.std.proofs.Props.{props}
use Rattle.std.proofs.lemmas.Bool.{eqb-true}
use Rattle.courier_sessions.specs.Answering.{has_items}
use Rattle.xns_agenda.specs.Waiting.{StepsAt, Waiting, still}
use Rattle.xns_spp.specs.Held.{Held, StandsFor}
use Rattle.xns_spp.specs.Laws.{TheNextItemIsHandedUp}
use Rattle.xns_spp.specs.Sending.{waiting_count}
use Rattle.xns_spp.specs.State.{State}
use Rattle.xns_connection.specs.Closing.{drains}
use Rattle.xns_connection.specs.Deeds.{Parts, side_taken, told_by, took}
use Rattle.xns_connection.specs.Moving.{is_calm, conversation_scene}
use Rattle.xns_connection.specs.Step.{AMessageIsHandedAsByAStep, AStepKeepsItsPromises, Promises, calmly, is_calm_then, moving_on, none_waits, parts_of}
use Rattle.xns_connection.specs.Story.{ProgramDoesNothing, IsListed, IsMoved, Story, has_message, out_of}
use Rattle.xns_connection.specs.Telling.{Calm, Tells, owes_end}
use Rattle.xns_connection.specs.declared.connection.Connection.{Connection}
use Rattle.xns_connection.specs.declared.conversation.Conversation.{Conversation}
use Rattle.xns_connection.proofs.Closes.{closes_calm}
use Rattle.xns_connection.proofs.Doing.{CallerHands, done_drains, told_state, took_says}
use Rattle.xns_connection.proofs.Fills.{at_end}
use Rattle.xns_connection.proofs.Handing.{ServerHands}
use Rattle.xns_connection.proofs.Keeping.{goes_from}
use Rattle.xns_connection.proofs.Leading.{goes_on, stays}
use Rattle.xns_connection.proofs.Owing.{same_room}
use Rattle.xns_connection.proofs.Says.{tells_by}
use Rattle.xns_connection.proofs.Still.{calm_still}

-- what a conversation is where nothing can move
record IsStill (moving : Bool) (t : Conversation) (s : State) : Type 0 where
  idle : moving ≡ false
  free : drains t.side t.closing ≡ false
  unwanted : t.closing.wanted ≡ false
  out : has_items (out_of t.side) ≡ false
  none : has_message t.side ≡ false
  few : waiting_count s ≡ 0

is_still : (moving : Bool) (t : Conversation) (s : State) → (not moving && is_calm (conversation_scene t s)) ≡ true → IsStill moving t s
is_still moving t s calm = by moving (drains t.side t.closing) t.closing.wanted (has_items (out_of t.side)) (has_message t.side) (waiting_count s == 0)
    refl refl refl refl refl refl calm where
      by : (m a b c d e : Bool) → moving ≡ m → drains t.side t.closing ≡ a → t.closing.wanted ≡ b → has_items (out_of t.side) ≡ c → has_message t.side ≡ d
          → (waiting_count s == 0) ≡ e → (not m && (not (a || b) && (not (c || d) && e))) ≡ true → IsStill moving t s
      by true a b c d e p q r u v w z = absurd (cc)
      by false true b c d e p q r u v w z = absurd (cc)
      by false false true c d e p q r u v w z = absurd (cc)
      by false false false true d e p q r u v w z = absurd (cc)
      by false false false false true e p q r u v w z = absurd (cc)
      by false false false false false true p q r u v w z = record { idle = p; free = q; unwanted = r; out = u; none = v; few = eqb-true (waiting_count s) 0 w }
      by false false false false false false p q r u v w z = absurd (cc)

owes_reply_drains : (a b c d : Bool) → c ≡ false → (a && (b && (c && d))) ≡ true → false ≡ true
owes_reply_drains true true true d shut is = absurd (cc)
owes_reply_drains true true false d shut is = is
owes_reply_drains true false c d shut is = is
owes_reply_drains false b c d shut is = is

-- the story goes on with the message that waits, if one does, and nothing else
handed_goes_on : CallerHands → ServerHands → (t : Conversation) (h : Story) → Tells t h
    → (v : Story) × Tells (record t { side = side_taken t.side }) v × ProgramDoesNothing (told_by took t.side h) v
handed_goes_on outcome call t h tells =
    let v : Story = at_end h.state (told_by took t.side h) in (
      v,
      tells_by (record { stands = tells.stands; side = refl; closing = refl }) (took_says outcome call t h tells),
      goes_from (told_by took t.side h) v h.state (told_state took t h) (stays v),
    )

module _ (outcome : CallerHands) (call : ServerHands) (next : TheNextItemIsHandedUp) (now : ℕ) (old new : Connection)
    (calm : (s : State) → StandsFor old.conversation.endpoint s → is_calm_then old s ≡ true)
    (is : parts_of new ≡ record (parts_of old) { conversation = record old.conversation { side = side_taken old.conversation.side } }) where
  abbrev t : Conversation
  t = old.conversation

  abbrev u : Conversation
  u = record t { side = side_taken t.side }

  same : new.conversation ≡ u
  same = ap (λ (p : Parts). p.conversation) is

  end : new.conversation.endpoint ≡ t.endpoint
  end = ap (λ (c : Conversation). c.endpoint) same

  unmoved : (s : State) → StandsFor t.endpoint s → IsStill old.owed.moving u s
  unmoved s stands = is_still old.owed.moving u s (calm s stands)

  free_before : (s : State) → StandsFor t.endpoint s → drains t.side t.closing ≡ false
  free_before s stands = sym (done_drains took (conversation_scene t s)) ∙ (unmoved s stands).free

  there : {s : State} → StandsFor new.conversation.endpoint s → StandsFor t.endpoint s
  there {s} stands = subst (λ (e : Held). StandsFor e s) end stands

  -- the story
  abbrev base : Story → Story
  base h = told_by took t.side h

  went : (h : Story) → Tells t h → (v : Story) × Tells u v × ProgramDoesNothing (base h) v
  went h tells = handed_goes_on outcome call t h tells

  calm_there : (h : Story) → Tells t h → Calm u u
  calm_there h tells =
      let k = unmoved h.state tells.stands in
      calm_still next u k.out k.none (λ s stands. (unmoved s stands).few)

  pub calmly_kept : Promises now took old new
  calmly_kept = record {
    story = λ h tells. let v = went h tells in (v.0, subst (λ (c : Conversation). Tells c v.0) (sym same) v.1, v.2);
    wanted = ap (λ (c : Conversation). c.closing.wanted) same;
    still = λ free. ∥∥₁_elim old.stands (Prim.hlevel props) (λ x. free_before x.0 x.1);
    calm = λ quiet free. record {
      on = λ h tells.
          let v = went h tells in
          let k = (calm_there h tells).on v.0 v.1 in
          let on = goes_on (base h) v.0 k.0 v.2 k.2 in
          subst (λ (c : Conversation). (m : Story) × Tells c m × ProgramDoesNothing (base h) m × IsMoved c.side m.state × IsListed c.side) (sym same) (k.0, k.1, on, k.3, k.4);
    };
    read = λ quiet kept h tells yes.
        let free = ap (λ (c : Conversation). drains c.side c.closing) same ∙ (unmoved h.state tells.stands).free in
        absurd (cc);
    said = λ quiet owes s stands.
        let free = ap (λ (c : Conversation). c.closing.wanted) same ∙ (unmoved s (there stands)).unwanted in
        absurd (never_owed new.conversation free owes);
    replied = λ quiet kept owes s stands.
        let free = ap (λ (c : Conversation). drains c.side c.closing) same ∙ (unmoved s (there stands)).free in
        absurd (let never = owes_reply_drains new.conversation.closing.reply_wanted (not new.conversation.closing.reply_sent) _ _ free owes in cc);
    ended = λ unsent sent. absurd (let never = ap (λ (c : Conversation). c.closing.end_sent) same ∙ unsent in cc);
    closes = closes_calm base
        (∥∥₁_elim old.stands (Prim.hlevel props) (λ x. free_before x.0 x.1))
        (∥∥₁_elim old.stands (Prim.hlevel props) (λ x. ap (λ (c : Conversation). drains c.side c.closing) same ∙ (unmoved x.0 x.1).free))
        (∥∥₁_elim old.stands (Prim.hlevel props) (λ x. ap (λ (p : Parts). p.owed.moving) is ∙ (unmoved x.0 x.1).idle))
        (ap (λ (p : Parts). p.closed) is);
    packets = ap (λ (c : Conversation). c.packets) same;
    steps = subst (λ (w : Waiting). StepsAt now old.wait w) (sym (ap (λ (p : Parts). p.wait) is)) still;
    room = same_room _ _ _ end;
  } where
    never_owed : (c : Conversation) → c.closing.wanted ≡ false → owes_end c ≡ true → ⊥
    never_owed c free owes = by c.closing.wanted _ free owes where
      by : (a b : Bool) → a ≡ false → (a && b) ≡ true → ⊥
      by true b unwanted is = cc
      by false b unwanted is = cc

pub handed_as_by_a_step : CallerHands → ServerHands → TheNextItemIsHandedUp → AStepKeepsItsPromises → AMessageIsHandedAsByAStep
handed_as_by_a_step outcome call next law now old new some (none_waits none alike) = absurd (some none)
handed_as_by_a_step outcome call next law now old new some (calmly waits calm is) = calmly_kept outcome call next now old new calm is
handed_as_by_a_step outcome call next law now old new some (moving_on waits busy step) = law now took old new step
