-- By which steps what a program is told changes what it sees of a connection.
use Rattle.std.proofs.Common.{◌≡◌, ◌≢◌, ◌∙◌, ap, refl, sym, subst, ℕ, Bool, true, false, [], ◌∷◌, ◌++◌, Option, Some, None}
use Rattle.std.specs.Prelude.{◌||◌, if◌then◌else◌}
use Rattle.std.specs.Option.{is_some, is_none}
use Rattle.std.proofs.lemmas.Bool.{and_parts, false_from_ne_true}
use Rattle.courier_messages.specs.declared.message.Message.{Message}
use Rattle.courier_messages.specs.declared.message.Message.TheVariants as messages
use Rattle.xns_spp.specs.Held.{StandsFor}
use Rattle.xns_spp.specs.State.{State}
use Rattle.xns_connection.specs.Deeds as deeds
use Rattle.xns_connection.specs.Ends.{AConnectionKeepsItsEnd, KeepsEnd, peer_that_opened}
use Rattle.xns_connection.specs.Deeds.{side_taken}
use Rattle.xns_host.proofs.Ends.{same_id}
use Rattle.xns_host.specs.Events.{event_by, event_in, event_of, is_newly_open, later_event}
use Rattle.xns_connection.specs.Step.{Hands, calmly, moving_on, none_waits}
use Rattle.xns_connection.specs.Story.{waiting_message}
use Rattle.xns_host.specs.Knowing.{id_of}
use Rattle.xns_host.specs.Went.{GuestAnnounced, GuestReports, GuestTells}
use Rattle.xns_connection.specs.declared.connection.Connection.{Connection}
use Rattle.xns_host.specs.declared.event.Event.{Event}
use Rattle.xns_host.specs.declared.event.Event.TheVariants as events
use Rattle.xns_host.specs.declared.guest.Guest.{Guest}
use Rattle.xns_connection.specs.declared.why.Why.{Why}
use Rattle.host_world.specs.Dialogue.{Dialogue, held, Happening, announces, hands, tells}
use Rattle.host_world.specs.Dialogue.{announcing, handing_answer, handing_call, telling}
use Rattle.host_world.specs.Seen.{news_of, number_of}
use Rattle.host_world.proofs.Deeds.{answer_handed, call_handed}
use Rattle.host_world.proofs.Happens.{closed_between, closed_same}
use Rattle.host_world.proofs.Sides.{Has}
use Rattle.host_world.proofs.Stepping.{Changes, by_parts, steps}
use Rattle.host_world.proofs.Shown.{Nearly, Passes, Shows, as_closed, first, nearly, settled, shown_as}

-- ---- the program is told

hands_by : (now : ℕ) (c e : Connection) (s : State) → StandsFor c.conversation.endpoint s → waiting_message c.conversation.side ≢ None → Hands now c e
    → Changes (side_taken c.conversation.side) c.conversation.closing.wanted c e
hands_by now c e s stands some (none_waits none alike) = absurd (some none)
hands_by now c e s stands some (calmly waits calm is) = by_parts c e _ s (side_taken c.conversation.side) stands is refl refl refl refl (λ k. refl)
hands_by now c e s stands some (moving_on waits busy step) = steps now deeds.took c e s (side_taken c.conversation.side) c.conversation.closing.wanted stands step refl refl refl

-- the program was told this of a connection, which became the other by that; where it was told of the close then, the connection was closed
-- before
pub record Reports (x : Happening) (d : Dialogue) (g h : Guest) : Type 0 where
  pub id : id_of h ≡ id_of g
  pub passes : Passes (x ∷ closed_between g h) (held d) (Some (Some h))
  pub over : h.connection.told ≡ true → closed_between g h ≡ []

pub after_hand : AConnectionKeepsItsEnd → (now : ℕ) (d : Dialogue) (g h : Guest) (m : Message) → Shows d g → GuestTells now g h → waiting_message g.connection.conversation.side ≡ Some m
    → Reports (hands m) d g h
after_hand ends now d g h m s t is = record {
  id = same_id g h keeps;
  passes = by d.ours refl;
  over = λ z. absurd (some (s.over (sym s.told ∙ (sym change.told ∙ z))).1);
} where
  some : waiting_message g.connection.conversation.side ≢ None
  some none = absurd (cc)

  change : Changes (side_taken g.connection.conversation.side) g.connection.conversation.closing.wanted g.connection h.connection
  change = hands_by now g.connection h.connection s.state s.stands some (t.handed some)

  keeps : KeepsEnd g.connection h.connection
  keeps = ends.hands now g.connection h.connection (t.handed some)

  not_told : d.told ≡ false
  not_told = false_from_ne_true d.told (λ z. some (s.over z).1)

  told_of : h.heard_of ≡ true
  told_of = ap (λ (k : Guest). k.heard_of) t.same ∙ ap (λ (o : Option Message). is_some o || g.heard_of) is

  near : (e : Dialogue) → e.ours ≡ d.ours → e.asked ≡ d.asked → e.closed ≡ d.closed → e.told ≡ d.told → Has e.ours e.calls e.answers (side_taken g.connection.conversation.side) → Nearly e h
  near e ours asked closed told has =
      nearly d e g h (side_taken g.connection.conversation.side) g.connection.conversation.closing.wanted s change
      keeps.opener ours closed told has (λ z. s.asked (sym asked ∙ z)) (λ z. absurd (some (s.over z).1))
      (λ z. absurd (cc)) (λ z. let told_something : h.opening_untold ≡ false = ap (λ (k : Guest). k.opening_untold) t.same in absurd (cc))

  by : (b : Bool) → d.ours ≡ b → Passes (hands m ∷ closed_between g h) (held d) (Some (Some h))
  by true our =
      let k = answer_handed d.calls d.answers g.connection.conversation.side m is (subst (λ (b : Bool). Has b d.calls d.answers g.connection.conversation.side) our s.side) in
      let e : Dialogue = record d { answers = d.answers ++ m ∷ [] } in
      first (held d) (held e) (hands m) (closed_between g h) (Some (Some h)) (handing_answer d k.call m our k.is_open_call k.number not_told)
      (settled e g h s.closed (near e refl refl refl refl (subst (λ (b : Bool). Has b d.calls (d.answers ++ m ∷ []) (side_taken g.connection.conversation.side)) (sym our) k.has)))
  by false theirs =
      let k = call_handed d.calls d.answers g.connection.conversation.side m is (subst (λ (b : Bool). Has b d.calls d.answers g.connection.conversation.side) theirs s.side) in
      let e : Dialogue = record d { calls = d.calls ++ m ∷ [] } in
      first (held d) (held e) (hands m) (closed_between g h) (Some (Some h)) (handing_call d m theirs k.even not_told)
      (settled e g h s.closed (near e refl refl refl refl (subst (λ (b : Bool). Has b (d.calls ++ m ∷ []) d.answers (side_taken g.connection.conversation.side)) (sym theirs) k.has)))

pub after_tell : (now : ℕ) (d : Dialogue) (g h : Guest) (why : Why) → Shows d g → GuestTells now g h → waiting_message g.connection.conversation.side ≡ None
    → g.connection.told ≡ false → g.connection.closed ≡ Some why → Reports (tells why) d g h
after_tell now d g h why s t none untold closed = record {
  id = ap (λ (k : Connection). k.conversation.endpoint.ends.id) is;
  passes = first (held d) (held e) (tells why) (closed_between g h) (Some (Some h)) (telling d why (sym s.closed ∙ closed) (sym s.told ∙ untold)) (as_closed e g h shows same);
  over = λ z. closed_same g h same;
} where
  e : Dialogue
  e = record d { told = true }

  is : h.connection ≡ record g.connection { told = true }
  is = t.closed none

  same : h.connection.closed ≡ g.connection.closed
  same = ap (λ (k : Connection). k.closed) is

  shows : Shows (record d { told = true }) h
  shows = record {
    state = s.state;
    stands = subst (λ (k : Connection). StandsFor k.conversation.endpoint s.state) (sym is) s.stands;
    side = subst (λ (k : Connection). Has d.ours d.calls d.answers k.conversation.side) (sym is) s.side;
    ours = ap (λ (k : Connection). is_none (peer_that_opened k)) is ∙ s.ours;
    asked = λ z. ap (λ (k : Connection). k.conversation.closing.wanted) is ∙ s.asked z;
    closed = same ∙ s.closed;
    told = ap (λ (k : Connection). k.told) is;
    over = λ z. (ap is_some (sym s.closed ∙ closed), ap (λ (k : Connection). waiting_message k.conversation.side) is ∙ none);
    unheard = λ z. s.unheard (let was = ap (λ (k : Guest). k.heard_of) t.same in let still = ap (λ (o : Option Message). is_some o || g.heard_of) none in sym still ∙ (sym was ∙ z));
    newly = λ z. let told_something : h.opening_untold ≡ false = ap (λ (k : Guest). k.opening_untold) t.same in absurd (cc);
  }

number_there : (number tag : ℕ) (m : Message) → number_of (event_of number tag m) ≡ number
number_there number tag (messages.Call transaction program version procedure words) = refl
number_there number tag (messages.Reject transaction reason words) = refl
number_there number tag (messages.Return transaction words) = refl
number_there number tag (messages.Abort transaction error words) = refl

news_there : (number tag : ℕ) (m : Message) → news_of (event_of number tag m) ≡ hands m
news_there number tag (messages.Call transaction program version procedure words) = refl
news_there number tag (messages.Reject transaction reason words) = refl
news_there number tag (messages.Return transaction words) = refl
news_there number tag (messages.Abort transaction error words) = refl

pub why_by : (number tag : ℕ) (told : Bool) (closed : Option Why) (event : Event) → event_by number tag None (if told then None else closed) ≡ Some event
    → (why : Why) × (told ≡ false) × (closed ≡ Some why) × (events.Closed number tag why ≡ event)
why_by number tag true closed event e = absurd (cc)
why_by number tag false None event e = absurd (cc)
why_by number tag false (Some why) event e = (why, refl, refl, cc)

number_by : (number tag : ℕ) (told : Bool) (closed : Option Why) (o : Option Message) (event : Event) → event_by number tag o (if told then None else closed) ≡ Some event → number_of event ≡ number
number_by number tag told closed (Some m) event e = let same : event_of number tag m ≡ event = cc in ap number_of (sym same) ∙ number_there number tag m
number_by number tag told closed None event e = ap number_of (sym (why_by number tag told closed event e).3)

-- a connection that is newly open has that event; any other has the event of what else there is to tell
pub newly_event : (number : ℕ) (g : Guest) (event : Event) → is_newly_open g ≡ true → event_in number (Some g) ≡ Some event → events.Opened number g.tag ≡ event
newly_event number g event is e =
    let some : Some (events.Opened number g.tag) ≡ Some event
    = ap (λ (b : Bool). if b then Some (events.Opened number g.tag) else later_event number g) (sym is) ∙ e in cc

pub later_is : (number : ℕ) (g : Guest) (event : Event) → is_newly_open g ≡ false → event_in number (Some g) ≡ Some event → later_event number g ≡ Some event
later_is number g event is e = ap (λ (b : Bool). if b then Some (events.Opened number g.tag) else later_event number g) (sym is) ∙ e

pub event_number : (number : ℕ) (g : Guest) (event : Event) → event_in number (Some g) ≡ Some event → number_of event ≡ number
event_number number g event e = by (is_newly_open g) refl where
  by : (newly : Bool) → is_newly_open g ≡ newly → number_of event ≡ number
  by true is = ap number_of (sym (newly_event number g event is e))
  by false is =
      number_by number g.tag g.connection.told g.connection.closed (waiting_message g.connection.conversation.side) event (later_is number g event is e)

after_opening : (d : Dialogue) (g h : Guest) → Shows d g → is_newly_open g ≡ true → GuestAnnounced g h → Reports announces d g h
after_opening d g h s is announced =
    let e : Dialogue = record d { opened = true } in
    let same = ap (λ (k : Guest). k.connection.closed) announced in
    record {
      id = ap id_of announced;
      passes = first (held d) (held e) announces (closed_between g h) (Some (Some h)) (announcing d (s.newly (and_parts g.opening_untold g.confirmed is).0))
          (as_closed e g h (subst (Shows e) (sym announced) (shown_as g.tag true false d g s (λ z. absurd (cc)))) same);
      over = λ z. closed_same g h same;
    }

tells_by : AConnectionKeepsItsEnd → (now number : ℕ) (d : Dialogue) (g h : Guest) (event : Event) (o : Option Message) → Shows d g → GuestTells now g h → waiting_message g.connection.conversation.side ≡ o
    → event_by number g.tag o (if g.connection.told then None else g.connection.closed) ≡ Some event → Reports (news_of event) d g h
tells_by ends now number d g h event (Some m) s t is e =
    let same : event_of number g.tag m ≡ event = cc in
    subst (λ (x : Happening). Reports x d g h) (sym (news_there number g.tag m) ∙ ap news_of same) (after_hand ends now d g h m s t is)
tells_by ends now number d g h event None s t is e =
    let w = why_by number g.tag g.connection.told g.connection.closed event e in
    subst (λ (x : Event). Reports (news_of x) d g h) w.3 (after_tell now d g h w.0 s t is w.1 w.2)

-- the program is told what the connection with this number has to tell
pub tells_it : AConnectionKeepsItsEnd → (now number : ℕ) (d : Dialogue) (g h : Guest) (event : Event) → Shows d g → GuestReports now g h → event_in number (Some g) ≡ Some event
    → Reports (news_of event) d g h
tells_it ends now number d g h event s t e = by (is_newly_open g) refl where
  by : (newly : Bool) → is_newly_open g ≡ newly → Reports (news_of event) d g h
  by true is = subst (λ (x : Event). Reports (news_of x) d g h) (newly_event number g event is e) (after_opening d g h s is (t.opened is))
  by false is =
      tells_by ends now number d g h event (waiting_message g.connection.conversation.side) s (t.later is) refl (later_is number g event is e)
