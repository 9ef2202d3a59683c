-- What a step of a connection keeps of it.
use Rattle.std.proofs.Common.{◌≡◌, ◌≢◌, ◌∙◌, ap, refl, sym, subst, ℕ, zero, suc, Bool, true, false, List, Option, Some, None, Result, Ok, Err}
use Rattle.std.specs.Prelude.{◌==◌, if◌then◌else◌, nat_le, IfOk, OnErr}
use Rattle.std.specs.Option.{is_some}
use Rattle.courier_messages.specs.declared.message.Message.{Message}
use Rattle.courier_sessions.specs.declared.feed_refusal.FeedRefusal.{FeedRefusal}
use Rattle.courier_sessions.specs.declared.feed_refusal.FeedRefusal.TheVariants.{Stopped, Busy, TooLong, Attention, Fault, NoMemory}
use Rattle.std.specs.declared.alloc.AllocError.{AllocError}
use Rattle.xns_agenda.specs.Waiting.{Waiting, act_at, act_by, lingering}
use Rattle.xns_agenda.specs.declared.act.Act.{Act}
use Rattle.xns_agenda.specs.declared.act.Act.TheVariants.{Nothing, Again, Ask, GiveUp, Forget}
use Rattle.xns_agenda.specs.declared.due.Due.{Due}
use Rattle.xns_agenda.specs.declared.due.Due.TheVariants.{Never, AgainAt, AskAt, ForgetAt}
use Rattle.xns_spp.specs.Held.{Held, StandsFor}
use Rattle.xns_spp.specs.Sending.{take_answer, waiting_count}
use Rattle.xns_spp.specs.State.{State}
use Rattle.xns_spp.specs.declared.item.Item.{Item}
use Rattle.xns_spp.specs.Datastreams.{end_reply_stream, end_stream}
use Rattle.xns_connection.specs.Closing.{drains}
use Rattle.xns_connection.specs.Connecting.{is_closed_due, is_dead}
use Rattle.xns_connection.specs.Deeds.{Deed, Parts, acted, acted_by, done, given_up, nothing, shut, unserved, why_left}
use Rattle.xns_connection.specs.Giving.{Giving, GivesAs, IsGiving, MayStopAt, giving, next_unless}
use Rattle.xns_connection.specs.Moving.{ConversationScene, Moves, closed_up, converses, deafened, drained_out, drains_only, with_end_out, noting, replied, conversation_scene, settled_by, taken_many}
use Rattle.xns_connection.specs.Step.{GivesNext, MovesOwed, Step, parts_of}
use Rattle.xns_connection.specs.declared.closing.Closing.{Closing}
use Rattle.xns_connection.specs.declared.connection.Connection.{Connection}
use Rattle.xns_connection.specs.declared.conversation.Conversation.{Conversation}
use Rattle.xns_connection.specs.declared.side.Side.{Side}
use Rattle.xns_connection.specs.declared.why.Why.{Why}
use Rattle.xns_connection.specs.declared.why.Why.TheVariants.{NotServed}
use Rattle.host_world.proofs.Sides.{Has, converses_keep}

-- ---- the closing exchange

-- the side stays, and whether closing was asked for
record Stays (x y : ConversationScene) : Type 0 where
  side : y.side ≡ x.side
  wanted : y.closing.wanted ≡ x.closing.wanted

stays : (x : ConversationScene) → Stays x x
stays x = record { side = refl; wanted = refl }

stays_then : {x y z : ConversationScene} → Stays x y → Stays y z → Stays x z
stays_then p q = record { side = q.side ∙ p.side; wanted = q.wanted ∙ p.wanted }

stays_if : (b : Bool) (x y : ConversationScene) → Stays x y → Stays x (if b then y else x)
stays_if true x y s = s
stays_if false x y s = stays x

noted_by : (a b : Bool) (c : Closing)
    → (if a then record c { reply_wanted = true } else if b then record c { reply_wanted = true; reply_heard = true } else c).wanted ≡ c.wanted
noted_by true b c = refl
noted_by false true c = refl
noted_by false false c = refl

noting_stays : (o : Option Item) (x : ConversationScene) → Stays x (noting o x)
noting_stays None x = stays x
noting_stays (Some item) x = record { side = refl; wanted = noted_by (item.stream == end_stream) (item.stream == end_reply_stream) x.closing }

taken_stays : (n : ℕ) (x : ConversationScene) → Stays x (taken_many n x)
unfolding taken_many
taken_stays zero x = stays x
taken_stays (suc n) x = let y = taken_many n x in stays_then (taken_stays n x) (noting_stays (take_answer y.state) y)

ended_stays : (x : ConversationScene) → Stays x (with_end_out x)
ended_stays x = stays_if _ x _ (record { side = refl; wanted = refl })

drained_stays : (x : ConversationScene) → Stays x (drained_out x)
drained_stays x = stays_if _ x _ (taken_stays (waiting_count x.state) x)

replied_stays : (x : ConversationScene) → Stays x (replied x)
replied_stays x = stays_if _ x _ (record { side = refl; wanted = refl })

closed_up_stays : (x : ConversationScene) → Stays x (closed_up x)
closed_up_stays x = stays_then (ended_stays x) (stays_then (drained_stays (with_end_out x)) (replied_stays (drained_out (with_end_out x))))

deaf_stays : (x : ConversationScene) → Stays x (closed_up (deafened x))
deaf_stays x = let s = closed_up_stays (deafened x) in record { side = s.side; wanted = s.wanted }

settled_stays : (r : Result (Unit {0}) FeedRefusal) (x : ConversationScene) → Stays x (settled_by r x)
settled_stays (Ok u) x = closed_up_stays x
settled_stays (Err NoMemory) x = stays x
settled_stays (Err Stopped) x = deaf_stays x
settled_stays (Err Busy) x = deaf_stays x
settled_stays (Err TooLong) x = deaf_stays x
settled_stays (Err Attention) x = deaf_stays x
settled_stays (Err (Fault f)) x = deaf_stays x

shut_stays : (was closed : Option Why) (x : ConversationScene) → Stays x (shut was closed x)
shut_stays (Some why) closed x = stays x
shut_stays None None x = stays x
shut_stays None (Some why) x = record { side = refl; wanted = refl }

-- ---- items move

moves_keep : (ours : Bool) (cs rs : List Message) {x y : ConversationScene} {r : Result (Unit {0}) FeedRefusal} → Moves x r y → Has ours cs rs x.side → Has ours cs rs y.side
moves_keep ours cs rs (drains_only drain) h = h
moves_keep ours cs rs (converses free c) h = converses_keep ours cs rs c h

moves_drained : {x y : ConversationScene} {r : Result (Unit {0}) FeedRefusal} → Moves x r y → drains x.side x.closing ≡ true → y.side ≡ x.side
moves_drained (drains_only drain) d = refl
moves_drained (converses free c) d = absurd (cc)

moves_wanted : {x y : ConversationScene} {r : Result (Unit {0}) FeedRefusal} → Moves x r y → y.closing.wanted ≡ x.closing.wanted
moves_wanted (drains_only drain) = refl
moves_wanted (converses free c) = refl

-- ---- a step

-- from this side on, closing being asked for or not, a connection changed by itself
pub record Changes (side : Side) (closing : Bool) (c e : Connection) : Type 0 where
  pub state : State
  pub stands : StandsFor e.conversation.endpoint state
  pub keeps : (ours : Bool) (cs rs : List Message) → Has ours cs rs side → Has ours cs rs e.conversation.side
  pub drained : drains side c.conversation.closing ≡ true → e.conversation.side ≡ side
  pub wanted : e.conversation.closing.wanted ≡ closing
  pub told : e.told ≡ c.told
  pub stays : c.closed ≢ None → e.closed ≡ c.closed

pub steps : (now : ℕ) (deed : Deed) (c e : Connection) (s : State) (side : Side) (wanted : Bool) → StandsFor c.conversation.endpoint s → Step now deed c e
    → (done deed (conversation_scene c.conversation s)).side ≡ side → (done deed (conversation_scene c.conversation s)).closing.wanted ≡ wanted
    → drains side (done deed (conversation_scene c.conversation s)).closing ≡ drains side c.conversation.closing
    → Changes side wanted c e
steps now deed c e s side wanted stands step is_side is_wanted same =
    let m = step.on s stands in
    let x = done deed (conversation_scene c.conversation s) in
    let mid = m.settles.mid in
    let end : Stays mid (shut c.closed e.closed m.to) =
    stays_then (subst (Stays mid) (sym m.settles.is) (settled_stays step.moved mid)) (shut_stays c.closed e.closed m.to) in
    let moves = m.settles.moves in
    record {
      state = (shut c.closed e.closed m.to).state;
      stands = m.at.stands;
      keeps = λ ours cs rs h.
          let first : Has ours cs rs x.side = subst (Has ours cs rs) (sym is_side) h in
          let now_has : Has ours cs rs mid.side = moves_keep ours cs rs moves first in
          subst (Has ours cs rs) (sym (m.at.side ∙ end.side)) now_has;
      drained = λ d.
          let drain : drains x.side x.closing ≡ true = ap (λ (b : Side). drains b x.closing) is_side ∙ (same ∙ d) in
          m.at.side ∙ (end.side ∙ (moves_drained moves drain ∙ is_side));
      wanted = ap (λ (k : Closing). k.wanted) m.at.closing ∙ (end.wanted ∙ (moves_wanted moves ∙ is_wanted));
      told = step.told;
      stays = step.stays;
    }

-- ---- changes that are no steps of a deed

-- a connection that changed as by a deed, and no further
pub then_same : (side : Side) (wanted : Bool) (c d e : Connection) → Changes side wanted c d → (s : State) → StandsFor e.conversation.endpoint s
    → e.conversation.side ≡ d.conversation.side → e.conversation.closing.wanted ≡ d.conversation.closing.wanted → e.closed ≡ d.closed → e.told ≡ d.told
    → Changes side wanted c e
then_same side wanted c d e h s stands is_side is_wanted is_closed is_told = record {
  state = s;
  stands = stands;
  keeps = λ ours cs rs k. subst (Has ours cs rs) (sym is_side) (h.keeps ours cs rs k);
  drained = λ k. is_side ∙ h.drained k;
  wanted = is_wanted ∙ h.wanted;
  told = is_told ∙ h.told;
  stays = λ k. is_closed ∙ h.stays k;
}

pub unchanged : (c : Connection) (s : State) → StandsFor c.conversation.endpoint s → Changes c.conversation.side c.conversation.closing.wanted c c
unchanged c s stands = record {
  state = s;
  stands = stands;
  keeps = λ ours cs rs k. k;
  drained = λ k. refl;
  wanted = refl;
  told = refl;
  stays = λ k. refl;
}

-- the end is as it was, and it was closed at most where it was not
pub by_parts : (c e : Connection) (p : Parts) (s : State) (side : Side) → StandsFor c.conversation.endpoint s → parts_of e ≡ p
    → p.conversation.endpoint ≡ c.conversation.endpoint → p.conversation.side ≡ side
    → p.conversation.closing.wanted ≡ c.conversation.closing.wanted → p.told ≡ c.told → (c.closed ≢ None → p.closed ≡ c.closed)
    → Changes side c.conversation.closing.wanted c e
by_parts c e p s side stands is end is_side wanted told stays =
    let of = ap (λ (q : Parts). q.conversation) is in
    let same : e.conversation.side ≡ side = ap (λ (t : Conversation). t.side) of ∙ is_side in
    record {
      state = s;
      stands = subst (λ (h : Held). StandsFor h s) (sym (ap (λ (t : Conversation). t.endpoint) of ∙ end)) stands;
      keeps = λ ours cs rs k. subst (Has ours cs rs) (sym same) k;
      drained = λ k. same;
      wanted = ap (λ (t : Conversation). t.closing.wanted) of ∙ wanted;
      told = ap (λ (q : Parts). q.told) is ∙ told;
      stays = λ k. ap (λ (q : Parts). q.closed) is ∙ stays k;
    }

-- ---- what is due

-- a connection that is closed is not given up
not_given_up : (w : Waiting) (due : Due) (now : ℕ) → is_closed_due due ≡ true → act_by w due now ≡ GiveUp → ⊥
not_given_up w Never now closed e = absurd (cc)
not_given_up w (AgainAt t) now closed e = absurd (cc)
not_given_up w (AskAt t) now closed e = absurd (cc)
not_given_up w (ForgetAt t) now closed e = by (nat_le t now) e where
  by : (b : Bool) → (if b then Forget else Nothing) ≡ GiveUp → ⊥
  by true f = absurd (cc)
  by false f = absurd (cc)

acts_by : (c e : Connection) (now : ℕ) (act : Act) (s : State) → StandsFor c.conversation.endpoint s → act_at c.wait now ≡ act
    → parts_of e ≡ acted_by (parts_of c) act now → Changes c.conversation.side c.conversation.closing.wanted c e
acts_by c e now Nothing s stands at is = by_parts c e _ s c.conversation.side stands is refl refl refl refl (λ k. refl)
acts_by c e now Again s stands at is = by_parts c e _ s c.conversation.side stands is refl refl refl refl (λ k. refl)
acts_by c e now Ask s stands at is = by_parts c e _ s c.conversation.side stands is refl refl refl refl (λ k. refl)
acts_by c e now GiveUp s stands at is =
    by_parts c e _ s c.conversation.side stands is refl refl refl refl (λ k. absurd (not_given_up c.wait c.wait.due now (c.fits.closed_due k) at))
acts_by c e now Forget s stands at is = by_parts c e _ s c.conversation.side stands is refl refl refl refl (λ k. refl)

pub acts : (now : ℕ) (c e : Connection) (s : State) → StandsFor c.conversation.endpoint s → parts_of e ≡ acted (parts_of c) now
    → Changes c.conversation.side c.conversation.closing.wanted c e
acts now c e s stands is = acts_by c e now (act_at c.wait now) s stands refl is

-- ---- nobody hears the packet at its target

unserved_by : (o : Option Why) (c e : Connection) (error now : ℕ) (s : State) → StandsFor c.conversation.endpoint s → c.closed ≡ o
    → parts_of e ≡ (if is_some o then parts_of c else record (parts_of c) { conversation = given_up c.conversation; closed = Some (why_left c.conversation (NotServed error)); wait = lingering c.wait now })
    → Changes c.conversation.side c.conversation.closing.wanted c e
unserved_by (Some why) c e error now s stands was is = by_parts c e _ s c.conversation.side stands is refl refl refl refl (λ k. refl)
unserved_by None c e error now s stands was is = by_parts c e _ s c.conversation.side stands is refl refl refl refl (λ k. absurd (k was))

pub not_served : (now error : ℕ) (c e : Connection) (s : State) → StandsFor c.conversation.endpoint s
    → parts_of e ≡ unserved (parts_of c) error now → Changes c.conversation.side c.conversation.closing.wanted c e
not_served now error c e s stands is = unserved_by c.closed c e error now s stands refl is

-- ---- a packet that goes out

owed_moves : (b : Bool) (now : ℕ) (c d : Connection) (s : State) → StandsFor c.conversation.endpoint s → MovesOwed b now c d
    → Changes c.conversation.side c.conversation.closing.wanted c d
owed_moves true now c d s stands m = steps now nothing c d s c.conversation.side c.conversation.closing.wanted stands m refl refl refl
owed_moves false now c d s stands m = then_same c.conversation.side c.conversation.closing.wanted c c d (unchanged c s stands) s
    (subst (λ (k : Connection). StandsFor k.conversation.endpoint s) (sym m) stands) (ap (λ (k : Connection). k.conversation.side) m)
    (ap (λ (k : Connection). k.conversation.closing.wanted) m) (ap (λ (k : Connection). k.closed) m) (ap (λ (k : Connection). k.told) m)

given_state : (now : ℕ) (answer : Result (Option (List ℕ)) AllocError) (c d e : Connection) (s : State) → StandsFor d.conversation.endpoint s
    → IfOk answer (λ p. (v : State) → StandsFor d.conversation.endpoint v → GivesAs (next_unless (is_dead d.closed) (giving d.conversation d.owed v)) p e.conversation e.owed)
    → OnErr answer ((v : State) → StandsFor d.conversation.endpoint v → (y : Giving) × MayStopAt (giving d.conversation d.owed v) y × IsGiving e.conversation e.owed y)
    → (v : State) × StandsFor e.conversation.endpoint v
given_state now (Ok p) c d e s stands gave short = let g = gave s stands in ((next_unless (is_dead d.closed) (giving d.conversation d.owed s)).1.state, g.1.stands)
given_state now (Err k) c d e s stands gave short = let g = short s stands in (g.0.state, g.2.stands)

pub gives : (now : ℕ) (answer : Result (Option (List ℕ)) AllocError) (c e : Connection) (s : State) → StandsFor c.conversation.endpoint s → GivesNext now answer c e
    → Changes c.conversation.side c.conversation.closing.wanted c e
gives now answer c e s stands g =
    let d = g.mid in
    let first = owed_moves c.owed.moving now c d s stands g.moved in
    let end = given_state now answer c d e first.state first.stands g.gave g.short in
    then_same c.conversation.side c.conversation.closing.wanted c d e first end.0 end.1 g.beside.0 (ap (λ (k : Closing). k.wanted) g.beside.1) g.closed g.told
