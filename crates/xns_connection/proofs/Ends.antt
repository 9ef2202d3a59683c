-- A connection keeps its end, which at most learns its peer.
use Rattle.std.proofs.Common.{◌≡◌, ◌∙◌, ap, refl, sym, subst, ℕ, zero, suc, Bool, true, false, List, [], ◌∷◌, Option, Some, None, Result, Ok, Err, IfOk, OnErr}
use Rattle.std.specs.Prelude.{◌+◌, ◌&&◌, max, nat_lt, if◌then◌else◌, is_ok}
use Rattle.std.specs.Option.{is_some}
use Rattle.std.specs.declared.alloc.AllocError.{AllocError}
use Rattle.std.proofs.Math.Logic.{∥∥₁_elim}
use Rattle.std.proofs.Props.{props}
use Rattle.courier_sessions.specs.Pumping.{caller_side, server_side}
use Rattle.courier_sessions.specs.declared.feed_refusal.FeedRefusal.{FeedRefusal}
use Rattle.xns_agenda.specs.Waiting.{act_at}
use Rattle.xns_agenda.specs.declared.act.Act.{Act}
use Rattle.xns_agenda.specs.declared.act.Act.TheVariants.{Nothing, Again, Ask, GiveUp, Forget}
use Rattle.xns_idp.specs.declared.address.Address.{Address}
use Rattle.xns_spp.specs.Ends.{IsEnds, is_open}
use Rattle.xns_spp.specs.Held.{Held, StandsFor}
use Rattle.xns_spp.specs.Packet.{SppPacketModel}
use Rattle.xns_spp.specs.Receiving.{after_decided, decided}
use Rattle.xns_spp.specs.Sending.{accepting, after_send, flush_answer, handing, send_answer, send_fault, take_answer, waiting_count}
use Rattle.xns_spp.specs.State.{State, send_limit}
use Rattle.xns_spp.specs.Telling.{peer_name}
use Rattle.xns_spp.specs.declared.arrival.Arrival.{Arrival}
use Rattle.xns_spp.specs.declared.dropped.Dropped.{Dropped}
use Rattle.xns_spp.specs.declared.ends.Ends.{Ends}
use Rattle.xns_spp.specs.declared.item.Item.{Item}
use Rattle.xns_spp.specs.declared.role.Role.{Role}
use Rattle.xns_spp.specs.declared.role.Role.TheVariants.{Initiator, Responder}
use Rattle.xns_spp.specs.declared.send_fault.SendFault.{SendFault}
use Rattle.xns_spp.proofs.Heard.{not_zero}
use Rattle.xns_spp.specs.Datastreams.{end_reply_stream, end_stream}
use Rattle.xns_connection.specs.Closing.{closing_item, drains}
use Rattle.xns_connection.specs.Connecting.{is_dead}
use Rattle.xns_connection.specs.Deeds.{Deed, Parts, acted, acted_by, asked, done, gave, heard, made, nothing, shut, took, unserved}
use Rattle.xns_connection.specs.Ends.{AConnectionKeepsItsEnd, IsSameEnd, KeepsEnd, opener_by, peer_that_opened}
use Rattle.xns_connection.specs.Giving.{Giving, GivesAs, IsGiving, MayStopAt, at_first, at_flush, at_word, else_newer, flushed, giving, if_again, newer_of, next_unless, older, older_of}
use Rattle.xns_connection.specs.Moving.{Converses, Moves, Pumps, Rounds, ConversationScene, again, calms, closed_up, converses, deafened, drained_out, drains_only, with_end_out, may_end, may_reply, noting, once, refuses, refuses_on, replied, conversation_scene, settled_by, starves, taken_many}
use Rattle.xns_connection.specs.Step.{GivesNext, Hands, MovesOwed, Step, calmly, moving_on, none_waits, parts_of}
use Rattle.xns_connection.specs.Story.{Runs, flushes, resends, sends, start, takes, tells}
use Rattle.xns_connection.specs.declared.closing.Closing.{Closing}
use Rattle.xns_connection.specs.declared.connection.Connection.{Connection}
use Rattle.xns_connection.specs.declared.side.Side.{Side}
use Rattle.xns_connection.specs.declared.side.Side.TheVariants.{Answers, Calls}
use Rattle.xns_connection.specs.declared.why.Why.{Why}
use Rattle.xns_connection.proofs.Leading.{leads_run}
use Rattle.xns_connection.proofs.Outcomes as outcomes
use Rattle.xns_connection.proofs.Outcomes.{How, how}

-- ---- an end's own steps

sent_ends : (o : Option SendFault) (s : State) (x : Item) → (accepting o s x).ends ≡ s.ends
sent_ends None s x = refl
sent_ends (Some f) s x = refl

took_ends : (o : Option Item) (s : State) → (handing o s).ends ≡ s.ends
took_ends None s = refl
took_ends (Some x) s = refl

either_ends : (b : Bool) (s : State) (n : ℕ) → (if b then record s { sent = n } else s).ends ≡ s.ends
either_ends true s n = refl
either_ends false s n = refl

run_ends : {s v : State} → Runs s v → v.ends ≡ s.ends
run_ends start = refl
run_ends (sends {v = v} p x) = sent_ends (send_fault v x) v x ∙ run_ends p
run_ends (takes {v = v} p) = took_ends (take_answer v) v ∙ run_ends p
run_ends (flushes {v = v} p) = either_ends (is_open v.ends) v (send_limit v) ∙ run_ends p
run_ends (resends {v = v} p) = either_ends (is_open v.ends && nat_lt v.acknowledged (send_limit v)) v (max v.sent (v.acknowledged + 1)) ∙ run_ends p
run_ends (tells p asks) = run_ends p

-- ---- bytes that came

same_end : (e f : Ends) → f ≡ e → IsSameEnd e f
same_end e f is = subst (λ (x : Ends). IsSameEnd e x) (sym is) (record { same = refl; known = λ there. refl })

learned_end : (e : Ends) (p : SppPacketModel) (b : Bool) → is_open e ≡ b
    → IsSameEnd e (if b then e else record e { peer = p.source; peer_id = p.header.source_id })
learned_end e p true there = same_end e e refl
learned_end e p false shut = record { same = refl; known = λ there. absurd (cc) }

decided_end : (s : State) (r : Result Arrival Dropped) → IsSameEnd s.ends (after_decided s r).ends
decided_end s (Err d) = same_end s.ends s.ends refl
decided_end s (Ok a) = learned_end s.ends a.packet (is_open s.ends) refl

done_end : (deed : Deed) (x : ConversationScene) → IsSameEnd x.state.ends (done deed x).state.ends
done_end nothing x = same_end x.state.ends x.state.ends refl
done_end asked x = same_end x.state.ends x.state.ends refl
done_end (made call) x = same_end x.state.ends x.state.ends refl
done_end (gave kind words) x = same_end x.state.ends x.state.ends refl
done_end took x = same_end x.state.ends x.state.ends refl
done_end (heard bytes) x = decided_end x.state (decided x.state bytes)

-- ---- items move

pumps_ends : (side next : Side) (s v : State) (r : Result (Unit {0}) FeedRefusal) → Pumps side s r next v → v.ends ≡ s.ends
pumps_ends (Calls t) (Calls n) s v r p = run_ends (leads_run caller_side p.leads)
pumps_ends (Calls t) (Answers b) s v r p = absurd p
pumps_ends (Answers a) (Calls n) s v r p = absurd p
pumps_ends (Answers a) (Answers b) s v r p = run_ends (leads_run server_side p.leads)

rounds_ends : {side : Side} {s : State} {next : Side} {v : State} → Rounds side s next v → v.ends ≡ s.ends
rounds_ends {side} {s} {next} {v} (once p) = pumps_ends side next s v (Ok tt) p
rounds_ends (again {free = other} {next = next} {v = v} {w = w} r still rejected p) = pumps_ends other next v w (Ok tt) p ∙ rounds_ends r

conversed_ends : {side : Side} {s : State} {next : Side} {v : State} {r : Result (Unit {0}) FeedRefusal} → Converses side s r next v → v.ends ≡ s.ends
conversed_ends (calms rounds listed) = rounds_ends rounds
conversed_ends (starves rounds unlisted) = rounds_ends rounds
conversed_ends {side} {s} {next} {v} (refuses e p) = pumps_ends side next s v (Err e) p
conversed_ends (refuses_on {free = other} {next = next} {v = v} {w = w} e rounds still rejected p) = pumps_ends other next v w (Err e) p ∙ rounds_ends rounds

moves_ends : {x y : ConversationScene} {r : Result (Unit {0}) FeedRefusal} → Moves x r y → y.state.ends ≡ x.state.ends
moves_ends (drains_only drain) = refl
moves_ends (converses free c) = conversed_ends c

-- ---- the closing exchange

-- where an item is put out, and where none is, the ends stay as they were
put_ends : (b : Bool) (x : ConversationScene) (c : Closing) (item : Item)
    → (if b then record x { closing = c; state = after_send x.state item } else x).state.ends ≡ x.state.ends
put_ends true x c item = sent_ends (send_fault x.state item) x.state item
put_ends false x c item = refl

ended_ends : (x : ConversationScene) → (with_end_out x).state.ends ≡ x.state.ends
ended_ends x =
    put_ends (may_end x && is_ok (send_answer x.state (closing_item end_stream))) x (record x.closing { end_sent = true }) (closing_item end_stream)

replied_ends : (x : ConversationScene) → (replied x).state.ends ≡ x.state.ends
replied_ends x =
    put_ends (may_reply x && is_ok (send_answer x.state (closing_item end_reply_stream))) x (record x.closing { reply_sent = true })
    (closing_item end_reply_stream)

noting_ends : (o : Option Item) (x : ConversationScene) → (noting o x).state.ends ≡ x.state.ends
noting_ends None x = refl
noting_ends (Some item) x = took_ends (take_answer x.state) x.state

taken_ends : (n : ℕ) (x : ConversationScene) → (taken_many n x).state.ends ≡ x.state.ends
unfolding taken_many
taken_ends zero x = refl
taken_ends (suc n) x = let y : ConversationScene = taken_many n x in noting_ends (take_answer y.state) y ∙ taken_ends n x

drained_ends : (x : ConversationScene) → (drained_out x).state.ends ≡ x.state.ends
drained_ends x = by (drains x.side x.closing) where
  by : (b : Bool) → (if b then taken_many (waiting_count x.state) x else x).state.ends ≡ x.state.ends
  by true = taken_ends (waiting_count x.state) x
  by false = refl

closed_ends : (x : ConversationScene) → (closed_up x).state.ends ≡ x.state.ends
closed_ends x = replied_ends (drained_out (with_end_out x)) ∙ (drained_ends (with_end_out x) ∙ ended_ends x)

how_ends : {r : Result (Unit {0}) FeedRefusal} {mid to : ConversationScene} → How r mid to → to.state.ends ≡ mid.state.ends
how_ends (outcomes.good u mid) = closed_ends mid
how_ends (outcomes.short mid) = refl
how_ends (outcomes.bad e mid other) = closed_ends (deafened mid)

settled_ends : (r : Result (Unit {0}) FeedRefusal) (x : ConversationScene) → (settled_by r x).state.ends ≡ x.state.ends
settled_ends r x = how_ends (how r x)

shut_ends : (was closed : Option Why) (x : ConversationScene) → (shut was closed x).state.ends ≡ x.state.ends
shut_ends (Some why) closed x = refl
shut_ends None None x = refl
shut_ends None (Some why) x = refl

-- ---- a step

-- a connection has these ends, as a history of its end says
record HasEnds (c : Connection) (e : Ends) : Type 0 where
  state : State
  stands : StandsFor c.conversation.endpoint state
  ends : state.ends ≡ e

step_ends : (now : ℕ) (deed : Deed) (old new : Connection) (s : State) → StandsFor old.conversation.endpoint s → Step now deed old new
    → HasEnds new (done deed (conversation_scene old.conversation s)).state.ends
step_ends now deed old new s stands step =
    let m = step.on s stands in
    record {
      state = (shut old.closed new.closed m.to).state;
      stands = m.at.stands;
      ends = shut_ends old.closed new.closed m.to ∙ (ap (λ (x : ConversationScene). x.state.ends) m.settles.is
          ∙ (settled_ends step.moved m.settles.mid ∙ moves_ends m.settles.moves));
    }

-- the fields of an end are those of each history that it has
ends_of : (c : Connection) (s : State) → StandsFor c.conversation.endpoint s → c.conversation.endpoint.ends ≡ s.ends
ends_of c s stands = ap (λ (e : Held). e.ends) stands.holds

has_ends : (c : Connection) (e : Ends) → HasEnds c e → c.conversation.endpoint.ends ≡ e
has_ends c e has = ends_of c has.state has.stands ∙ has.ends

-- ---- what is kept

-- the end of a connection that a peer opened knows the peer, and so stays as it is
same_opener : (a b : Ends) (role : Role) → a.role ≡ role → IsEnds a → IsSameEnd a b → opener_by b.role b ≡ opener_by a.role a
same_opener a b Initiator is fits end =
    let still : b.role ≡ a.role = ap (λ (e : Ends). e.role) end.same in
    ap (λ (r : Role). opener_by r b) (still ∙ is) ∙ sym (ap (λ (r : Role). opener_by r a) is)
same_opener a b Responder is fits end =
    ap (λ (e : Ends). opener_by e.role e) (end.known (not_zero a.peer_id (fits.peer_known is)))

-- of a connection that its peer opened the end tells who opened it: its peer
pub named_opener : (c : Connection) (o : Option (Address × ℕ)) → c.conversation.endpoint.ends.role ≡ Responder
    → ((s : State) → StandsFor c.conversation.endpoint s → o ≡ peer_name s.ends) → o ≡ peer_that_opened c
named_opener c o responds named = ∥∥₁_elim c.stands (Prim.hlevel props) (λ x.
    let e : Ends = x.0.ends in
    let same : c.conversation.endpoint.ends ≡ e = ends_of c x.0 x.1 in
    let is : e.role ≡ Responder = sym (ap (λ (f : Ends). f.role) same) ∙ responds in
    let known : is_open e ≡ true = not_zero e.peer_id (x.1.fits.ends.peer_known is) in
    named x.0 x.1 ∙ ap (λ (b : Bool). if b then Some (e.peer, e.peer_id) else None) known ∙ sym (ap (λ (r : Role). opener_by r e) is)
    ∙ sym (ap (λ (f : Ends). opener_by f.role f) same))

module _ (old new : Connection) (ends : (s : State) → StandsFor old.conversation.endpoint s → IsSameEnd s.ends new.conversation.endpoint.ends) where
  abbrev History : Type 0
  History = (s : State) × StandsFor old.conversation.endpoint s

  end_then : History → IsSameEnd old.conversation.endpoint.ends new.conversation.endpoint.ends
  end_then x = subst (λ (e : Ends). IsSameEnd e new.conversation.endpoint.ends) (sym (ends_of old x.0 x.1)) (ends x.0 x.1)

  opener_then : History → peer_that_opened new ≡ peer_that_opened old
  opener_then x =
      let fits : IsEnds old.conversation.endpoint.ends = subst IsEnds (sym (ends_of old x.0 x.1)) x.1.fits.ends in
      same_opener old.conversation.endpoint.ends new.conversation.endpoint.ends old.conversation.endpoint.ends.role refl fits (end_then x)

  kept : KeepsEnd old new
  kept = record {
    end = record {
      same = ∥∥₁_elim old.stands (Prim.hlevel props) (λ x. (end_then x).same);
      known = λ there. ∥∥₁_elim old.stands (Prim.hlevel props) (λ x. (end_then x).known there);
    };
    opener = ∥∥₁_elim old.stands (Prim.hlevel props) opener_then;
  }

-- a connection whose endpoint is as it was
still_kept : (old new : Connection) → new.conversation.endpoint ≡ old.conversation.endpoint → KeepsEnd old new
still_kept old new same = kept old new (λ s stands. same_end s.ends new.conversation.endpoint.ends (ap (λ (e : Held). e.ends) (same ∙ stands.holds)))

step_keeps : (now : ℕ) (deed : Deed) (old new : Connection) → Step now deed old new → KeepsEnd old new
step_keeps now deed old new step = kept old new (λ s stands.
    let has = step_ends now deed old new s stands step in
    subst (λ (e : Ends). IsSameEnd s.ends e) (sym (has_ends new (done deed (conversation_scene old.conversation s)).state.ends has)) (done_end deed (conversation_scene old.conversation s)))

-- ---- a message that is handed

hand_keeps : (now : ℕ) (old new : Connection) → Hands now old new → KeepsEnd old new
hand_keeps now old new (none_waits none same) = still_kept old new (ap (λ (c : Connection). c.conversation.endpoint) same)
hand_keeps now old new (calmly some calm is) = still_kept old new (ap (λ (p : Parts). p.conversation.endpoint) is)
hand_keeps now old new (moving_on some busy step) = step_keeps now took old new step

-- ---- what is due, and what nobody hears

acted_end : (p : Parts) (act : Act) (now : ℕ) → (acted_by p act now).conversation.endpoint ≡ p.conversation.endpoint
acted_end p Nothing now = refl
acted_end p Again now = refl
acted_end p Ask now = refl
acted_end p GiveUp now = refl
acted_end p Forget now = refl

act_keeps : (now : ℕ) (old new : Connection) → parts_of new ≡ acted (parts_of old) now → KeepsEnd old new
act_keeps now old new is =
    still_kept old new (ap (λ (p : Parts). p.conversation.endpoint) is ∙ acted_end (parts_of old) (act_at old.wait now) now)

unserved_end : (closed : Bool) (p q : Parts) → q.conversation.endpoint ≡ p.conversation.endpoint
    → (if closed then p else q).conversation.endpoint ≡ p.conversation.endpoint
unserved_end true p q same = refl
unserved_end false p q same = same

refused_keeps : (number now : ℕ) (old new : Connection) → parts_of new ≡ unserved (parts_of old) number now → KeepsEnd old new
refused_keeps number now old new is = still_kept old new
    (ap (λ (p : Parts). p.conversation.endpoint) is ∙ unserved_end (is_some old.closed) (parts_of old) _ refl)

-- ---- a packet that goes out

again_ends : (b : Bool) (x : Giving) → (if_again b x).1.state.ends ≡ x.state.ends
again_ends true x = run_ends (resends start)
again_ends false x = refl

older_ends : (ps : List (List ℕ)) (x : Giving) → (older_of ps x).1.state.ends ≡ x.state.ends
older_ends [] x = again_ends x.owed.again x
older_ends (p ∷ ps) x = refl

newer_ends : (ps : List (List ℕ)) (x : Giving) → (newer_of ps x).1.state.ends ≡ x.state.ends
newer_ends [] x = refl
newer_ends (p ∷ ps) x = refl

flushed_ends : (x : Giving) → (flushed x).state.ends ≡ x.state.ends
flushed_ends x = run_ends (flushes start)

else_ends : (o : Option (List ℕ)) (x : Giving) → (else_newer o x).1.state.ends ≡ x.state.ends
else_ends None x = newer_ends (flush_answer x.state) (flushed x) ∙ flushed_ends x
else_ends (Some p) x = refl

next_ends : (dead : Bool) (x : Giving) → (next_unless dead x).1.state.ends ≡ x.state.ends
next_ends true x = refl
next_ends false x = else_ends (older x).0 (older x).1 ∙ older_ends x.packets x

short_ends : {x y : Giving} → MayStopAt x y → y.state.ends ≡ x.state.ends
short_ends at_first = refl
short_ends {x} (at_flush none) = older_ends x.packets x
short_ends {x} (at_word none) = flushed_ends (older x).1 ∙ older_ends x.packets x

moved_ends : (b : Bool) (now : ℕ) (old mid : Connection) (s : State) → StandsFor old.conversation.endpoint s → MovesOwed b now old mid → HasEnds mid s.ends
moved_ends true now old mid s stands step = step_ends now nothing old mid s stands step
moved_ends false now old mid s stands same =
    record { state = s; stands = subst (λ (c : Connection). StandsFor c.conversation.endpoint s) (sym same) stands; ends = refl }

given_ends : (r : Result (Option (List ℕ)) AllocError) (mid new : Connection) (s : State) → StandsFor mid.conversation.endpoint s
    → IfOk r (λ p. (v : State) → StandsFor mid.conversation.endpoint v
    → GivesAs (next_unless (is_dead mid.closed) (giving mid.conversation mid.owed v)) p new.conversation new.owed)
    → OnErr r ((v : State) → StandsFor mid.conversation.endpoint v → (y : Giving) × MayStopAt (giving mid.conversation mid.owed v) y
    × IsGiving new.conversation new.owed y)
    → new.conversation.endpoint.ends ≡ s.ends
given_ends (Ok p) mid new s stands gives short =
    let g = gives s stands in
    let x : Giving = giving mid.conversation mid.owed s in
    ends_of new (next_unless (is_dead mid.closed) x).1.state g.1.stands ∙ next_ends (is_dead mid.closed) x
given_ends (Err e) mid new s stands gives short =
    let g = short s stands in
    ends_of new g.0.state g.2.stands ∙ short_ends g.1

give_keeps : (now : ℕ) (r : Result (Option (List ℕ)) AllocError) (old new : Connection) → GivesNext now r old new → KeepsEnd old new
give_keeps now r old new g = kept old new (λ s stands.
    let has = moved_ends old.owed.moving now old g.mid s stands g.moved in
    same_end s.ends new.conversation.endpoint.ends (given_ends r g.mid new has.state has.stands g.gave g.short ∙ has.ends))

pub keeps_its_end : AConnectionKeepsItsEnd
keeps_its_end = record { steps = step_keeps; gives = give_keeps; hands = hand_keeps; acts = act_keeps; refused = refused_keeps }
