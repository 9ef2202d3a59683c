-- A step of a connection, from what moved.
use Rattle.std.proofs.Common.{[], ◌≡◌, ◌≢◌, ◌∙◌, ap, refl, sym, subst, ℕ, List, Bool, true, false, Option, Some, None, Result}
use Rattle.std.specs.Prelude.{◌&&◌, ◌||◌, nat_lt, not, if◌then◌else◌}
use Rattle.std.specs.Option.{is_some}
use Rattle.std.proofs.Math.Logic.{∥∥₁_map}
use Rattle.std.proofs.Props.{props}
use Rattle.courier_sessions.specs.declared.feed_refusal.FeedRefusal.{FeedRefusal}
use Rattle.xns_agenda.specs.Waiting.{HearsAt, StepsAt, Waiting, close, still, act_at, after_act, after_by, after_step, after_word, lingering}
use Rattle.xns_agenda.specs.declared.act.Act.{Act}
use Rattle.xns_agenda.specs.declared.act.Act.TheVariants.{Nothing, Again, Ask, GiveUp, Forget}
use Rattle.xns_agenda.specs.declared.progress.Progress.{Progress}
use Rattle.xns_spp.specs.Held.{Held, StandsFor}
use Rattle.xns_spp.specs.Receiving.{after_receive, input_answer}
use Rattle.xns_spp.specs.Sending.{tick_answer, waiting_count}
use Rattle.xns_spp.specs.Telling.{unacknowledged_count}
use Rattle.xns_spp.specs.declared.input.Input.{Input}
use Rattle.xns_spp.specs.State.{State}
use Rattle.xns_connection.specs.Closing.{wants_word}
use Rattle.xns_connection.specs.Connecting.{FitsClosed, again_for, goes_again, is_again, is_foreign, owed_after, owed_heard, wait_heard, why_after}
use Rattle.xns_connection.specs.Moving.{HasHistory, IsAt, ConversationScene, MovesAll, is_calm, conversation_scene}
use Rattle.xns_connection.specs.Replying.{reply_by}
use Rattle.xns_connection.specs.Step.{May, MovesOwed, Step, WaitsBy, is_calm_then, parts_of}
use Rattle.xns_connection.specs.Deeds.{Deed, KeepsRest, Parts, acted, acted_by, given_up, heard, Moved, ClosesThen, GoesOnBy, closed_moved, done, given_up_by, is_starved, owed_by, owed_moved, shut, took, wait_after_deed, wait_moved}
use Rattle.xns_connection.specs.Telling.{is_over, progress, waits}
use Rattle.xns_connection.specs.declared.connection.Connection.{Connection}
use Rattle.xns_connection.specs.declared.conversation.Conversation.{Conversation}
use Rattle.xns_connection.specs.declared.owed.Owed.{Owed}
use Rattle.xns_connection.specs.declared.why.Why.{Why}
use Rattle.xns_connection.proofs.Dues.{fits_same}
use Rattle.xns_connection.proofs.Scenes.{deaf_at, scene_at}

-- a connection that was closed stays so
pub then_kept : (now : ℕ) (t : Conversation) (r : Result (Unit {0}) FeedRefusal) (closed : Option Why) (w : Waiting) → is_some closed ≡ true
    → ClosesThen now t r t closed closed w w
then_kept now t r None w some = absurd (cc)
then_kept now t r (Some y) w some = record { why = λ s stands. refl; stays = λ z. refl; is = refl; waits = λ s stands. refl; steps = still }

-- a connection that is closed by the step
pub then_shut : (now : ℕ) (t : Conversation) (r : Result (Unit {0}) FeedRefusal) (was closed : Option Why) (w : Waiting) → is_some was ≡ false
    → is_some closed ≡ true → ((s : State) → StandsFor t.endpoint s → closed ≡ why_after t.closing (is_over t.closing s) r)
    → ClosesThen now t r (given_up t) was closed w (lingering w now)
then_shut now t r (Some x) closed w none some why = absurd (cc)
then_shut now t r None None w none some why = absurd (cc)
then_shut now t r None (Some y) w none some why =
    record { why = why; stays = λ z. absurd (z refl); is = refl; waits = λ s stands. refl; steps = close still }

-- a connection that is open behind the step
pub then_open : (now : ℕ) (t : Conversation) (r : Result (Unit {0}) FeedRefusal) (was why : Option Why) (w v : Waiting) → is_some was ≡ false
    → is_some why ≡ false → ((s : State) → StandsFor t.endpoint s → why ≡ why_after t.closing (is_over t.closing s) r)
    → ((s : State) → StandsFor t.endpoint s → v ≡ after_step w (waits s) (wants_word t.side t.closing) now) → StepsAt now w v → ClosesThen now t r t was was w v
then_open now t r (Some x) why w v none not why_is waits_then steps = absurd (cc)
then_open now t r None (Some y) w v none not why_is waits_then steps = absurd (cc)
then_open now t r None None w v none not why_is waits_then steps =
    record { why = why_is; stays = λ z. refl; is = refl; waits = waits_then; steps = steps }

-- a connection is closed, or not, at the scene that its items moved to
at_left : (t : Conversation) (x : ConversationScene) (was closed : Option Why) → IsAt t x → IsAt (given_up_by was closed t) (shut was closed x)
at_left t x (Some w) closed at = at
at_left t x None None at = at
at_left t x None (Some w) at = deaf_at at refl

packets_left : (t : Conversation) (was closed : Option Why) → (given_up_by was closed t).packets ≡ t.packets
packets_left t (Some w) closed = refl
packets_left t None None = refl
packets_left t None (Some w) = refl

end_left : (t : Conversation) (was closed : Option Why) → (given_up_by was closed t).endpoint ≡ t.endpoint
end_left t (Some w) closed = refl
end_left t None None = refl
end_left t None (Some w) = refl

pub left_history : (now : ℕ) (mid new : Conversation) (r : Result (Unit {0}) FeedRefusal) (was closed : Option Why) (w v : Waiting)
    → HasHistory mid.endpoint → ClosesThen now mid r new was closed w v → HasHistory new.endpoint
left_history now mid new r was closed w v has next =
    subst HasHistory (sym (ap (λ (t : Conversation). t.endpoint) next.is ∙ end_left mid was closed)) has

pub goes_on_by : (now : ℕ) (old mid new : Conversation) (r : Result (Unit {0}) FeedRefusal) (o n : Owed) (was closed : Option Why) (w v : Waiting)
    → ((s : State) → StandsFor old.endpoint s → (x : ConversationScene) × IsAt mid x × MovesAll (conversation_scene old s) r x) → mid.packets ≡ old.packets
    → ClosesThen now mid r new was closed w v
    → ((s u : State) → StandsFor old.endpoint s → StandsFor mid.endpoint u → n ≡ owed_moved o (is_starved r) (waiting_count s) (waiting_count u))
    → GoesOnBy now old new o n was closed w v
goes_on_by now old mid new r o n was closed w v settles packets next owes = record {
  moved = r;
  on = λ s stands.
      let x = settles s stands in
      record {
        to = x.0;
        settles = x.2;
        at = subst (λ (t : Conversation). IsAt t (shut was closed x.0)) (sym next.is) (at_left mid x.0 was closed x.1);
        why = next.why x.0.state x.1.stands ∙ ap (closed_moved was r) (scene_at x.1);
        owes = owes s x.0.state stands x.1.stands;
        waits = next.waits x.0.state x.1.stands ∙ ap (λ (y : ConversationScene). wait_moved was closed w y now) (scene_at x.1);
      };
  packets = ap (λ (t : Conversation). t.packets) next.is ∙ packets_left mid was closed ∙ packets;
  stays = next.stays;
  steps = next.steps;
}

-- ---- what is always so

-- what is known of the parts of a connection
record Known (t : Conversation) (w : Waiting) (closed : Option Why) : Type 0 where
  timed : closed ≡ None → (s : State) → StandsFor t.endpoint s → tick_answer s ≢ [] → is_again w.due ≡ true
  fits : FitsClosed closed t w
  stands : HasHistory t.endpoint

known_one : (t : Conversation) (w : Waiting) (closed : Option Why) (a b : Known t w closed) → a ≡ b
known_one t w closed a b = one a b where
  one : IsProp (Known t w closed)
  one = Prim.hlevel props

abbrev with_known : (p : Parts) → Known p.conversation p.wait p.closed → Connection
with_known p k = record {
  conversation = p.conversation;
  wait = p.wait;
  owed = p.owed;
  closed = p.closed;
  told = p.told;
  timed = k.timed;
  fits = k.fits;
  stands = k.stands;
}

abbrev known_of : (c : Connection) → Known c.conversation c.wait c.closed
known_of c = record { timed = c.timed; fits = c.fits; stands = c.stands }

-- a connection is its parts
pub same_connection : (c d : Connection) → parts_of d ≡ parts_of c → d ≡ c
same_connection c d same = by (parts_of d) (sym same) (known_of d) where
  by : (q : Parts) → parts_of c ≡ q → (k : Known q.conversation q.wait q.closed) → with_known q k ≡ c
  by q e = subst (λ (q : Parts). (k : Known q.conversation q.wait q.closed) → with_known q k ≡ c) e
      (λ k. ap (with_known (parts_of c)) (known_one c.conversation c.wait c.closed k (known_of c)))

pub heard_history : (e f : Held) (bytes : List ℕ) → HasHistory e → ((s : State) → StandsFor e s → StandsFor f (after_receive s bytes)) → HasHistory f
heard_history e f bytes has next = ∥∥₁_map has (λ x. (after_receive x.0 bytes, next x.0 x.1))

pub same_history : (e f : Held) → e ≡ f → HasHistory f → HasHistory e
same_history e f same has = subst HasHistory (sym same) has

pub same_timed : (closed : Option Why) (w : Waiting) (e f : Held) → e ≡ f → (closed ≡ None → (s : State) → StandsFor f s → tick_answer s ≢ [] → is_again w.due ≡ true)
    → closed ≡ None → (s : State) → StandsFor e s → tick_answer s ≢ [] → is_again w.due ≡ true
same_timed closed w e f same timed none s stands some = timed none s (subst (λ (h : Held). StandsFor h s) same stands) some

-- what is always so is so where the rest of a conversation is as it was
pub still_timed : (t u : Conversation) (w : Waiting) (closed : Option Why) → KeepsRest t u
    → (closed ≡ None → (s : State) → StandsFor t.endpoint s → tick_answer s ≢ [] → is_again w.due ≡ true)
    → closed ≡ None → (s : State) → StandsFor u.endpoint s → tick_answer s ≢ [] → is_again w.due ≡ true
still_timed t u w closed rest = same_timed closed w u.endpoint t.endpoint rest.endpoint

pub still_fits : (t u : Conversation) (w : Waiting) (closed : Option Why) → KeepsRest t u → FitsClosed closed t w → FitsClosed closed u w
still_fits t u w closed rest fits = fits_same closed t u w fits rest.drains

pub still_stands : (t u : Conversation) → KeepsRest t u → HasHistory t.endpoint → HasHistory u.endpoint
still_stands t u rest has = same_history u.endpoint t.endpoint rest.endpoint has

pub ruleset rest_kept = (still_timed, still_fits, still_stands)

-- something was done at a connection, but that bytes came, and then what could move moved
pub step_by : (now : ℕ) (deed : Deed) (old new : Connection) (mid : Conversation) → KeepsRest old.conversation mid
    → ((s : State) → conversation_scene mid s ≡ done deed (conversation_scene old.conversation s)) → ((s : State) → owed_by deed old.owed old.wait s now ≡ old.owed)
    → ((s : State) → wait_after_deed deed old.wait s now ≡ old.wait)
    → GoesOnBy now mid new.conversation old.owed new.owed old.closed new.closed old.wait new.wait
    → May old.conversation deed → (StepsAt now old.wait new.wait → WaitsBy deed now old.wait new.wait) → new.told ≡ old.told → Step now deed old new
step_by now deed old new mid rest did owes waits_same goes may steps told = record {
  moved = goes.moved;
  may = may;
  steps = steps goes.steps;
  on = λ s stands.
      let first = goes.on s (subst (λ (e : Held). StandsFor e s) (sym rest.endpoint) stands) in
      subst (λ (x : ConversationScene). Moved now x goes.moved new.conversation (owed_by deed old.owed old.wait s now) new.owed old.closed new.closed (wait_after_deed deed old.wait s now) new.wait) (did s)
      (subst (λ (o : Owed). Moved now (conversation_scene mid s) goes.moved new.conversation o new.owed old.closed new.closed (wait_after_deed deed old.wait s now) new.wait) (sym (owes s))
      (subst (λ (w : Waiting). Moved now (conversation_scene mid s) goes.moved new.conversation old.owed new.owed old.closed new.closed w new.wait) (sym (waits_same s)) first));
  packets = goes.packets ∙ rest.packets;
  told = told;
  stays = goes.stays;
}

-- bytes came, and then what could move moved
pub heard_by : (now : ℕ) (bytes : List ℕ) (old new : Connection) (mid : Conversation) (o : Owed) (w : Waiting)
    → ((s : State) → StandsFor old.conversation.endpoint s → StandsFor mid.endpoint (after_receive s bytes)) → mid.side ≡ old.conversation.side
    → mid.closing ≡ old.conversation.closing
    → ((s : State) → StandsFor old.conversation.endpoint s → o ≡ owed_heard old.owed old.wait s bytes now)
    → ((s : State) → StandsFor old.conversation.endpoint s → w ≡ wait_heard old.wait s bytes now)
    → GoesOnBy now mid new.conversation o new.owed old.closed new.closed w new.wait
    → (StepsAt now w new.wait → HearsAt now old.wait new.wait) → mid.packets ≡ old.conversation.packets → new.told ≡ old.told
    → Step now (heard bytes) old new
heard_by now bytes old new mid o w stands_then side closing owes waits_then goes steps packets told = record {
  moved = goes.moved;
  may = tt;
  steps = steps goes.steps;
  on = λ s stands.
      let v = after_receive s bytes in
      let first = goes.on v (stands_then s stands) in
      let x : ConversationScene = record { side = old.conversation.side; closing = old.conversation.closing; state = v } in
      let here : IsAt mid x = record { stands = stands_then s stands; side = side; closing = closing } in
      subst (λ (y : ConversationScene). Moved now y goes.moved new.conversation (owed_heard old.owed old.wait s bytes now) new.owed old.closed new.closed (wait_heard old.wait s bytes now) new.wait) (scene_at here)
      (subst (λ (u : Owed). Moved now (conversation_scene mid v) goes.moved new.conversation u new.owed old.closed new.closed (wait_heard old.wait s bytes now) new.wait) (owes s stands)
      (subst (λ (u : Waiting). Moved now (conversation_scene mid v) goes.moved new.conversation o new.owed old.closed new.closed u new.wait) (waits_then s stands) first));
  packets = goes.packets ∙ packets;
  told = told;
  stays = goes.stays;
}

-- what a packet makes owed and waited for
owed_both : (foreign : Bool) (o m n : Owed) → (foreign ≡ true → m ≡ o) → (foreign ≡ false → m ≡ n) → m ≡ (if foreign then o else n)
owed_both true o m n same next = same refl
owed_both false o m n same next = next refl

abbrev owed_so : Owed → (word again : Bool) → Owed
owed_so o word again = record o { word = word; again = again }

pub owed_is_heard : (o m : Owed) (w : Waiting) (s : State) (b : List ℕ) (i : Input) (more : Progress) (left : Bool) (reply : Option ℕ) (now : ℕ) → i ≡ input_answer s b
    → more ≡ progress s (after_receive s b) → left ≡ nat_lt 0 (unacknowledged_count (after_receive s b))
    → reply ≡ reply_by (after_receive s b) b → (is_foreign i.dropped ≡ true → m ≡ o)
    → (is_foreign i.dropped ≡ false → m ≡ record o { word = o.word || i.owes_reply; again = o.again || again_for i.dropped more.acknowledged left reply w now })
    → m ≡ owed_heard o w s b now
owed_is_heard o m w s b i more left reply now is moves some says same next =
    let drops : is_foreign i.dropped ≡ is_foreign (input_answer s b).dropped = ap (λ (x : Input). is_foreign x.dropped) is in
    owed_both (is_foreign (input_answer s b).dropped) o m (owed_so o (o.word || (input_answer s b).owes_reply) (o.again || goes_again w s b now))
    (λ yes. same (drops ∙ yes))
    (λ z. next (drops ∙ z) ∙ ap (λ (x : Input). owed_so o (o.word || x.owes_reply) (o.again || again_for x.dropped more.acknowledged left reply w now)) is
    ∙ ap (λ (x : Progress). owed_so o (o.word || (input_answer s b).owes_reply) (o.again || again_for (input_answer s b).dropped x.acknowledged left reply w now)) moves
    ∙ ap (λ (x : Bool). owed_so o (o.word || (input_answer s b).owes_reply) (o.again || again_for (input_answer s b).dropped (progress s (after_receive s b)).acknowledged x reply w now)) some
    ∙ ap (λ (x : Option ℕ). owed_so o (o.word || (input_answer s b).owes_reply) (o.again || again_for (input_answer s b).dropped (progress s (after_receive s b)).acknowledged (nat_lt 0 (unacknowledged_count (after_receive s b))) x w now)) says)

wait_both : (foreign : Bool) (w v x : Waiting) → (foreign ≡ true → v ≡ w) → (foreign ≡ false → v ≡ x) → v ≡ (if foreign then w else x)
wait_both true w v x same after = same refl
wait_both false w v x same after = after refl

pub wait_is_heard : (w v : Waiting) (s : State) (b : List ℕ) (i : Input) (more : Progress) (left : Bool) (reply : Option ℕ) (now : ℕ) → i ≡ input_answer s b
    → more ≡ progress s (after_receive s b) → left ≡ nat_lt 0 (unacknowledged_count (after_receive s b))
    → reply ≡ reply_by (after_receive s b) b → (is_foreign i.dropped ≡ true → v ≡ w)
    → (is_foreign i.dropped ≡ false → v ≡ after_word w more reply (again_for i.dropped more.acknowledged left reply w now) now) → v ≡ wait_heard w s b now
wait_is_heard w v s b i more left reply now is moves some says same after =
    let drops : is_foreign i.dropped ≡ is_foreign (input_answer s b).dropped = ap (λ (x : Input). is_foreign x.dropped) is in
    wait_both (is_foreign (input_answer s b).dropped) w v (after_word w (progress s (after_receive s b)) (reply_by (after_receive s b) b) (goes_again w s b now) now)
    (λ yes. same (drops ∙ yes))
    (λ z. after (drops ∙ z) ∙ ap (λ (x : Input). after_word w more reply (again_for x.dropped more.acknowledged left reply w now) now) is
    ∙ ap (λ (x : Progress). after_word w x reply (again_for (input_answer s b).dropped x.acknowledged left reply w now) now) moves
    ∙ ap (λ (x : Bool). after_word w (progress s (after_receive s b)) reply (again_for (input_answer s b).dropped (progress s (after_receive s b)).acknowledged x reply w now) now) some
    ∙ ap (λ (x : Option ℕ). after_word w (progress s (after_receive s b)) x (again_for (input_answer s b).dropped (progress s (after_receive s b)).acknowledged (nat_lt 0 (unacknowledged_count (after_receive s b))) x w now) now) says)

-- ---- what is due

done_by : (p : Parts) (b : Act) (now : ℕ) → b ≢ GiveUp
    → (let q : Parts = record p { wait = after_by p.wait b now; owed = owed_after p.owed b } in q) ≡ acted_by p b now
done_by p Nothing now stay = refl
done_by p Again now stay = refl
done_by p Ask now stay = refl
done_by p GiveUp now stay = absurd (stay refl)
done_by p Forget now stay = refl

pub acts_by : (p : Parts) (a : Act) (w : Waiting) (o : Owed) (now : ℕ) → a ≡ act_at p.wait now → w ≡ after_act p.wait now → o ≡ owed_after p.owed a
    → a ≢ GiveUp → (let q : Parts = record p { wait = w; owed = o } in q) ≡ acted p now
acts_by p a w o now is after owes stay =
    ap (λ (x : Waiting). let q : Parts = record p { wait = x; owed = o } in q) after
    ∙ (ap (λ (x : Owed). let q : Parts = record p { wait = after_act p.wait now; owed = x } in q) (owes ∙ ap (λ (b : Act). owed_after p.owed b) is)
    ∙ done_by p (act_at p.wait now) now (λ z. stay (is ∙ z)))

-- ---- a message that is handed

pub calm_then : (c : Connection) (t : Conversation) (s : State) → c.owed.moving ≡ false → conversation_scene t s ≡ done took (conversation_scene c.conversation s)
    → is_calm (conversation_scene t s) ≡ true → is_calm_then c s ≡ true
calm_then c t s idle same calm = ap (λ (b : Bool). not b && is_calm (done took (conversation_scene c.conversation s))) idle ∙ ap is_calm (sym same) ∙ calm

-- ---- a packet

pub moved_steps : (b : Bool) (now : ℕ) (old mid : Connection) → MovesOwed b now old mid → StepsAt now old.wait mid.wait
moved_steps true now old mid step = step.steps
moved_steps false now old mid same = subst (λ (c : Connection). StepsAt now old.wait c.wait) (sym same) still
