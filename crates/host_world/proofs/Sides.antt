-- The side of a connection says which calls were made or handed, and which were answered; moving items keeps that.
use Rattle.std.proofs.Common.{◌≡◌, ◌∙◌, ap, refl, sym, subst, ℕ, ◌+◌, Bool, true, false, List, [], ◌∷◌, length, Option, Some, None, Result, Ok, Err}
use Rattle.std.specs.Prelude.{◌%◌, ◌&&◌, ◌||◌, ◌==◌, if◌then◌else◌, nat_lt, slice_get}
use Rattle.std.specs.Option.{is_some}
use Rattle.std.proofs.lemmas.Bool.{eqb-true}
use Rattle.courier_messages.specs.Conversation.{Phase}
use Rattle.courier_messages.specs.Phases.{run, said, ◌then◌}
use Rattle.courier_messages.specs.Called as called
use Rattle.courier_messages.specs.Refusal.{Stops}
use Rattle.courier_messages.specs.Text.{signs}
use Rattle.courier_messages.specs.declared.fault.SessionFault.{SessionFault}
use Rattle.courier_messages.specs.declared.fault.SessionFault.TheVariants as faults
use Rattle.courier_messages.specs.declared.message.Message.{Message}
use Rattle.courier_messages.specs.declared.message.Message.TheVariants as messages
use Rattle.courier_sessions.specs.Answering as answering
use Rattle.courier_sessions.specs.Answering.{Answering, is_busy, has_items, transaction_in, with_call}
use Rattle.courier_sessions.specs.Feeding.{feed_result, most_item}
use Rattle.courier_sessions.specs.Pumping as pumping
use Rattle.courier_sessions.specs.Pumping.{caller_side, server_side, moving, sending, feeding, feeds, Leads, here, on, Settles, RefusesNext}
use Rattle.courier_sessions.specs.Talk as talk
use Rattle.courier_sessions.specs.Talk.{Talk, reply_fault, wrong_unless, answered_unless}
use Rattle.courier_sessions.specs.declared.feed_refusal.FeedRefusal.{FeedRefusal}
use Rattle.courier_sessions.specs.declared.feed_refusal.FeedRefusal.TheVariants.{Stopped, Busy, TooLong, Attention, Fault, NoMemory}
use Rattle.xns_spp.specs.Sending.{after_send, after_take, send_fault, take_answer}
use Rattle.xns_spp.specs.State.{State}
use Rattle.xns_spp.specs.declared.item.Item.{Item}
use Rattle.xns_spp.specs.declared.send_fault.SendFault.{SendFault}
use Rattle.xns_connection.specs.Moving.{Pumps, Rejects, rejects, Rounds, once, again, Converses, calms, starves, refuses, refuses_on}
use Rattle.xns_connection.specs.declared.side.Side.{Side}
use Rattle.xns_connection.specs.declared.side.Side.TheVariants.{Calls, Answers}

-- the last call is not answered, and has this number
pub record Opens (calls answers : List Message) (number : ℕ) : Type 0 where
  pub call : Message
  pub there : slice_get calls (length answers) ≡ Some call
  pub last : length calls ≡ length answers + 1
  pub is : transaction_in call ≡ number

-- a caller that made these calls, of which these answers were handed
pub record HasCalls (calls answers : List Message) (t : Talk) : Type 0 where
  pub number : t.transaction ≡ length calls % 65536
  pub waits : t.waiting ≡ true → Opens calls answers t.transaction
  pub has : (m : Message) → t.outcome ≡ Some m → Opens calls answers t.transaction × (transaction_in m ≡ t.transaction) × (t.waiting ≡ false)
  pub even : t.waiting ≡ false → t.outcome ≡ None → length calls ≡ length answers

-- to these calls, which were handed, these answers were given
pub record HasAnswers (calls answers : List Message) (a : Answering) : Type 0 where
  pub asked : (k : ℕ) → a.asked ≡ Some k → Opens calls answers k
  pub even : a.asked ≡ None → length calls ≡ length answers
  pub single : (m : Message) → a.call ≡ Some m → a.asked ≡ None

abbrev pub Has : (ours : Bool) (calls answers : List Message) → Side → Type 0
Has true cs rs (Calls t) = HasCalls cs rs t
Has true cs rs (Answers a) = ⊥
Has false cs rs (Calls t) = ⊥
Has false cs rs (Answers a) = HasAnswers cs rs a

-- ---- what a pump keeps

-- a property of a side that each thing keeps that a pump does
record Kept {S : Type 0} (side : pumping.Side S) (P : S → Type 0) : Type 0 where
  out : (s : S) (xs : List Item) → P s → P (side.with_out s xs)
  fed : (s n : S) (x : Item) → side.fed s x ≡ Ok n → P s → P n
  stops : (s n : S) → side.stops s n → P s → P n

sent_keeps : {S : Type 0} (P : S → Type 0) (n : S) (v : State) (o : Option SendFault) (z : S × State) → sending o n v ≡ Some (Ok z) → P n → P z.0
sent_keeps {S} P n v None z e h = let same : (n, v) ≡ z = cc in subst (λ (y : S × State). P y.0) same h
sent_keeps P n v (Some f) z e h = absurd (cc)

feeding_keeps : {S : Type 0} (P : S → Type 0) (r : Result S FeedRefusal) (v : State) (z : S × State) → feeding r v ≡ Some (Ok z) → ((n : S) → r ≡ Ok n → P n) → P z.0
feeding_keeps {S} P (Ok n) v z e h = let same : (n, v) ≡ z = cc in subst (λ (y : S × State). P y.0) same (h n refl)
feeding_keeps P (Err Stopped) v z e h = absurd (cc)
feeding_keeps P (Err Busy) v z e h = absurd (cc)
feeding_keeps P (Err TooLong) v z e h = absurd (cc)
feeding_keeps P (Err Attention) v z e h = absurd (cc)
feeding_keeps P (Err (Fault f)) v z e h = absurd (cc)
feeding_keeps P (Err NoMemory) v z e h = absurd (cc)

feeds_keeps : {S : Type 0} (side : pumping.Side S) (P : S → Type 0) → Kept side P → (t : S) (v : State) (o : Option Item) (z : S × State) → feeds side t v o ≡ Some (Ok z) → P t → P z.0
feeds_keeps side P k t v None z e h = absurd (cc)
feeds_keeps side P k t v (Some x) z e h = feeding_keeps P (side.fed t x) (after_take v) z e (λ n is. k.fed t n x is h)

moving_keeps : {S : Type 0} (side : pumping.Side S) (P : S → Type 0) → Kept side P → (t : S) (v : State) (now : List Item) (z : S × State) → moving side t v now ≡ Some (Ok z) → P t → P z.0
moving_keeps side P k t v [] z e h = feeds_keeps side P k t v (take_answer v) z e h
moving_keeps side P k t v (x ∷ xs) z e h = sent_keeps P (side.with_out t xs) (after_send v x) (send_fault v x) z e (k.out t xs h)

leads_keep : {S : Type 0} (side : pumping.Side S) (P : S → Type 0) → Kept side P → {x y : S × State} → Leads side x y → P x.0 → P y.0
leads_keep side P k here h = h
leads_keep side P k (on {y = y} {z = z} l e) h = moving_keeps side P k y.0 y.1 (side.out y.0) z e (leads_keep side P k l h)

fault_keeps : {S : Type 0} (side : pumping.Side S) (P : S → Type 0) → Kept side P → (t n : S) (f : SessionFault) (Q : Type 0) → Stops f ⊥ (side.stops t n × Q) → P t → P n
fault_keeps side P k t n faults.NoMemory Q s h = absurd s
fault_keeps side P k t n faults.NoCommonVersion Q s h = k.stops t n s.0 h
fault_keeps side P k t n faults.BadVersions Q s h = k.stops t n s.0 h
fault_keeps side P k t n (faults.BadMessage e) Q s h = k.stops t n s.0 h
fault_keeps side P k t n faults.WrongTransaction Q s h = k.stops t n s.0 h
fault_keeps side P k t n faults.BadReply Q s h = k.stops t n s.0 h
fault_keeps side P k t n (faults.Stream kind) Q s h = k.stops t n s.0 h
fault_keeps side P k t n faults.Failed Q s h = absurd s

refused_keeps : {S : Type 0} (side : pumping.Side S) (P : S → Type 0) → Kept side P → (t : S) (o : Option Item) (e : FeedRefusal) (n : S) → RefusesNext side t o e n → P t → P n
refused_keeps side P k t None e n r h = absurd r
refused_keeps side P k t (Some x) Busy n r h = absurd r
refused_keeps side P k t (Some x) NoMemory n r h = subst P (sym r.0) h
refused_keeps side P k t (Some x) Stopped n r h = subst P (sym r.0) h
refused_keeps side P k t (Some x) TooLong n r h = subst P (sym r.0) h
refused_keeps side P k t (Some x) Attention n r h = k.stops t n r.0 h
refused_keeps side P k t (Some x) (Fault f) n r h = fault_keeps side P k t n f (side.fed t x ≡ Err (Fault f)) r h

settles_keep : {S : Type 0} (side : pumping.Side S) (P : S → Type 0) → Kept side P → (last : S × State) (r : Result (Unit {0}) FeedRefusal) (n : S) → Settles side last r n → P last.0 → P n
settles_keep side P k last (Ok u) n s h = subst P (sym s.0) h
settles_keep side P k last (Err e) n s h = refused_keeps side P k last.0 (take_answer last.1) e n s.1 h

-- ---- an item that is fed

heard_ok : {S : Type 0} (r : Result S SessionFault) (n : S) → feed_result r ≡ Ok n → r ≡ Ok n
heard_ok (Ok t) n e = let same : t ≡ n = cc in ap Ok same
heard_ok (Err f) n e = absurd (cc)

then_ok : {A B : Type 0} (q : Result A SessionFault) (f : A → Result B SessionFault) (n : B) → (q then f) ≡ Ok n → (p : A) × (f p ≡ Ok n)
then_ok (Ok p) f n e = (p, e)
then_ok (Err g) f n e = absurd (cc)

talk_fed : (a b c : Bool) (r : Result Talk SessionFault) (n : Talk)
    → (if a then Err Stopped else if b then Err Attention else if c then Err TooLong else feed_result r) ≡ Ok n → r ≡ Ok n
talk_fed true b c r n e = absurd (cc)
talk_fed false true c r n e = absurd (cc)
talk_fed false false true r n e = absurd (cc)
talk_fed false false false r n e = heard_ok r n e

right_unless : (b : Bool) → wrong_unless b ≡ None → b ≡ true
right_unless true e = refl
right_unless false e = absurd (cc)

is_reply : (w : Bool) (k j : ℕ) → (w && (k == j)) ≡ true → (k ≡ j) × (w ≡ true)
is_reply true k j e = (eqb-true k j e, refl)
is_reply false k j e = absurd (cc)

reply : (w : Bool) (k : ℕ) (m : Message) → reply_fault w k m ≡ None → (transaction_in m ≡ k) × (w ≡ true)
reply w k (messages.Call transaction program version procedure words) e = absurd (cc)
reply w k (messages.Reject transaction reason words) e = is_reply w transaction k (right_unless (w && (transaction == k)) e)
reply w k (messages.Return transaction words) e = is_reply w transaction k (right_unless (w && (transaction == k)) e)
reply w k (messages.Abort transaction fault words) e = is_reply w transaction k (right_unless (w && (transaction == k)) e)

-- where the side has calls, it still has when an answer to the last of them came
with_answer : (cs rs : List Message) (t : Talk) (p : Phase) (m : Message) (o : Option SessionFault) (n : Talk) → reply_fault t.waiting t.transaction m ≡ o
    → answered_unless o (record t { phase = p }) m ≡ Ok n → HasCalls cs rs t → HasCalls cs rs n
with_answer cs rs t p m (Some f) n is e h = absurd (cc)
with_answer cs rs t p m None n is e h =
    let same : record t { phase = p; waiting = false; outcome = Some m } ≡ n = cc in
    let r = reply t.waiting t.transaction m is in
    subst (HasCalls cs rs) same (record {
      number = h.number;
      waits = λ z. absurd (cc);
      has = λ k z. (h.waits r.1, (let one : m ≡ k = cc in ap transaction_in (sym one) ∙ r.0), refl);
      even = λ y z. absurd (cc);
    })

with_messages : (cs rs : List Message) (t : Talk) (p : Phase) (ms : List Message) (n : Talk) → talk.with_ended_messages (record t { phase = p }) ms ≡ Ok n → HasCalls cs rs t → HasCalls cs rs n
with_messages cs rs t p [] n e h =
    let same : record t { phase = p } ≡ n = cc in
    subst (HasCalls cs rs) same (record { number = h.number; waits = h.waits; has = h.has; even = h.even })
with_messages cs rs t p (m ∷ ms) n e h = with_answer cs rs t p m (reply_fault t.waiting t.transaction m) n refl e h

talk_kept : (cs rs : List Message) → Kept caller_side (HasCalls cs rs)
talk_kept cs rs = record {
  out = λ t xs h. record { number = h.number; waits = h.waits; has = h.has; even = h.even };
  fed = λ t n x e h.
      let ok = talk_fed t.failed x.attention (nat_lt most_item (length x.body)) (talk.after_item t x) n e in
      let p = then_ok (run t.phase (signs x)) (λ p. talk.with_ended_messages (record t { phase = p }) (said t.phase (signs x))) n ok in
      with_messages cs rs t p.0 (said t.phase (signs x)) n p.1 h;
  stops = λ t n is h. subst (HasCalls cs rs) (sym is) (record { number = h.number; waits = h.waits; has = h.has; even = h.even });
}

-- ---- the side that is called

server_fed : (a b c d : Bool) (r : Result Answering SessionFault) (n : Answering)
    → (if a then Err Stopped else if b then Err Busy else if c then Err Attention else if d then Err TooLong else feed_result r) ≡ Ok n
    → (r ≡ Ok n) × (b ≡ false)
server_fed true b c d r n e = absurd (cc)
server_fed false true c d r n e = absurd (cc)
server_fed false false true d r n e = absurd (cc)
server_fed false false false true r n e = absurd (cc)
server_fed false false false false r n e = (heard_ok r n e, refl)

not_asked : (o : Option Message) (k : Option ℕ) (xs : List Item) → (is_some o || is_some k || has_items xs) ≡ false → k ≡ None
not_asked o None xs e = refl
not_asked None (Some k) xs e = absurd (cc)
not_asked (Some m) (Some k) xs e = absurd (cc)

with_calls : (cs rs : List Message) (a : Answering) (p : Phase) (ms : List Message) → a.asked ≡ None → HasAnswers cs rs a → HasAnswers cs rs (with_call (record a { phase = p }) ms)
with_calls cs rs a p [] none h = record { asked = h.asked; even = h.even; single = h.single }
with_calls cs rs a p (m ∷ ms) none h = record { asked = h.asked; even = h.even; single = λ k z. none }

server_kept : (cs rs : List Message) → Kept server_side (HasAnswers cs rs)
server_kept cs rs = record {
  out = λ a xs h. record { asked = h.asked; even = h.even; single = h.single };
  fed = λ a n x e h.
      let ok = server_fed a.failed (is_busy a) x.attention (nat_lt most_item (length x.body)) (answering.after_item a x) n e in
      let ms = said a.phase (signs x) in
      let p = then_ok (called.called_ending ms (run a.phase (signs x))) (λ p. let r : Result Answering SessionFault = Ok (with_call (record a { phase = p }) ms) in r) n ok.0 in
      let same : with_call (record a { phase = p.0 }) ms ≡ n = (let is = p.1 in cc) in
      subst (HasAnswers cs rs) same (with_calls cs rs a p.0 ms (not_asked a.call a.asked a.out ok.1) h);
  stops = λ a n is h. subst (HasAnswers cs rs) (sym is) (record { asked = h.asked; even = h.even; single = h.single });
}

-- ---- items move

pumps_keep : (ours : Bool) (cs rs : List Message) (side : Side) (s : State) (r : Result (Unit {0}) FeedRefusal) (next : Side) (v : State) → Pumps side s r next v
    → Has ours cs rs side → Has ours cs rs next
pumps_keep ours cs rs (Calls t) s r (Answers b) v p h = absurd p
pumps_keep ours cs rs (Answers a) s r (Calls u) v p h = absurd p
pumps_keep true cs rs (Calls t) s r (Calls u) v p h =
    let k = talk_kept cs rs in
    settles_keep caller_side (HasCalls cs rs) k (p.last, v) r u p.settled (leads_keep caller_side (HasCalls cs rs) k p.leads h)
pumps_keep false cs rs (Calls t) s r (Calls u) v p h = absurd h
pumps_keep true cs rs (Answers a) s r (Answers b) v p h = absurd h
pumps_keep false cs rs (Answers a) s r (Answers b) v p h =
    let k = server_kept cs rs in
    settles_keep server_side (HasAnswers cs rs) k (p.last, v) r b p.settled (leads_keep server_side (HasAnswers cs rs) k p.leads h)

rejects_keep : (ours : Bool) (cs rs : List Message) {side next : Side} → Rejects side next → Has ours cs rs side → Has ours cs rs next
rejects_keep true cs rs (rejects a m u is why) h = absurd h
rejects_keep false cs rs (rejects a m u is why) h = record { asked = h.asked; even = h.even; single = λ k z. absurd (cc) }

rounds_keep : (ours : Bool) (cs rs : List Message) {side : Side} {s : State} {next : Side} {v : State} → Rounds side s next v → Has ours cs rs side → Has ours cs rs next
rounds_keep ours cs rs {side = side} {s = s} {next = next} {v = v} (once p) h = pumps_keep ours cs rs side s (Ok tt) next v p h
rounds_keep ours cs rs (again {free = other} {next = next} {v = v} {w = w} r still rejected p) h =
    pumps_keep ours cs rs other v (Ok tt) next w p (rejects_keep ours cs rs rejected (rounds_keep ours cs rs r h))

pub converses_keep : (ours : Bool) (cs rs : List Message) {side : Side} {s : State} {r : Result (Unit {0}) FeedRefusal} {next : Side} {v : State} → Converses side s r next v
    → Has ours cs rs side → Has ours cs rs next
converses_keep ours cs rs (calms rounds listed) h = rounds_keep ours cs rs rounds h
converses_keep ours cs rs (starves rounds unlisted) h = rounds_keep ours cs rs rounds h
converses_keep ours cs rs {side = side} {s = s} {next = next} {v = v} (refuses e p) h = pumps_keep ours cs rs side s (Err e) next v p h
converses_keep ours cs rs (refuses_on {free = other} {next = next} {v = v} {w = w} e rounds still rejected p) h =
    pumps_keep ours cs rs other v (Err e) next w p (rejects_keep ours cs rs rejected (rounds_keep ours cs rs rounds h))
