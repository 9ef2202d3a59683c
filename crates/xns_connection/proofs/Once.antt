-- Where memory is not refused, what can move moves to one end only.
use Rattle.std.proofs.Common.{◌≡◌, ◌≢◌, ◌⊎◌, ◌∙◌, inl, inr, ap, refl, sym, subst, List, false, Option, Some, None, Result, Ok, Err}
use Rattle.courier_messages.specs.declared.message.Message.{Message}
use Rattle.courier_sessions.specs.Answering.{Answering, after_reject, why_unlisted}
use Rattle.courier_sessions.specs.Pumping.{Side as PumpSide, Leads, here, on, one_step, StepResult, moving, feeds, feeding, caller_side, server_side, Settles, RefusesNext}
use Rattle.courier_sessions.specs.declared.feed_refusal.FeedRefusal.{FeedRefusal}
use Rattle.courier_sessions.specs.declared.feed_refusal.FeedRefusal.TheVariants.{Stopped, Busy, TooLong, Attention, Fault, NoMemory}
use Rattle.courier_sessions.specs.declared.unlisted.Unlisted.{Unlisted}
use Rattle.xns_spp.specs.Sending.{after_take, take_answer}
use Rattle.xns_spp.specs.State.{State}
use Rattle.xns_spp.specs.declared.item.Item.{Item}
use Rattle.xns_connection.specs.Moving.{Led, Pumps, Rejects, rejects, Rounds, once, again, Converses, calms, starves, refuses, refuses_on, Moves, drains_only, converses, ConversationScene}
use Rattle.xns_connection.specs.Story.{IsListed, is_stopped}
use Rattle.xns_connection.specs.declared.side.Side.{Side}
use Rattle.xns_connection.specs.declared.side.Side.TheVariants.{Calls, Answers}
use Rattle.xns_connection.proofs.Leading.{stopped_by}

-- ---- steps of which there is one at most

-- one thing leads to another by a number of steps
data Steps {X : Type 0} (R : X → X → Type 0) (x : X) : X → Type 0 where
  none : Steps R x x
  more : {y z : X} → Steps R x y → R y z → Steps R x z

abbrev IsOne : {X : Type 0} → (X → X → Type 0) → Type 0
IsOne {X} R = (x y z : X) → R x y → R x z → y ≡ z

-- no step leads on from x
abbrev Ends : {X : Type 0} → (X → X → Type 0) → X → Type 0
Ends {X} R x = (y : X) → R x y → ⊥

module _ {X : Type 0} (R : X → X → Type 0) (one : IsOne R) where
  -- no step, or a first one
  record HasFirst (x y : X) : Type 0 where
    next : X
    step : R x next
    steps : Steps R next y

  first : {x y : X} → Steps R x y → (x ≡ y) ⊎ HasFirst x y
  first none = inl refl
  first {x} (more {y = y} {z = z} p e) = by (first p) where
    by : (x ≡ y) ⊎ HasFirst x y → (x ≡ z) ⊎ HasFirst x z
    by (inl same) = inr (record { next = z; step = subst (λ (w : X). R w z) (sym same) e; steps = none })
    by (inr f) = inr (record { next = f.next; step = f.step; steps = more f.steps e })

  -- of two runs one goes on where the other stops
  both : {x y z : X} → Steps R x y → Steps R x z → (Steps R y z) ⊎ (Steps R z y)
  both p none = inr p
  both {x} {y} p (more {y = w} {z = z} q e) = by (both p q) where
    on_from : (w ≡ y) ⊎ HasFirst w y → (Steps R y z) ⊎ (Steps R z y)
    on_from (inl same) = inl (more none (subst (λ (v : X). R v z) same e))
    on_from (inr f) = inr (subst (λ (v : X). Steps R v y) (one w f.next z f.step e) f.steps)

    by : (Steps R y w) ⊎ (Steps R w y) → (Steps R y z) ⊎ (Steps R z y)
    by (inl r) = inl (more r e)
    by (inr r) = on_from (first r)

  stuck : {x y : X} → Ends R x → Steps R x y → x ≡ y
  stuck {x} {y} end p = by (first p) where
    by : (x ≡ y) ⊎ HasFirst x y → x ≡ y
    by (inl same) = same
    by (inr f) = absurd (end f.next f.step)

  -- where both have ended they are at one place
  one_end : {x y z : X} → Ends R y → Ends R z → Steps R x y → Steps R x z → y ≡ z
  one_end {x} {y} {z} a b p q = by (both p q) where
    by : (Steps R y z) ⊎ (Steps R z y) → y ≡ z
    by (inl r) = stuck a r
    by (inr r) = sym (stuck b r)

-- memory was not refused
abbrev Well : Result (Unit {0}) FeedRefusal → Type 0
Well r = r ≢ Err NoMemory

-- ---- a pump

abbrev Leading : {S : Type 0} → PumpSide S → S × State → S × State → Type 0
Leading side x y = one_step side x ≡ Some (Ok y)

leading_one : {S : Type 0} (side : PumpSide S) → IsOne (Leading side)
leading_one side x y z p q = cc

lead_steps : {S : Type 0} (side : PumpSide S) {x y : S × State} → Leads side x y → Steps (Leading side) x y
lead_steps side here = none
lead_steps side (on l e) = more (lead_steps side l) e

-- what the last step comes to
abbrev stop_of : {S : Type 0} → Result (Unit {0}) FeedRefusal → StepResult S
stop_of (Ok u) = None
stop_of (Err e) = Some (Err e)

refusing : {S : Type 0} (side : PumpSide S) (t : S) (v : State) (o : Option Item) (e : FeedRefusal) (n : S) → RefusesNext side t o e n → e ≢ NoMemory
    → feeds side t v o ≡ Some (Err e)
refusing side t v None e n r some = absurd r
refusing side t v (Some x) Busy n r some = absurd r
refusing side t v (Some x) NoMemory n r some = absurd (some refl)
refusing {S} side t v (Some x) Stopped n r some = ap (λ (z : Result S FeedRefusal). feeding z (after_take v)) r.1
refusing {S} side t v (Some x) TooLong n r some = ap (λ (z : Result S FeedRefusal). feeding z (after_take v)) r.1
refusing {S} side t v (Some x) Attention n r some = ap (λ (z : Result S FeedRefusal). feeding z (after_take v)) r.1
refusing {S} side t v (Some x) (Fault f) n r some =
    stopped_by (feeding (side.fed t x) (after_take v) ≡ Some (Err (Fault f))) (side.stops t n × (side.fed t x ≡ Err (Fault f))) f r
    (λ z. ap (λ (w : Result S FeedRefusal). feeding w (after_take v)) z.1)

stopping : {S : Type 0} (side : PumpSide S) (last : S × State) (r : Result (Unit {0}) FeedRefusal) (n : S) → Settles side last r n
    → r ≢ Err NoMemory → one_step side last ≡ stop_of r
stopping side last (Ok u) n s some = s.1
stopping side last (Err e) n s some =
    ap (λ (xs : List Item). moving side last.0 last.1 xs) s.0
    ∙ refusing side last.0 last.1 (take_answer last.1) e n s.1 (λ is. some (ap (λ (x : FeedRefusal). Err x) is))

stop_ends : {S : Type 0} (side : PumpSide S) (x : S × State) (r : Result (Unit {0}) FeedRefusal) → one_step side x ≡ stop_of r → Ends (Leading side) x
stop_ends side x (Ok u) is y e = cc
stop_ends side x (Err f) is y e = cc

same_stop : {S : Type 0} (r q : Result (Unit {0}) FeedRefusal) → stop_of {S = S} r ≡ stop_of {S = S} q → r ≡ q
same_stop (Ok u) (Ok v) e = refl
same_stop (Ok u) (Err f) e = absurd (cc)
same_stop (Err f) (Ok u) e = absurd (cc)
same_stop (Err f) (Err g) e = let same : f ≡ g = cc in ap (λ (x : FeedRefusal). Err x) same

-- a fault leaves a side in one way
abbrev StopsOnce : {S : Type 0} → PumpSide S → Type 0
StopsOnce {S} side = (t n m : S) → side.stops t n → side.stops t m → n ≡ m

same_refused : {S : Type 0} (side : PumpSide S) → StopsOnce side → (t : S) (o : Option Item) (e : FeedRefusal) (n m : S) → RefusesNext side t o e n
    → RefusesNext side t o e m → n ≡ m
same_refused side alone t None e n m p q = absurd p
same_refused side alone t (Some x) Busy n m p q = absurd p
same_refused side alone t (Some x) NoMemory n m p q = p.0 ∙ sym q.0
same_refused side alone t (Some x) Stopped n m p q = p.0 ∙ sym q.0
same_refused side alone t (Some x) TooLong n m p q = p.0 ∙ sym q.0
same_refused side alone t (Some x) Attention n m p q = alone t n m p.0 q.0
same_refused side alone t (Some x) (Fault f) n m p q =
    stopped_by (n ≡ m) (side.stops t n × (side.fed t x ≡ Err (Fault f))) f p
    (λ a. stopped_by (n ≡ m) (side.stops t m × (side.fed t x ≡ Err (Fault f))) f q (λ b. alone t n m a.0 b.0))

same_settled : {S : Type 0} (side : PumpSide S) → StopsOnce side → (last : S × State) (r : Result (Unit {0}) FeedRefusal) (n m : S)
    → Settles side last r n → Settles side last r m → n ≡ m
same_settled side alone last (Ok u) n m p q = p.0 ∙ sym q.0
same_settled side alone last (Err e) n m p q = same_refused side alone last.0 (take_answer last.1) e n m p.1 q.1

-- what came of moving, the side and the history of its end are the same
record IsSame (r q : Result (Unit {0}) FeedRefusal) (n m : Side) (v w : State) : Type 0 where
  result : r ≡ q
  side : n ≡ m
  state : v ≡ w

led_once : {S : Type 0} (kind : PumpSide S) (alone : StopsOnce kind) (make : S → Side) {first : S × State} {r q : Result (Unit {0}) FeedRefusal} {n m : S}
    {v w : State} → Led kind first r n v → Led kind first q m w → r ≢ Err NoMemory → q ≢ Err NoMemory → IsSame r q (make n) (make m) v w
led_once {S} kind alone make {first} {r} {q} {n} {m} {v} {w} a b some other =
    let x : S × State = (a.last, v) in
    let y : S × State = (b.last, w) in
    let p = stopping kind x r n a.settled some in
    let k = stopping kind y q m b.settled other in
    let same : x ≡ y = one_end (Leading kind) (leading_one kind) (stop_ends kind x r p) (stop_ends kind y q k) (lead_steps kind a.leads) (lead_steps kind b.leads) in
    let result : r ≡ q = same_stop r q (sym p ∙ ap (λ (z : S × State). one_step kind z) same ∙ k) in
    let there : Settles kind x r m = subst (λ (z : S × State). Settles kind z r m) (sym same) (subst (λ (z : Result (Unit {0}) FeedRefusal). Settles kind y z m) (sym result) b.settled) in
    record { result = result; side = ap make (same_settled kind alone x r n m a.settled there); state = ap (λ (z : S × State). z.1) same }

pumps_once : (side n m : Side) (s v w : State) (r q : Result (Unit {0}) FeedRefusal) → Pumps side s r n v → Pumps side s q m w → r ≢ Err NoMemory
    → q ≢ Err NoMemory → IsSame r q n m v w
pumps_once (Calls t) (Calls n) (Calls m) s v w r q a b some other = led_once caller_side (λ t n m x y. x ∙ sym y) (λ t. Calls t) a b some other
pumps_once (Calls t) (Calls n) (Answers m) s v w r q a b some other = absurd b
pumps_once (Calls t) (Answers n) m s v w r q a b some other = absurd a
pumps_once (Answers t) (Answers n) (Answers m) s v w r q a b some other = led_once server_side (λ t n m x y. x ∙ sym y) (λ t. Answers t) a b some other
pumps_once (Answers t) (Answers n) (Calls m) s v w r q a b some other = absurd b
pumps_once (Answers t) (Calls n) m s v w r q a b some other = absurd a

-- ---- rounds

-- the call that waits was rejected, and then items moved
record IsRound (x y : Side × State) : Type 0 where
  free : Side
  still : is_stopped x.0 ≡ false
  rejected : Rejects x.0 free
  pumped : Pumps free x.1 (Ok tt) y.0 y.1

same_call : (a : Answering) (m k : Message) → a.call ≡ Some m → a.call ≡ Some k → m ≡ k
same_call a m k p q = cc

same_reason : (o : Option Unlisted) (u v : Unlisted) → o ≡ Some u → o ≡ Some v → u ≡ v
same_reason o u v p q = cc

-- which one that is
record IsReject (a : Answering) (n : Side) : Type 0 where
  message : Message
  reason : Unlisted
  call : a.call ≡ Some message
  why : why_unlisted a.programs message ≡ Some reason
  is : n ≡ Answers (after_reject a message reason)

reject_of : (a : Answering) (side n : Side) → side ≡ Answers a → Rejects side n → IsReject a n
reject_of a side n same (rejects b m u call why) =
    let e : b ≡ a = cc in
    subst (λ (x : Answering). IsReject x (Answers (after_reject b m u))) e (record { message = m; reason = u; call = call; why = why; is = refl })

rejects_once : (side n m : Side) → Rejects side n → Rejects side m → n ≡ m
rejects_once side n m (rejects a k u call why) other =
    let q = reject_of a (Answers a) m refl other in
    let same = same_call a k q.message call q.call in
    let is = same_reason (why_unlisted a.programs q.message) u q.reason (subst (λ (x : Message). why_unlisted a.programs x ≡ Some u) same why) q.why in
    ap (λ (x : Message). Answers (after_reject a x u)) same ∙ ap (λ (x : Unlisted). Answers (after_reject a q.message x)) is ∙ sym q.is

fine : Well (Ok tt)
fine = λ z. cc

round_one : IsOne IsRound
round_one x y z p q =
    let free = rejects_once x.0 p.free q.free p.rejected q.rejected in
    let k = pumps_once q.free y.0 z.0 x.1 y.1 z.1 (Ok tt) (Ok tt) (subst (λ (f : Side). Pumps f x.1 (Ok tt) y.0 y.1) free p.pumped) q.pumped fine fine in
    ap (λ (n : Side). (n, y.1)) k.side ∙ ap (λ (v : State). (z.0, v)) k.state

-- the first pump, and the rounds after it
record HasRounds (side : Side) (s : State) (y : Side × State) : Type 0 where
  start : Side × State
  pumped : Pumps side s (Ok tt) start.0 start.1
  steps : Steps IsRound start y

has_rounds : {side : Side} {s : State} {n : Side} {v : State} → Rounds side s n v → HasRounds side s (n, v)
has_rounds {side} {s} {n} {v} (once p) = record { start = (n, v); pumped = p; steps = none }
has_rounds (again {mid = mid} {free = free} {next = next} {v = v} {w = w} r still rejected p) =
    let x = has_rounds r in
    record { start = x.start; pumped = x.pumped; steps = more x.steps (record { free = free; still = still; rejected = rejected; pumped = p }) }

abbrev place : Side → State → Side × State
place n v = (n, v)

-- two that have ended are at one place
rounds_once : {side n m : Side} {s v w : State} → Rounds side s n v → Rounds side s m w → Ends IsRound (n, v) → Ends IsRound (m, w) → place n v ≡ place m w
rounds_once {side} {n} {m} {s} {v} {w} a b end other =
    let x = has_rounds a in
    let y = has_rounds b in
    let k = pumps_once side x.start.0 y.start.0 s x.start.1 y.start.1 (Ok tt) (Ok tt) x.pumped y.pumped fine fine in
    let same : x.start ≡ y.start = ap (λ (z : Side). (z, x.start.1)) k.side ∙ ap (λ (z : State). (y.start.0, z)) k.state in
    one_end IsRound round_one end other (subst (λ (z : Side × State). Steps IsRound z (n, v)) same x.steps) y.steps

unlisted_stops : (side free : Side) → Rejects side free → IsListed side → ⊥
unlisted_stops side free (rejects a m u call why) listed = let z = listed m call in cc

calm_ends : (n : Side) (v : State) → (is_stopped n ≡ false → IsListed n) → Ends IsRound (n, v)
calm_ends n v listed y p = unlisted_stops n p.free p.rejected (listed p.still)

refused_ends : (n free m : Side) (v w : State) (e : FeedRefusal) → Rejects n free → Pumps free v (Err e) m w → Well (Err e) → Ends IsRound (n, v)
refused_ends n free m v w e rejected p some y q =
    let same = rejects_once n free q.free rejected q.rejected in
    let k = pumps_once q.free m y.0 v w y.1 (Err e) (Ok tt) (subst (λ (f : Side). Pumps f v (Err e) m w) same p) q.pumped some fine in
    let z = k.result in cc

-- ---- all of it

-- where a run of rounds stopped
data Last (side : Side) (s : State) : Result (Unit {0}) FeedRefusal → Side → State → Type 0 where
  at_once : {n : Side} {v : State} (e : FeedRefusal) → Pumps side s (Err e) n v → Last side s (Err e) n v
  then_calm : {n : Side} {v : State} → Rounds side s n v → (is_stopped n ≡ false → IsListed n) → Last side s (Ok tt) n v
  then_refused : {mid free n : Side} {v w : State} (e : FeedRefusal) → Rounds side s mid v → is_stopped mid ≡ false → Rejects mid free
      → Pumps free v (Err e) n w → Last side s (Err e) n w

before_last : (side : Side) (s : State) (r : Result (Unit {0}) FeedRefusal) (n : Side) (v : State) → Converses side s r n v → r ≢ Err NoMemory → Last side s r n v
before_last side s r n v (calms rounds listed) some = then_calm rounds listed
before_last side s r n v (starves rounds unlisted) some = absurd (some refl)
before_last side s r n v (refuses e p) some = at_once e p
before_last side s r n v (refuses_on e rounds still rejected p) some = then_refused e rounds still rejected p

first_pump : (side : Side) (s : State) (e : FeedRefusal) (n m : Side) (v w : State) → Pumps side s (Err e) n v → Well (Err e) → Rounds side s m w → ⊥
first_pump side s e n m v w p some rounds =
    let x = has_rounds rounds in
    let k = pumps_once side n x.start.0 s v x.start.1 (Err e) (Ok tt) p x.pumped some fine in
    let z = k.result in
    cc

same_place : {n m : Side} {v w : State} → place n v ≡ place m w → IsSame (Ok tt) (Ok tt) n m v w
same_place same = record { result = refl; side = ap (λ (x : Side × State). x.0) same; state = ap (λ (x : Side × State). x.1) same }

lasts_once : (side : Side) (s : State) (r q : Result (Unit {0}) FeedRefusal) (n m : Side) (v w : State) → Last side s r n v → Last side s q m w
    → r ≢ Err NoMemory → q ≢ Err NoMemory → IsSame r q n m v w
lasts_once side s r q n m v w (at_once e p) (at_once f k) some other = pumps_once side n m s v w (Err e) (Err f) p k some other
lasts_once side s r q n m v w (at_once e p) (then_calm rounds listed) some other = absurd (first_pump side s e n m v w p some rounds)
lasts_once side s r q n m v w (at_once e p) (then_refused {mid = mid} {v = u} f rounds still rejected k) some other = absurd (first_pump side s e n mid v u p some rounds)
lasts_once side s r q n m v w (then_calm rounds listed) (at_once f k) some other = absurd (first_pump side s f m n w v k other rounds)
lasts_once side s r q n m v w (then_calm a listed) (then_calm b too) some other = same_place (rounds_once a b (calm_ends n v listed) (calm_ends m w too))
lasts_once side s r q n m v w (then_calm a listed) (then_refused {mid = mid} {free = free} {v = u} f b still rejected k) some other =
    let same = rounds_once a b (calm_ends n v listed) (refused_ends mid free m u w f rejected k other) in
    let is : n ≡ mid = ap (λ (x : Side × State). x.0) same in
    absurd (unlisted_stops mid free rejected (subst (λ (x : Side). IsListed x) is (listed (ap is_stopped is ∙ still))))
lasts_once side s r q n m v w (then_refused {mid = mid} {v = u} f b still rejected k) (at_once e p) some other = absurd (first_pump side s e m mid w u p other b)
lasts_once side s r q n m v w (then_refused {mid = mid} {free = free} {v = u} f b still rejected k) (then_calm a listed) some other =
    let same = rounds_once a b (calm_ends m w listed) (refused_ends mid free n u v f rejected k some) in
    let is : m ≡ mid = ap (λ (x : Side × State). x.0) same in
    absurd (unlisted_stops mid free rejected (subst (λ (x : Side). IsListed x) is (listed (ap is_stopped is ∙ still))))
lasts_once side s r q n m v w (then_refused {mid = mid} {free = free} {v = u} f a still rejected k) (then_refused {mid = end} {free = loose} {v = z} g b going turned l) some other =
    let same = rounds_once a b (refused_ends mid free n u v f rejected k some) (refused_ends end loose m z w g turned l other) in
    let is : mid ≡ end = ap (λ (x : Side × State). x.0) same in
    let at : u ≡ z = ap (λ (x : Side × State). x.1) same in
    let too : free ≡ loose = rejects_once end free loose (subst (λ (x : Side). Rejects x free) is rejected) turned in
    pumps_once loose n m z v w (Err f) (Err g) (subst (λ (x : State). Pumps loose x (Err f) n v) at (subst (λ (x : Side). Pumps x u (Err f) n v) too k)) l some other

-- what came of moving, and the scene, are the same
pub record IsOneEnd (r q : Result (Unit {0}) FeedRefusal) (x y : ConversationScene) : Type 0 where
  pub result : r ≡ q
  pub scene : x ≡ y

pub moves_once : (x : ConversationScene) (r q : Result (Unit {0}) FeedRefusal) (y z : ConversationScene) → Moves x r y → Moves x q z → r ≢ Err NoMemory → q ≢ Err NoMemory
    → IsOneEnd r q y z
moves_once x r q y z (drains_only drain) (drains_only other) some too = record { result = refl; scene = refl }
moves_once x r q y z (drains_only drain) (converses free c) some too = absurd (cc)
moves_once x r q y z (converses free c) (drains_only drain) some too = absurd (cc)
moves_once x r q y z (converses {next = n} {v = v} free a) (converses {next = m} {v = w} other b) some too =
    let k = lasts_once x.side x.state r q n m v w (before_last x.side x.state r n v a some) (before_last x.side x.state q m w b too) some too in
    record {
      result = k.result;
      scene =
          ap (λ (u : Side). let e : ConversationScene = record x { side = u; state = v } in e) k.side ∙ ap (λ (u : State). let e : ConversationScene = record x { side = m; state = u } in e) k.state;
    }
