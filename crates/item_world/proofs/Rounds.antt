-- Rounds of ticks, a rest and takes hand up and acknowledge all that was accepted.
use Rattle.std.proofs.Common.{◌≡◌, ℕ, ◌+◌, ◌<◌, ◌≤◌, true, List, [], length, Some, refl, sym, ◌∙◌, ap, subst, arith}
use Rattle.std.specs.Prelude.{slice_get}
use Rattle.xns_spp.specs.Ends.{is_open}
use Rattle.xns_spp.specs.Meant.{Meant, own_meant}
use Rattle.xns_spp.specs.Numbers.{most_items}
use Rattle.xns_spp.specs.Packet.{SppPacketModel, spp_packet_spelling}
use Rattle.xns_spp.specs.Receiving.{after_receive}
use Rattle.xns_spp.specs.Header.{reply_control}
use Rattle.xns_spp.specs.Sending.{system_packet, after_flush, after_tick, tick_answer}
use Rattle.xns_spp.specs.State.{State}
use Rattle.item_world.proofs.Going.{EndGoes, goes_then, Both, Ahead, ahead_itself, ahead_then, fold_ahead, tick_ahead, take_ahead}
use Rattle.item_world.proofs.Fronts.{front_get}
use Rattle.item_world.proofs.Kept.{deliveries}
use Rattle.item_world.proofs.Onward.{Kept, Pair, flip, handing_one, longer, TickAsks, tick_asks}
use Rattle.item_world.proofs.Rests.{rested, Visit, visit}
use Rattle.item_world.proofs.Sides.{same_end, same_other, other_other}
use Rattle.item_world.proofs.Ways.{OnItsWay, way_on, Comes, comes, Replies, replies, tick_way}
use Rattle.item_world.specs.Events.{delivers, undelivered, world_after}
use Rattle.item_world.specs.Progress.{round}
use Rattle.item_world.specs.Side.{other}
use Rattle.item_world.specs.World.{World, end_at, emitted, ticks, takes}
use Rattle.item_world.specs.declared.emitted.Emitted.{Emitted}
use Rattle.item_world.specs.declared.side.Side.{Side}
use Rattle.item_world.specs.declared.side.Side.TheVariants.{A, B}

-- ---- a round in its parts

abbrev pub ticked_both : World → World
ticked_both w = ticks (ticks w A) B

abbrev pub taken_both : World → World
taken_both v = takes (takes v A) B

abbrev pub turn : World → World
turn w = taken_both (rested (ticked_both w))

pub round_is : (w : World) → world_after w round ≡ turn w
round_is w = let u : World = ticked_both w in ap taken_both (deliveries u (undelivered 0 u.bag))

pub both_pair : (w : World) (side : Side) → Both w → Pair w side (end_at w side) (end_at w (other side))
both_pair w side b = record { here = refl; there = refl; holds = b.holds; linked = b.linked }

-- a side ticks before the other one or after it
pub record Ticks (w : World) (side : Side) : Type 0 where
  pub before : World
  pub here : end_at before side ≡ end_at w side
  pub ahead : Ahead 0 w before
  pub after : Ahead 0 (ticks before side) (ticked_both w)
  pub keeps : (k : ℕ) (x : Emitted) → slice_get (ticks before side).bag k ≡ Some x → slice_get (ticked_both w).bag k ≡ Some x

pub tick_of : Kept → (w : World) (side : Side) → Both w → Ticks w side
tick_of kept w A b = record {
  before = w;
  here = refl;
  ahead = ahead_itself 0 w b;
  after = tick_ahead kept (ticks w A) B (tick_ahead kept w A b).both;
  keeps = λ k x h. front_get (ticks w A).bag _ k x h;
}
tick_of kept w B b = record {
  before = ticks w A;
  here = refl;
  ahead = tick_ahead kept w A b;
  after = ahead_itself 0 (ticked_both w) (tick_ahead kept (ticks w A) B (tick_ahead kept w A b).both).both;
  keeps = λ k x h. h;
}

ticked_ahead : Kept → (w : World) → Both w → Ahead 0 w (ticked_both w)
ticked_ahead kept w b =
    let first = tick_ahead kept w A b in ahead_then 0 0 w (ticks w A) (ticked_both w) first (tick_ahead kept (ticks w A) B first.both)

taken_ahead : Kept → (v : World) → Both v → Ahead 2 v (taken_both v)
taken_ahead kept v b =
    let first = take_ahead kept v A b in ahead_then 1 1 v (takes v A) (taken_both v) first (take_ahead kept (takes v A) B first.both)

pub rested_ahead : Kept → (w : World) → Both w → Ahead 0 w (rested (ticked_both w))
rested_ahead kept w b =
    let first = ticked_ahead kept w b in
    let u : World = ticked_both w in ahead_then 0 0 w u (rested u) first (fold_ahead kept u (undelivered 0 u.bag) first.both)

pub turn_ahead : Kept → (w : World) → Both w → Ahead 2 w (turn w)
turn_ahead kept w b =
    let first = rested_ahead kept w b in ahead_then 0 2 w (rested (ticked_both w)) (turn w) first (taken_ahead kept (rested (ticked_both w)) first.both)

-- what is in the bag stays there
stays_there : (v : World) (k : ℕ) (x : Emitted) → slice_get v.bag k ≡ Some x → slice_get (taken_both v).bag k ≡ Some x
stays_there v k x h = front_get (takes v A).bag [] k x (front_get v.bag [] k x h)

-- an item that waits at the end of a rest is handed up
takes_one : Kept → (v : World) (side : Side) → (end_at v (other side)).handed < length (end_at v (other side)).taken
    → (end_at v (other side)).handed < (end_at (taken_both v) (other side)).handed
takes_one kept v A lt = omega (arith, handing_one kept.laws v.b lt)
takes_one kept v B lt = omega (arith, handing_one kept.laws v.a lt)

pub waits_moves : Kept → (w : World) (side : Side) → Both w
    → (end_at w (other side)).handed < length (end_at (rested (ticked_both w)) (other side)).taken
    → (end_at w (other side)).handed < (end_at (turn w) (other side)).handed
waits_moves kept w side b lt =
    let v : World = rested (ticked_both w) in
    let on : Ahead 0 w v = rested_ahead kept w b in
    let e = on.ends (other side) in
    omega (arith, e.grows.handed, takes_one kept v side (omega (arith, e.handed, lt)))

-- ---- a packet that is on its way comes in the rest

pub record Came (w : World) (side : Side) (k : ℕ) (q : SppPacketModel) (m : Meant) : Type 0 where
  pub at : World
  pub before : Ahead 0 w at
  pub come : Comes at side (end_at at side) (end_at at (other side)) k q m
  pub after : Ahead 0 (delivers at k) (rested w)
  pub keeps : (j : ℕ) (y : Emitted) → length w.bag ≤ j → slice_get (delivers at k).bag j ≡ Some y → slice_get (rested w).bag j ≡ Some y

young : (w u : World) (side : Side) (least : ℕ) → Ahead 0 w u → (end_at w side).handed ≤ least + 100
    → length (end_at u side).taken ≤ least + 200
young w u side least on few =
    let fits = (on.both.holds.ends side).fits in omega (arith, few, (on.ends side).handed, fits.bounds.window_holds, fits.ends.window_most)

pub rest_comes : Kept
    → (w : World) (side : Side) (s p : State) (k : ℕ) (q : SppPacketModel) (m : Meant) (least_s least_p : ℕ) → Both w
    → Pair w side s p
    → OnItsWay w.bag side s p k q m least_s least_p → s.handed ≤ least_s + 100 → p.handed ≤ least_p + 100 → Came w side k q m
rest_comes kept w side s p k q m least_s least_p b x i few_s few_p =
    let v : Visit w (rested w) k (emitted side i.at (spp_packet_spelling q)) = visit kept w k (emitted side i.at (spp_packet_spelling q)) b i.is refl in
    let u : World = v.at in
    let here : EndGoes 0 s (end_at u side) = subst (λ (t : State). EndGoes 0 t (end_at u side)) x.here (v.before.ends side) in
    let there : EndGoes 0 p (end_at u (other side)) = subst (λ (t : State). EndGoes 0 t (end_at u (other side))) x.there (v.before.ends (other side)) in
    let way = way_on w.bag u.bag side s (end_at u side) p (end_at u (other side)) k q m least_s least_p 0 here there i v.still in
    record {
      at = u;
      before = v.before;
      come = comes kept u side (end_at u side) (end_at u (other side)) k q m least_s least_p (both_pair u side v.before.both) way
          (young w u side least_s v.before (omega (arith, ap (λ (t : State). t.handed) x.here, few_s)))
          (young w u (other side) least_p v.before (omega (arith, ap (λ (t : State). t.handed) x.there, few_p)));
      after = v.after;
      keeps = v.keeps;
    }

-- ---- the first round: an end asks, and its peer's reply is on its way

pub record Offer (w : World) (side : Side) (least_p least_s : ℕ) : Type 0 where
  pub number : ℕ
  pub packet : SppPacketModel
  pub meant : Meant
  pub way : OnItsWay w.bag (other side) (end_at w (other side)) (end_at w side) number packet meant least_p least_s
  pub acknowledges : least_p ≤ meant.acknowledge
  pub allows : least_p < most_items → least_p ≤ meant.allocation
  pub named : 0 < packet.header.source_id

pub ask : Kept → (w : World) (side : Side) → Both w → (end_at w side).acknowledged < length (end_at w side).accepted
    → (n : ℕ) (m : ℕ) → n ≡ (end_at w (other side)).handed → m ≡ (end_at w side).handed → Offer (turn w) side n m
ask kept w side b left n m is_n is_m =
    let t : Ticks w side = tick_of kept w side b in
    let w1 : World = t.before in
    let w2 : World = ticked_both w in
    let s : State = end_at w1 side in
    let p : State = end_at w1 (other side) in
    let left_here : s.acknowledged < length s.accepted =
    subst (λ (y : State). y.acknowledged < length y.accepted) (sym t.here) left in
    let x : Pair w1 side s p = both_pair w1 side t.ahead.both in
    let a : TickAsks s p = tick_asks kept w1 side s p x left_here in
    let out = tick_way kept w1 side s p a.packet a.meant x a.first in
    let k : ℕ = length w1.bag in
    let tick : World = ticks w1 side in
    let here : EndGoes 0 (after_tick s) (end_at w2 side) =
    subst (λ (y : State). EndGoes 0 y (end_at w2 side)) (same_end w1 side (after_tick s) (tick_answer s)) (t.after.ends side) in
    let there : EndGoes 0 p (end_at w2 (other side)) =
    subst (λ (y : State). EndGoes 0 y (end_at w2 (other side))) (same_other w1 side (after_tick s) (tick_answer s)) (t.after.ends (other side)) in
    let way = way_on tick.bag w2.bag side (after_tick s) (end_at w2 side) p (end_at w2 (other side)) k a.packet a.meant s.handed p.handed 0 here there out (t.keeps k (emitted side out.at (spp_packet_spelling a.packet)) out.is) in
    let both : Both w2 = t.after.both in
    let c : Came w2 side k a.packet a.meant =
    rest_comes kept w2 side (end_at w2 side) (end_at w2 (other side)) k a.packet a.meant s.handed p.handed both (both_pair w2 side both) way
    (omega (arith, here.handed, (kept.laws.stays.tick s).handed)) (omega (arith, there.handed)) in
    let u : World = c.at in
    let su : State = end_at u side in
    let pu : State = end_at u (other side) in
    let o : State = after_receive pu (spp_packet_spelling a.packet) in
    let r : Replies u side o su pu k = replies kept u side su pu k a.packet a.meant (both_pair u side c.before.both) c.come a.asks in
    let d : World = delivers u k in
    let v : World = rested w2 in
    let e : World = turn w in
    let long : length w2.bag ≤ length u.bag = longer w2 u c.before.later in
    let last : Ahead 2 v e = taken_ahead kept v c.after.both in
    let on_p : EndGoes 2 (after_flush o) (end_at e (other side)) =
    subst (λ (y : State). EndGoes 2 y (end_at e (other side))) c.come.pair.there
    (goes_then 0 2 (end_at d (other side)) (end_at v (other side)) (end_at e (other side)) (c.after.ends (other side)) (last.ends (other side))) in
    let on_s : EndGoes 2 su (end_at e side) =
    subst (λ (y : State). EndGoes 2 y (end_at e side)) c.come.pair.here
    (goes_then 0 2 (end_at d side) (end_at v side) (end_at e side) (c.after.ends side) (last.ends side)) in
    let z : Emitted = emitted (other side) r.way.at (spp_packet_spelling (system_packet o reply_control)) in
    let there_v : slice_get v.bag (length u.bag) ≡ Some z = c.keeps (length u.bag) z long r.way.is in
    let there_e : slice_get e.bag (length u.bag) ≡ Some z = stays_there v (length u.bag) z there_v in
    let grew_p : n ≤ pu.handed = omega (arith, is_n, (t.ahead.ends (other side)).grows.handed, there.grows.handed, (c.before.ends (other side)).grows.handed) in
    let same_p : pu.handed ≤ n = omega (arith, is_n, (t.ahead.ends (other side)).handed, there.handed, (c.before.ends (other side)).handed) in
    let same_s : su.handed ≡ m =
    omega (arith, is_m, (t.ahead.ends side).grows.handed, (t.ahead.ends side).handed, (kept.laws.stays.tick s).handed, here.grows.handed, here.handed, (c.before.ends side).grows.handed, (c.before.ends side).handed) in
    let same : pu.handed ≡ n = omega (arith, grew_p, same_p) in
    let reply : SppPacketModel = system_packet o reply_control in
    let told : Meant = own_meant o o.sent in
    let w3 = way_on d.bag e.bag (other side) (after_flush o) (end_at e (other side)) su (end_at e side) (length u.bag) reply told pu.handed su.handed 2 on_p on_s r.way there_e in
    record {
      number = length u.bag;
      packet = reply;
      meant = told;
      way = subst (λ (i : ℕ). OnItsWay e.bag (other side) (end_at e (other side)) (end_at e side) (length u.bag) reply told n i) same_s
          (subst (λ (i : ℕ). OnItsWay e.bag (other side) (end_at e (other side)) (end_at e side) (length u.bag) reply told i su.handed) same w3);
      acknowledges = omega (arith, same, r.acknowledges);
      allows = λ few. omega (arith, same, r.allows (omega (arith, same, few)));
      named = r.named;
    }

-- ---- the second round: the reply comes

pub record IsTold (s : State) (n : ℕ) : Type 0 where
  pub ready : is_open s.ends ≡ true
  pub acknowledged : n ≤ s.acknowledged
  pub allowed : n < most_items → n < s.allowed

told_on : (most : ℕ) (s t : State) (n : ℕ) → EndGoes most s t → IsTold s n → IsTold t n
told_on most s t n g i = record {
  ready = g.opens i.ready;
  acknowledged = omega (arith, i.acknowledged, g.grows.acknowledged);
  allowed = λ few. omega (arith, i.allowed few, g.grows.allowed);
}

pub tell : Kept → (w : World) (side : Side) (n m : ℕ) → Both w → Offer w side n m
    → (end_at w (other side)).handed ≤ n + 100 → (end_at w side).handed ≤ m + 100
    → IsTold (end_at (turn w) side) n
tell kept w side n m b f few_p few_s =
    let w2 : World = ticked_both w in
    let on : Ahead 0 w w2 = ticked_ahead kept w b in
    let p : State = end_at w2 (other side) in
    let s : State = end_at w2 side in
    let there = front_get (ticks w A).bag _ f.number _ (front_get w.bag _ f.number _ f.way.is) in
    let way = way_on w.bag w2.bag (other side) (end_at w (other side)) p (end_at w side) s f.number f.packet f.meant n m 0 (on.ends (other side)) (on.ends side) f.way there in
    let c : Came w2 (other side) f.number f.packet f.meant =
    rest_comes kept w2 (other side) p s f.number f.packet f.meant n m on.both (flip w2 side s p (both_pair w2 side on.both)) way
    (omega (arith, few_p, (on.ends (other side)).handed)) (omega (arith, few_s, (on.ends side).handed)) in
    let u : World = c.at in
    let far : Side = other (other side) in
    let su : State = end_at u far in
    let bytes : List ℕ = spp_packet_spelling f.packet in
    let o : State = after_receive su bytes in
    let counts = c.come.counts in
    let heard : IsTold o n = record {
      ready = counts.opens f.named;
      acknowledged = omega (arith, f.acknowledges, counts.acknowledged);
      allowed = λ few. omega (arith, f.allows few, counts.allowed);
    } in
    let d : World = delivers u f.number in
    let v : World = rested w2 in
    let e : World = turn w in
    let last : Ahead 2 v e = taken_ahead kept v c.after.both in
    let fits = kept.laws.alone.flush o in
    let flushed : IsTold (after_flush o) n = record {
      ready = ap (λ (t : State). is_open t.ends) fits ∙ heard.ready;
      acknowledged = omega (arith, ap (λ (t : State). t.acknowledged) fits, heard.acknowledged);
      allowed = λ few. omega (arith, ap (λ (t : State). t.allowed) fits, heard.allowed few);
    } in
    let delivered : IsTold (end_at d far) n = subst (λ (t : State). IsTold t n) (sym c.come.pair.there) flushed in
    let rest : IsTold (end_at v far) n = told_on 0 (end_at d far) (end_at v far) n (c.after.ends far) delivered in
    subst (λ (t : Side). IsTold (end_at e t) n) (other_other side) (told_on 2 (end_at v far) (end_at e far) n (last.ends far) rest)
