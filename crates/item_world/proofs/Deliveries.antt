-- From every world some events hand up one item more, and have all acknowledged.
use Rattle.std.proofs.Common.{◌≡◌, ℕ, ◌<◌, ◌≤◌, Bool, true, false, List, [], ◌∷◌, length, nat_lt, Some, refl, sym, ◌∙◌, ap, subst, arith}
use Rattle.std.specs.Prelude.{slice_get, All}
use Rattle.std.proofs.lemmas.Bool.{ltb-true, ltb-false}
use Rattle.std.proofs.lemmas.List.Elements.{All-nil, All-cons}
use Rattle.xns_spp.specs.Header.{reply_control}
use Rattle.xns_spp.specs.Packet.{spp_packet_spelling}
use Rattle.xns_spp.specs.Receiving.{after_receive}
use Rattle.xns_spp.specs.Sending.{system_packet, after_flush, after_tick}
use Rattle.xns_spp.specs.State.{State}
use Rattle.item_world.proofs.Fronts.{front_get}
use Rattle.item_world.proofs.Kept.{flushed, delivers_lands}
use Rattle.item_world.proofs.Later.{run_later}
use Rattle.item_world.proofs.Onward.{Kept, Pair, flip, stands, IsNew, ticked, took, lands_now, arrived, Asked, asked, Knows, Goes, goes, longer}
use Rattle.item_world.proofs.Flushes.{alike, lands_there, flushed_pair, Told, told_out, knows_flushed}
use Rattle.item_world.specs.EndLaws.{EndLaws}
use Rattle.item_world.specs.Events.{arrival, stepped, delivers, world_after}
use Rattle.item_world.specs.Invariant.{StandsBesidePeer, Holds}
use Rattle.item_world.specs.Progress.{Linked, IsFurther}
use Rattle.item_world.specs.Side.{other}
use Rattle.item_world.specs.World.{World, end_at, moment, emitted, flushes, ticks}
use Rattle.item_world.specs.declared.emitted.Emitted.{Emitted}
use Rattle.item_world.specs.declared.event.Event.{Event}
use Rattle.item_world.specs.declared.event.Event.TheVariants.{Deliver, Tick, Take}
use Rattle.item_world.specs.declared.side.Side.{Side}

-- ---- a packet is delivered that was just sent

pub delivers_now : (w : World) (side : Side) (s p : State) (k : ℕ) (bytes : List ℕ) → Pair w side s p
    → IsNew w side s p k bytes → delivers w k ≡ flushes (stepped w (arrival k)) (other side)
delivers_now w side s p k bytes x i =
    delivers_lands w k ∙ (ap (flushed w) (lands_there w side s p k bytes x i) ∙ ap (λ (v : World). flushes v (other side)) (sym (lands_now w side s p k bytes x i)))

-- the ends of a world once a packet that was just sent came, and the reply to it, if one is owed, was sent
pub delivered : Kept → (w : World) (side : Side) (s p : State) (k : ℕ) (bytes : List ℕ) → Pair w side s p
    → IsNew w side s p k bytes → Pair (delivers w k) side s (after_flush (after_receive p bytes))
delivered kept w side s p k bytes x i =
    let v : World = stepped w (arrival k) in
    subst (λ (u : World). Pair u side s (after_flush (after_receive p bytes))) (sym (delivers_now w side s p k bytes x i))
    (flushed_pair kept v side s (after_receive p bytes) (arrived kept w side s p k bytes x i))

pub still_there : (w v : World) (side : Side) (k : ℕ) (x : Emitted) → v ≡ flushes w side → slice_get w.bag k ≡ Some x
    → slice_get v.bag k ≡ Some x
still_there w v side k x e h = ap (λ (u : World). slice_get u.bag k) e ∙ front_get w.bag _ k x h

-- ---- an end asks, and is told

told_by : Kept → (w : World) (side : Side) (t o : State) (k : ℕ) → Pair w side t (after_flush o) → StandsBesidePeer o t
    → slice_get w.bag k ≡ Some (emitted (other side) (moment o t) (spp_packet_spelling (system_packet o reply_control)))
    → Knows (delivers w k) side (after_flush (after_receive t (spp_packet_spelling (system_packet o reply_control)))) (after_flush o)
told_by kept w side t o k x before h =
    let u : State = after_receive t (spp_packet_spelling (system_packet o reply_control)) in
    let told : Told w side t o k = told_out kept w side t o k x before h in
    let v : World = stepped w (arrival k) in
    let is : delivers w k ≡ flushes v side = delivers_lands w k ∙ ap (flushed w) told.lands in
    subst (λ (e : World). Knows e side (after_flush u) (after_flush o)) (sym is) (knows_flushed kept v side u (after_flush o) told.knows)

-- two events after a tick that asks: the packet of the tick comes, and then the reply to it
pub record AskedBy (w : World) (side : Side) (s p : State) : Type 0 where
  a : Asked w side s p
  first : Pair (delivers (ticks w side) (length w.bag)) side (after_tick s) (after_flush (after_receive p a.bytes))
  second : Knows (delivers (delivers (ticks w side) (length w.bag)) (length (ticks w side).bag)) side
      (after_flush (after_receive (after_tick s) (spp_packet_spelling (system_packet (after_receive p a.bytes) reply_control)))) (after_flush (after_receive p a.bytes))

-- the end before a tick, and after it
pub asked_by : Kept → (w : World) (side : Side) (s p : State) → Pair w side s p
    → Pair (ticks w side) side (after_tick s) p → s.acknowledged < length s.accepted → AskedBy w side s p
asked_by k w side s p x y left =
    let a : Asked w side s p = asked k w side s p x left in
    let t : State = after_tick s in
    let o : State = after_receive p a.bytes in
    let w1 : World = ticks w side in
    let v : World = stepped w1 (arrival (length w.bag)) in
    let w2 : World = delivers w1 (length w.bag) in
    let e = delivers_now w1 side t p (length w.bag) a.bytes y a.new in
    let first = delivered k w1 side t p (length w.bag) a.bytes y a.new in
    let before : StandsBesidePeer o t = stands v (other side) o t (flip v side t o a.pair) in
    record {
      a = a;
      first = first;
      second = told_by k w2 side t o (length w1.bag) first before (still_there v w2 (other side) (length w1.bag) _ e a.reply);
    }

-- ---- one item more is handed up

-- some events after which an end has handed up more than this
pub record AdvancesBy (w : World) (side : Side) (handed : ℕ) : Type 0 where
  pub steps : List Event
  pub plain : All (IsFurther (length w.bag)) steps
  pub few : length steps ≤ 6
  pub more : handed < (end_at (world_after w steps) (other side)).handed

one_by : (n : ℕ) (e : Event) → IsFurther n e → All (IsFurther n) (e ∷ [])
one_by n e h = All-cons (IsFurther n) e [] h (All-nil (IsFurther n))

-- a side advances, by whether the packet of its first tick brought an item
by_item : Kept → (w : World) (side : Side) (s p : State) → Pair w side s p → p.handed ≡ length p.taken
    → p.handed < length s.accepted → (a : AskedBy w side s p) (b : Bool)
    → nat_lt (after_flush (after_receive p a.a.bytes)).handed (length (after_flush (after_receive p a.a.bytes)).taken) ≡ b
    → AdvancesBy w side p.handed
by_item k w side s p x none left a true h =
    let laws : EndLaws = k.laws in
    let w1 : World = ticks w side in
    let w2 : World = delivers w1 (length w.bag) in
    let o : State = after_flush (after_receive p a.a.bytes) in
    let same : o.handed ≡ p.handed = (alike laws (after_receive p a.a.bytes)).handed ∙ (laws.stays.receive p a.a.bytes).handed in
    let P : Event → Type 0 = IsFurther (length w.bag) in
    let s3 : List Event = Take (other side) ∷ [] in
    let s2 : List Event = Deliver (length w.bag) ∷ s3 in
    record {
      steps = Tick side ∷ s2;
      plain = All-cons P (Tick side) s2 tt (All-cons P (Deliver (length w.bag)) s3 (omega arith) (one_by (length w.bag) (Take (other side)) tt));
      few = omega arith;
      more = omega (arith, took laws w2 side (after_tick s) o a.first (ltb-true o.handed (length o.taken) h), same);
    }
by_item k w side s p x none left a false h =
    let laws : EndLaws = k.laws in
    let t : State = after_tick s in
    let o0 : State = after_receive p a.a.bytes in
    let o : State = after_flush o0 in
    let w1 : World = ticks w side in
    let w2 : World = delivers w1 (length w.bag) in
    let w3 : World = delivers w2 (length w1.bag) in
    let w4 : World = ticks w3 side in
    let w5 : World = delivers w4 (length w3.bag) in
    let handed : o.handed ≡ p.handed = (alike laws o0).handed ∙ (laws.stays.receive p a.a.bytes).handed in
    let bytes : List ℕ = spp_packet_spelling (system_packet o0 reply_control) in
    let u0 : State = after_receive t bytes in
    let u : State = after_flush u0 in
    let accepted : length u.accepted ≡ length s.accepted =
    ap length (alike laws u0).accepted ∙ (ap length (laws.stays.receive t bytes).accepted ∙ ap length (laws.stays.tick s).accepted) in
    let knows : Knows w3 side u o = a.second in
    let there : StandsBesidePeer o u = stands w3 (other side) o u (flip w3 side u o knows.pair) in
    let all : o.handed ≡ length o.taken = omega (arith, ltb-false o.handed (length o.taken) h, there.fits.bounds.handed_taken) in
    let g : Goes w3 side u o = goes k w3 side u o knows all (omega (arith, all, handed, left, accepted)) in
    let e0 : State = after_receive o g.bytes in
    let e : State = after_flush e0 in
    let last : Pair w5 side (after_tick u) e = delivered k w4 side (after_tick u) o (length w3.bag) g.bytes (ticked k w3 side u o knows.pair) g.new in
    let same : e.handed ≡ o.handed = (alike laws e0).handed ∙ (laws.stays.receive o g.bytes).handed in
    let one : length w.bag ≤ length w1.bag = longer w w1 (run_later laws w (Tick side ∷ [])) in
    let three : length w.bag ≤ length w3.bag = longer w w3 (run_later laws w (Tick side ∷ Deliver (length w.bag) ∷ Deliver (length w1.bag) ∷ [])) in
    let P : Event → Type 0 = IsFurther (length w.bag) in
    let s6 : List Event = Take (other side) ∷ [] in
    let s5 : List Event = Deliver (length w3.bag) ∷ s6 in
    let s4 : List Event = Tick side ∷ s5 in
    let s3 : List Event = Deliver (length w1.bag) ∷ s4 in
    let s2 : List Event = Deliver (length w.bag) ∷ s3 in
    record {
      steps = Tick side ∷ s2;
      plain = All-cons P (Tick side) s2 tt
          (All-cons P (Deliver (length w.bag)) s3 (omega arith)
          (All-cons P (Deliver (length w1.bag)) s4 one
          (All-cons P (Tick side) s5 tt
          (All-cons P (Deliver (length w3.bag)) s6 three (one_by (length w.bag) (Take (other side)) tt)))));
      few = omega arith;
      more = omega (arith, took laws w5 side (after_tick u) e last (omega (arith, g.takes, all, same, ap length (alike laws e0).taken)), same, handed);
    }

by_waiting : Kept → (w : World) (side : Side) (s p : State) (b : Bool) → nat_lt p.handed (length p.taken) ≡ b
    → Pair w side s p → p.handed < length s.accepted → AdvancesBy w side p.handed
by_waiting k w side s p true h x left = record {
  steps = Take (other side) ∷ [];
  plain = one_by (length w.bag) (Take (other side)) tt;
  few = omega arith;
  more = omega (arith, took k.laws w side s p x (ltb-true p.handed (length p.taken) h));
}
by_waiting k w side s p false h x left =
    let there : StandsBesidePeer p s = stands w (other side) p s (flip w side s p x) in
    let before : StandsBesidePeer s p = stands w side s p x in
    let none : p.handed ≡ length p.taken = omega (arith, ltb-false p.handed (length p.taken) h, there.fits.bounds.handed_taken) in
    let a : AskedBy w side s p = asked_by k w side s p x (ticked k w side s p x) (omega (arith, before.acknowledged, none, left)) in
    by_item k w side s p x none left a (nat_lt (after_flush (after_receive p a.a.bytes)).handed (length (after_flush (after_receive p a.a.bytes)).taken)) refl

pub advances_by : Kept → (w : World) (side : Side) → Holds w → Linked w
    → (end_at w (other side)).handed < length (end_at w side).accepted → AdvancesBy w side (end_at w (other side)).handed
advances_by k w side h l left =
    let s : State = end_at w side in
    let p : State = end_at w (other side) in
    by_waiting k w side s p (nat_lt p.handed (length p.taken)) refl (record { here = refl; there = refl; holds = h; linked = l }) left

-- ---- all is acknowledged

pub record SettlesBy (w : World) (side : Side) (n : ℕ) : Type 0 where
  pub steps : List Event
  pub plain : All (IsFurther (length w.bag)) steps
  pub few : length steps ≤ 3
  pub all : n ≤ (end_at (world_after w steps) side).acknowledged

asks_by : Kept → (w : World) (side : Side) (s p : State) → Pair w side s p → length s.accepted ≤ p.handed
    → s.acknowledged < length s.accepted → SettlesBy w side (length s.accepted)
asks_by k w side s p x all left =
    let laws : EndLaws = k.laws in
    let a : AskedBy w side s p = asked_by k w side s p x (ticked k w side s p x) left in
    let o0 : State = after_receive p a.a.bytes in
    let o : State = after_flush o0 in
    let w1 : World = ticks w side in
    let w2 : World = delivers w1 (length w.bag) in
    let w3 : World = delivers w2 (length w1.bag) in
    let u : State = after_flush (after_receive (after_tick s) (spp_packet_spelling (system_packet o0 reply_control))) in
    let knows : Knows w3 side u o = a.second in
    let there : StandsBesidePeer o u = stands w3 (other side) o u (flip w3 side u o knows.pair) in
    let handed : o.handed ≡ p.handed = (alike laws o0).handed ∙ (laws.stays.receive p a.a.bytes).handed in
    let one : length w.bag ≤ length w1.bag = longer w w1 (run_later laws w (Tick side ∷ [])) in
    let P : Event → Type 0 = IsFurther (length w.bag) in
    let s3 : List Event = Deliver (length w1.bag) ∷ [] in
    let s2 : List Event = Deliver (length w.bag) ∷ s3 in
    record {
      steps = Tick side ∷ s2;
      plain = All-cons P (Tick side) s2 tt (All-cons P (Deliver (length w.bag)) s3 (omega arith) (one_by (length w.bag) (Deliver (length w1.bag)) one));
      few = omega arith;
      all = omega (arith, all, handed, there.fits.bounds.handed_taken, knows.acknowledged, ap (λ (y : State). y.acknowledged) knows.pair.here);
    }

settled_by : Kept → (w : World) (side : Side) (b : Bool)
    → nat_lt (end_at w side).acknowledged (length (end_at w side).accepted) ≡ b → Holds w → Linked w
    → length (end_at w side).accepted ≤ (end_at w (other side)).handed
    → SettlesBy w side (length (end_at w side).accepted)
settled_by k w side true e h l all =
    let s : State = end_at w side in
    asks_by k w side s (end_at w (other side)) (record { here = refl; there = refl; holds = h; linked = l }) all (ltb-true s.acknowledged (length s.accepted) e)
settled_by k w side false e h l all = record {
  steps = [];
  plain = All-nil (IsFurther (length w.bag));
  few = omega arith;
  all = ltb-false (end_at w side).acknowledged (length (end_at w side).accepted) e;
}

pub settles_by : Kept → (w : World) (side : Side) → Holds w → Linked w
    → length (end_at w side).accepted ≤ (end_at w (other side)).handed
    → SettlesBy w side (length (end_at w side).accepted)
settles_by k w side = settled_by k w side (nat_lt (end_at w side).acknowledged (length (end_at w side).accepted)) refl
