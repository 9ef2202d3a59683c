-- What a flush leaves of an end, and of a world: the packets that it sends come to the peer.
use Rattle.xns_spp.specs.declared.ends.Ends.{Ends}
use Rattle.std.proofs.Common.{◌≡◌, ℕ, ◌-◌, ◌<◌, Bool, true, List, length, Some, None, refl, sym, ◌∙◌, ap, subst, arith, lit<}
use Rattle.std.specs.Prelude.{slice_get, if◌then◌else◌}
use Rattle.xns_spp.specs.Ends.{is_open, is_ours_at}
use Rattle.xns_spp.specs.Header.{reply_control}
use Rattle.xns_spp.specs.Meant.{own_meant}
use Rattle.xns_spp.specs.Packet.{SppPacketModel, spp_packet_spelling}
use Rattle.xns_spp.specs.Peers.{IsHeard, Counts, IsNamed}
use Rattle.xns_spp.specs.Receiving.{after_receive}
use Rattle.xns_spp.specs.Sending.{system_packet, after_flush, flush_answer}
use Rattle.xns_spp.specs.State.{State, window_top}
use Rattle.xns_spp.specs.declared.item.Item.{Item}
use Rattle.item_world.proofs.Fronts.{front_get}
use Rattle.item_world.proofs.Moves.{IsProperAs, system_proper_as}
use Rattle.item_world.proofs.Sides.{same_end, same_other, other_other}
use Rattle.item_world.specs.EndLaws.{EndLaws}
use Rattle.item_world.specs.Events.{arrival, stepped, flushing}
use Rattle.item_world.specs.Invariant.{StandsBesidePeer}
use Rattle.item_world.specs.Landing.{with_arrival, landed, landing}
use Rattle.item_world.specs.Side.{other}
use Rattle.item_world.specs.World.{World, end_at, moment, emitted, is_past, flushes}
use Rattle.item_world.specs.declared.emitted.Emitted.{Emitted}
use Rattle.item_world.specs.declared.side.Side.{Side}
use Rattle.item_world.proofs.Onward.{Kept, Pair, flip, stands, links, is_alive, IsNew, living, lands_now, peer_moves, arrived, proper_heard, Knows}

-- ---- what a flush leaves of an end

pub record IsAlike (s t : State) : Type 0 where
  pub ends : t.ends ≡ s.ends
  pub allowed : t.allowed ≡ s.allowed
  pub top : window_top t ≡ window_top s
  pub handed : t.handed ≡ s.handed
  pub taken : t.taken ≡ s.taken
  pub acknowledged : t.acknowledged ≡ s.acknowledged
  pub accepted : t.accepted ≡ s.accepted

pub alike : EndLaws → (s : State) → IsAlike s (after_flush s)
alike laws s =
    let is = laws.alone.flush s in
    record {
      ends = ap (λ (t : State). t.ends) is;
      allowed = ap (λ (t : State). t.allowed) is;
      top = ap window_top is;
      handed = ap (λ (t : State). t.handed) is;
      taken = ap (λ (t : State). t.taken) is;
      acknowledged = ap (λ (t : State). t.acknowledged) is;
      accepted = ap (λ (t : State). t.accepted) is;
    }

-- ---- where an end flushes

pub lands_there : (w : World) (side : Side) (s p : State) (k : ℕ) (bytes : List ℕ) → Pair w side s p
    → (i : IsNew w side s p k bytes) → landing w k ≡ Some (other side, with_arrival w k (emitted side i.at bytes))
lands_there w side s p k bytes x i =
    let y : Emitted = emitted side i.at bytes in
    ap (landed w k) i.is
    ∙ ap (λ (b : Bool). if b then None else Some (other side, with_arrival w k y)) (living w side s p i.at x i.alive)

pub flushed_pair : Kept → (w : World) (side : Side) (s p : State) → Pair w side s p
    → Pair (flushes w (other side)) side s (after_flush p)
flushed_pair k w side s p x =
    let t : State = end_at w (other side) in
    record {
      here = peer_moves w side (after_flush t) (flush_answer t) ∙ x.here;
      there = same_end w (other side) (after_flush t) (flush_answer t) ∙ ap after_flush x.there;
      holds = k.order.each w (flushing (other side)) tt x.holds;
      linked = k.links w (flushing (other side)) tt x.holds x.linked;
    }

pub flushed_here : Kept → (w : World) (side : Side) (s p : State) → Pair w side s p
    → Pair (flushes w side) side (after_flush s) p
flushed_here k w side s p x =
    let t : State = end_at w side in
    record {
      here = same_end w side (after_flush t) (flush_answer t) ∙ ap after_flush x.here;
      there = same_other w side (after_flush t) (flush_answer t) ∙ x.there;
      holds = k.order.each w (flushing side) tt x.holds;
      linked = k.links w (flushing side) tt x.holds x.linked;
    }

-- a packet that was just sent is there still once its sender has flushed
pub new_out : EndLaws → (w : World) (side : Side) (s p : State) (k : ℕ) (bytes : List ℕ) → IsNew w side s p k bytes
    → IsNew (flushes w side) side (after_flush s) p k bytes
new_out laws w side s p k bytes i = record {
  at = i.at;
  is = front_get w.bag _ k (emitted side i.at bytes) i.is;
  alive = ap (λ (l : List Item). is_past i.at (length l) (length p.taken)) (alike laws s).taken ∙ i.alive;
}

pub lands_as : (w : World) (side : Side) (s p : State) (k : ℕ) (bytes : List ℕ) → Pair w side s p
    → IsNew w side s p k bytes → landing w k ≡ Some (other side, stepped w (arrival k))
lands_as w side s p k bytes x i = lands_there w side s p k bytes x i ∙ ap (λ (v : World). Some (other side, v)) (sym (lands_now w side s p k bytes x i))

-- the reply comes, which was made before its sender flushed
pub record Told (w : World) (side : Side) (t o : State) (k : ℕ) : Type 0 where
  pub lands : landing w k ≡ Some (side, stepped w (arrival k))
  pub knows : Knows (stepped w (arrival k)) side (after_receive t (spp_packet_spelling (system_packet o reply_control))) (after_flush o)

pub told_out : Kept → (w : World) (side : Side) (t o : State) (k : ℕ) → Pair w side t (after_flush o) → StandsBesidePeer o t
    → slice_get w.bag k ≡ Some (emitted (other side) (moment o t) (spp_packet_spelling (system_packet o reply_control)))
    → Told w side t o k
told_out kept w side t o k x before h =
    let laws : EndLaws = kept.laws in
    let p : State = after_flush o in
    let l : IsAlike o p = alike laws o in
    let q : SppPacketModel = system_packet o reply_control in
    let bytes : List ℕ = spp_packet_spelling q in
    let y : Pair w (other side) p t = flip w side t p x in
    let to : StandsBesidePeer p t = stands w (other side) p t y in
    let back : StandsBesidePeer t p = stands w side t p x in
    let proper : IsProperAs (moment p t) p q (own_meant o o.sent) = system_proper_as laws o p t reply_control before (omega (arith, l.top)) l.taken (lit< tt) refl in
    let ours : is_ours_at t.ends q ≡ true =
    laws.peers.ours p.ends t.ends q to.fits.ends back.fits.ends (links w (other side) p t y) (links w side t p x)
    (subst (λ (e : Ends). IsNamed e q) (sym l.ends) (laws.peers.system o reply_control)) in
    let heard : IsHeard t bytes q (own_meant o o.sent) = proper_heard laws p t q (own_meant o o.sent) to back proper ours in
    let counts : Counts t bytes q (own_meant o o.sent) = laws.counts t bytes q (own_meant o o.sent) heard in
    let new : IsNew w (other side) p t k bytes = record { at = moment o t; is = h; alive = is_alive (moment o t) (length p.taken) (length t.taken) (sym (ap length l.taken)) refl } in
    let u : State = after_receive t bytes in
    let v : World = stepped w (arrival k) in
    let f : Pair v (other (other side)) u p = flip v (other side) p u (arrived kept w (other side) p t k bytes y new) in
    record {
      lands = subst (λ (e : Side). landing w k ≡ Some (e, v)) (other_other side) (lands_as w (other side) p t k bytes y new);
      knows = record {
        pair = subst (λ (e : Side). Pair v e u p) (other_other side) f;
        ready = counts.opens before.fits.ends.id_known;
        acknowledged = omega (arith, counts.acknowledged, ap length l.taken);
        allowed = omega (arith, counts.allowed, l.top);
      };
    }

pub knows_flushed : Kept → (w : World) (side : Side) (s p : State) → Knows w side s p
    → Knows (flushes w side) side (after_flush s) p
knows_flushed k w side s p x =
    let l : IsAlike s (after_flush s) = alike k.laws s in
    record {
      pair = flushed_here k w side s p x.pair;
      ready = ap is_open l.ends ∙ x.ready;
      acknowledged = omega (arith, x.acknowledged, l.acknowledged);
      allowed = omega (arith, x.allowed, l.allowed);
    }
