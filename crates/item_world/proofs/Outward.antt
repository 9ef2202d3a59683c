-- From every world, without a take, an item comes to wait at an end, or all is acknowledged.
use Rattle.std.proofs.Common.{◌≡◌, inl, inr, ◌<◌, ◌≤◌, Bool, true, false, nat_lt, List, [], ◌∷◌, ◌++◌, length, refl, sym, ◌∙◌, ap, arith}
use Rattle.std.specs.Prelude.{All}
use Rattle.std.proofs.lemmas.Bool.{ltb-true, ltb-false}
use Rattle.std.proofs.lemmas.List.Elements.{All-nil, All-cons, All-append}
use Rattle.xns_spp.specs.Header.{reply_control}
use Rattle.xns_spp.specs.Packet.{spp_packet_spelling}
use Rattle.xns_spp.specs.Receiving.{after_receive}
use Rattle.xns_spp.specs.Sending.{system_packet, after_flush, after_tick}
use Rattle.xns_spp.specs.State.{State}
use Rattle.item_world.proofs.Fronts.{front_get}
use Rattle.item_world.proofs.Later.{all_later}
use Rattle.item_world.proofs.Onward.{Kept, Pair, flip, stands, IsNew, arrived, replied, ticked, Asked, asked, Knows, Goes, goes, longer}
use Rattle.item_world.proofs.Flushes.{alike, flushed_pair, flushed_here, new_out, lands_as, Told, told_out, knows_flushed}
use Rattle.item_world.specs.EndLaws.{EndLaws}
use Rattle.item_world.specs.Events.{SmallStep, arrival, flushing, ticking}
use Rattle.item_world.specs.Invariant.{StandsBesidePeer, Holds}
use Rattle.item_world.specs.Progress.{IsWire, Stirs, Linked, ticked_out, came_first, answered_out, came_back, knows_out, came_next, StirsOut}
use Rattle.item_world.specs.Side.{other}
use Rattle.item_world.specs.World.{World, end_at, ticks}
use Rattle.item_world.specs.declared.side.Side.{Side}

pub stirs_out : Kept → (w : World) (side : Side) → Holds w → Linked w
    → (end_at w side).acknowledged < length (end_at w side).accepted → StirsOut w side
stirs_out k w side holds linked left =
    let laws : EndLaws = k.laws in
    let s : State = end_at w side in
    let p : State = end_at w (other side) in
    let x : Pair w side s p = record { here = refl; there = refl; holds = holds; linked = linked } in
    let a : Asked w side s p = asked k w side s p x left in
    let t0 : State = after_tick s in
    let t : State = after_flush t0 in
    let w1 : World = ticked_out w side in
    let y : Pair w1 side t p = flushed_here k (ticks w side) side t0 p (ticked k w side s p x) in
    let new : IsNew w1 side t p (length w.bag) a.bytes = new_out laws (ticks w side) side t0 p (length w.bag) a.bytes a.new in
    let o : State = after_receive p a.bytes in
    let v2 : World = came_first w side in
    let z : Pair v2 side t o = arrived k w1 side t p (length w.bag) a.bytes y new in
    let reply = replied w1 side t p (length w.bag) a.bytes (spp_packet_spelling (system_packet o reply_control)) y new a.answer in
    let before : StandsBesidePeer o t = stands v2 (other side) o t (flip v2 side t o z) in
    let w2 : World = answered_out w side in
    let b : Told w2 side t o (length w1.bag) = told_out k w2 side t o (length w1.bag) (flushed_pair k v2 side t o z) before (front_get v2.bag _ (length w1.bag) _ reply) in
    let u0 : State = after_receive t (spp_packet_spelling (system_packet o reply_control)) in
    let u : State = after_flush u0 in
    let e : State = after_flush o in
    let v3 : World = came_back w side in
    let w3 : World = knows_out w side in
    let knows : Knows w3 side u e = knows_flushed k v3 side u0 e b.knows in
    let count : length u0.accepted ≡ length s.accepted =
    ap length (laws.stays.receive t (spp_packet_spelling (system_packet o reply_control))).accepted ∙ (ap length (alike laws t0).accepted ∙ ap length (laws.stays.tick s).accepted) in
    let taken : length (end_at v2 (other side)).taken ≡ length e.taken = ap (λ (r : State). length r.taken) z.there ∙ sym (ap length (alike laws o).taken) in
    let handed : (end_at v2 (other side)).handed ≡ e.handed = ap (λ (r : State). r.handed) z.there ∙ sym (alike laws o).handed in
    record {
      first = lands_as w1 side t p (length w.bag) a.bytes y new;
      second = b.lands;
      settled = λ all. omega (arith, all, taken, count, b.knows.acknowledged, ap (λ (r : State). length r.accepted) b.knows.pair.here, ap (λ (r : State). r.acknowledged) b.knows.pair.here);
      third = λ none less.
          let g : Goes w3 side u e = goes k w3 side u e knows (omega (arith, none, taken, handed)) (omega (arith, less, taken, count, ap length (alike laws u0).accepted)) in
          let c0 : State = after_tick u in
          let c : State = after_flush c0 in
          let w4 : World = ticked_out w3 side in
          let d : Pair w4 side c e = flushed_here k (ticks w3 side) side c0 e (ticked k w3 side u e knows.pair) in
          let next : IsNew w4 side c e (length w3.bag) g.bytes = new_out laws (ticks w3 side) side c0 e (length w3.bag) g.bytes g.new in
          let last : Pair (came_next w side) side c (after_receive e g.bytes) = arrived k w4 side c e (length w3.bag) g.bytes d next in
          let same : (after_receive e g.bytes).handed ≡ e.handed = (laws.stays.receive e g.bytes).handed in (
            lands_as w4 side c e (length w3.bag) g.bytes d next,
            omega (arith, g.takes, same, none, taken, handed, ap (λ (r : State). r.handed) last.there, ap (λ (r : State). length r.taken) last.there),
          );
    }

-- ---- the three packets as small steps

-- the ticks and the three packets as small steps, by whether an item waits once the first packet came, and whether one
-- is still to come then
stirs_when : EndLaws → (w : World) (side : Side) (b c : Bool) → StirsOut w side
    → nat_lt (end_at (came_first w side) (other side)).handed (length (end_at (came_first w side) (other side)).taken) ≡ b
    → nat_lt (length (end_at (came_first w side) (other side)).taken) (length (end_at w side).accepted) ≡ c
    → Holds (came_first w side) → Stirs w side
stirs_when laws w side true c out waits left holds =
    let P : SmallStep → Type 0 = IsWire (length w.bag) in
    let p : State = end_at (came_first w side) (other side) in
    record {
      more = ticking side ∷ flushing side ∷ arrival (length w.bag) ∷ [];
      wire = All-cons P (ticking side) (flushing side ∷ arrival (length w.bag) ∷ []) tt
          (All-cons P (flushing side) (arrival (length w.bag) ∷ []) tt (All-cons P (arrival (length w.bag)) [] (omega arith) (All-nil P)));
      comes = inl (ltb-true p.handed (length p.taken) waits);
    }
stirs_when laws w side false c out waits left holds =
    let P : SmallStep → Type 0 = IsWire (length w.bag) in
    let p : State = end_at (came_first w side) (other side) in
    let first : List SmallStep = ticking side ∷ flushing side ∷ arrival (length w.bag) ∷ flushing (other side) ∷ [] in
    let one : length w.bag ≤ length (ticked_out w side).bag = longer w (ticked_out w side) (all_later laws w (ticking side ∷ flushing side ∷ [])) in
    let second : List SmallStep = arrival (length (ticked_out w side).bag) ∷ [] in
    let first_wire : All P first =
    All-cons P (ticking side) (flushing side ∷ arrival (length w.bag) ∷ flushing (other side) ∷ []) tt
    (All-cons P (flushing side) (arrival (length w.bag) ∷ flushing (other side) ∷ []) tt
    (All-cons P (arrival (length w.bag)) (flushing (other side) ∷ []) (omega arith) (All-cons P (flushing (other side)) [] tt (All-nil P)))) in
    let second_wire : All P second = All-cons P (arrival (length (ticked_out w side).bag)) [] one (All-nil P) in
    elim c as (λ d. nat_lt (length p.taken) (length (end_at w side).accepted) ≡ d → Stirs w side) [
      | false ↦ λ e. record {
        more = first ++ second;
        wire = All-append P first second first_wire second_wire;
        comes = inr (out.settled (ltb-false (length p.taken) (length (end_at w side).accepted) e));
      }
      | true ↦ λ e.
          let none : p.handed ≡ length p.taken =
          omega (arith, ltb-false p.handed (length p.taken) waits, (holds.ends (other side)).fits.bounds.handed_taken) in
          let k : World = knows_out w side in
          let three : length w.bag ≤ length k.bag = longer w k (all_later laws w (first ++ second ++ flushing side ∷ [])) in
          let third : List SmallStep = flushing side ∷ ticking side ∷ flushing side ∷ arrival (length k.bag) ∷ [] in
          record {
            more = first ++ second ++ third;
            wire = All-append P first (second ++ third) first_wire (All-append P second third second_wire
                (All-cons P (flushing side) (ticking side ∷ flushing side ∷ arrival (length k.bag) ∷ []) tt
                (All-cons P (ticking side) (flushing side ∷ arrival (length k.bag) ∷ []) tt
                (All-cons P (flushing side) (arrival (length k.bag) ∷ []) tt (All-cons P (arrival (length k.bag)) [] three (All-nil P))))));
            comes = inl (out.third none (ltb-true (length p.taken) (length (end_at w side).accepted) e)).1;
          }
    ] left

stirs_by : Kept → (w : World) (side : Side) (b : Bool)
    → nat_lt (end_at w side).acknowledged (length (end_at w side).accepted) ≡ b
    → Holds w → Linked w → Stirs w side
stirs_by k w side true e holds linked =
    let s : State = end_at w side in
    let v : World = came_first w side in
    let p : State = end_at v (other side) in
    let before : Holds (ticks w side) = k.order.each w (ticking side) tt holds in
    let out : Holds (ticked_out w side) = k.order.each (ticks w side) (flushing side) tt before in
    stirs_when k.laws w side (nat_lt p.handed (length p.taken)) (nat_lt (length p.taken) (length s.accepted))
    (stirs_out k w side holds linked (ltb-true s.acknowledged (length s.accepted) e)) refl refl
    (k.order.each (ticked_out w side) (arrival (length w.bag)) tt out)
stirs_by k w side false e holds linked = record {
  more = [];
  wire = All-nil (IsWire (length w.bag));
  comes = inr (ltb-false (end_at w side).acknowledged (length (end_at w side).accepted) e);
}

-- some steps of the wire, without a take
pub stirs : Kept → (w : World) (side : Side) → Holds w → Linked w → Stirs w side
stirs k w side = stirs_by k w side (nat_lt (end_at w side).acknowledged (length (end_at w side).accepted)) refl
