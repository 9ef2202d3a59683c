-- Two ends of a world: one asks, the other replies, and the next item goes over.
use Rattle.xns_spp.proofs.Lists.{All-slice_get}
use Rattle.std.proofs.Common.{◌≡◌, ℕ, ◌+◌, ◌-◌, ◌<◌, ◌≤◌, Bool, true, false, List, [], ◌∷◌, ◌++◌, length, map, nat_lt, Option, Some, None, refl, sym, ◌∙◌, ap, subst, arith, append-nil}
use Rattle.std.specs.Prelude.{slice_get, if◌then◌else◌, ◌||◌}
use Rattle.std.specs.Option.{option_to_list}
use Rattle.std.proofs.lemmas.List.{length-set, length-map}
use Rattle.xns_spp.specs.Ends.{is_open, is_ours_at}
use Rattle.xns_spp.specs.Fronts.{begins_length}
use Rattle.xns_spp.specs.Growth.{IsOwnPacket}
use Rattle.xns_spp.specs.Header.{wants_reply, brings_item, reply_control}
use Rattle.xns_spp.specs.Meant.{Meant, own_meant}
use Rattle.xns_spp.specs.Packet.{SppPacketModel, spelled, spp_packet_spelling, spp_packet_of}
use Rattle.xns_spp.specs.Peers.{IsLinked, IsHeard, Asks, IsNamed}
use Rattle.xns_spp.specs.Receiving.{receive_answer, after_receive}
use Rattle.xns_spp.specs.Sending.{data_packet, system_packet, tick_packets, tick_answer, after_tick, after_take}
use Rattle.xns_spp.specs.State.{State, window_top, send_limit}
use Rattle.item_world.proofs.Arrivals.{read_as_meant}
use Rattle.item_world.proofs.Fronts.{element}
use Rattle.item_world.proofs.Moves.{IsProper, IsProperAs, as_proper, item_proper_as, own_proper}
use Rattle.item_world.proofs.Sides.{same_end, same_other, same_marked, other_other}
use Rattle.item_world.specs.EndLaws.{EndLaws}
use Rattle.item_world.specs.Events.{SmallStep, IsStep, arrival, ticking, stepped}
use Rattle.item_world.specs.Later.{Later, as_sent}
use Rattle.item_world.specs.Invariant.{IsSoundSpelling, StandsBesidePeer, Holds}
use Rattle.item_world.specs.Landing.{with_arrival, landed, world_reached}
use Rattle.item_world.specs.Laws.{EachStepKeepsTheOrder}
use Rattle.item_world.specs.Progress.{Linked}
use Rattle.item_world.specs.Side.{other}
use Rattle.item_world.specs.World.{World, end_at, moment, emitted, moved, marked_delivered, lifetime, is_past, ticks, takes}
use Rattle.item_world.specs.declared.emitted.Emitted.{Emitted}
use Rattle.item_world.specs.declared.moment.Moment.{Moment}
use Rattle.item_world.specs.declared.side.Side.{Side}
use Rattle.item_world.specs.declared.side.Side.TheVariants.{A, B}

-- ---- two ends of a world

abbrev pub KeepsLinks : Type 0
KeepsLinks = (w : World) (s : SmallStep) → IsStep s → Holds w → Linked w → Linked (stepped w s)

-- the laws that all here stands on
pub record Kept : Type 0 where
  pub laws : EndLaws
  pub order : EachStepKeepsTheOrder
  pub links : KeepsLinks

-- the end at a side, and its peer
pub record Pair (w : World) (side : Side) (s p : State) : Type 0 where
  pub here : end_at w side ≡ s
  pub there : end_at w (other side) ≡ p
  pub holds : Holds w
  pub linked : Linked w

pub flip : (w : World) (side : Side) (s p : State) → Pair w side s p → Pair w (other side) p s
flip w side s p x = record { here = x.there; there = ap (end_at w) (other_other side) ∙ x.here; holds = x.holds; linked = x.linked }

pub stands : (w : World) (side : Side) (s p : State) → Pair w side s p → StandsBesidePeer s p
stands w side s p x = subst (λ (y : State). StandsBesidePeer s y) x.there (subst (λ (y : State). StandsBesidePeer y (end_at w (other side))) x.here (x.holds.ends side))

pub links : (w : World) (side : Side) (s p : State) → Pair w side s p → IsLinked s.ends p.ends
links w side s p x = subst (λ (y : State). IsLinked s.ends y.ends) x.there (subst (λ (y : State). IsLinked y.ends (end_at w (other side)).ends) x.here (x.linked.ends side))

-- of the packets that join a network the first lies behind all that were there
first_new : (bag : List Emitted) (f : List ℕ → Emitted) (bs : List (List ℕ)) (b : List ℕ) → slice_get bs 0 ≡ Some b
    → slice_get (bag ++ map f bs) (length bag) ≡ Some (f b)
first_new [] f [] b h = absurd (cc)
first_new [] f (c ∷ bs) b h = let at : c ≡ b = cc in ap (λ (y : List ℕ). Some (f y)) at
first_new (x ∷ bag) f bs b h = first_new bag f bs b h

-- ---- a tick

pub ticked : Kept → (w : World) (side : Side) (s p : State) → Pair w side s p → Pair (ticks w side) side (after_tick s) p
ticked k w side s p x = record {
  here = same_end w side (after_tick (end_at w side)) (tick_answer (end_at w side)) ∙ ap after_tick x.here;
  there = same_other w side (after_tick (end_at w side)) (tick_answer (end_at w side)) ∙ x.there;
  holds = k.order.each w (ticking side) tt x.holds;
  linked = k.links w (ticking side) tt x.holds x.linked;
}

pub ticked_packet : Kept → (w : World) (side : Side) (s p : State) (q : SppPacketModel) → Pair w side s p
    → slice_get (tick_packets s) 0 ≡ Some q
    → slice_get (ticks w side).bag (length w.bag) ≡ Some (emitted side (moment (after_tick s) p) (spp_packet_spelling q))
ticked_packet k w side s p q x h =
    let b : List ℕ = spp_packet_spelling q in
    let first : slice_get (tick_answer s) 0 ≡ Some b = k.laws.goes_out.resend_bytes s ∙ ap spelled h in
    first_new w.bag (emitted side (moment (after_tick (end_at w side)) (end_at w (other side)))) (tick_answer (end_at w side)) b (ap (λ (y : State). slice_get (tick_answer y) 0) x.here ∙ first)
    ∙ (ap (λ (y : State). Some (emitted side (moment (after_tick y) (end_at w (other side))) b)) x.here
    ∙ ap (λ (y : State). Some (emitted side (moment (after_tick s) y) b)) x.there)

-- ---- a packet comes that was just sent

pub is_alive : (at : Moment) (m n : ℕ) → at.sender ≡ m → at.receiver ≡ n → is_past at m n ≡ false
is_alive at m n a b =
    let c : m - at.sender ≡ 0 = omega arith in
    let d : n - at.receiver ≡ 0 = omega arith in
    ap (λ (i : ℕ). nat_lt lifetime i || nat_lt lifetime (n - at.receiver)) c ∙ ap (λ (i : ℕ). nat_lt lifetime 0 || nat_lt lifetime i) d

-- packet k was sent from this side and never delivered, and it lives
pub record IsNew (w : World) (side : Side) (s p : State) (k : ℕ) (bytes : List ℕ) : Type 0 where
  pub at : Moment
  pub is : slice_get w.bag k ≡ Some (emitted side at bytes)
  pub alive : is_past at (length s.taken) (length p.taken) ≡ false

pub living : (w : World) (side : Side) (s p : State) (at : Moment) → Pair w side s p
    → is_past at (length s.taken) (length p.taken) ≡ false
    → is_past at (length (end_at w side).taken) (length (end_at w (other side)).taken) ≡ false
living w side s p at x alive =
    ap (λ (t : State). is_past at (length t.taken) (length (end_at w (other side)).taken)) x.here
    ∙ (ap (λ (t : State). is_past at (length s.taken) (length t.taken)) x.there ∙ alive)

pub lands_now : (w : World) (side : Side) (s p : State) (k : ℕ) (bytes : List ℕ) → Pair w side s p
    → (i : IsNew w side s p k bytes) → stepped w (arrival k) ≡ with_arrival w k (emitted side i.at bytes)
lands_now w side s p k bytes x i =
    let y : Emitted = emitted side i.at bytes in
    let alive = living w side s p i.at x i.alive in
    ap (λ (o : Option Emitted). world_reached w (landed w k o)) i.is
    ∙ ap (λ (b : Bool). world_reached w (if b then None else Some (other side, with_arrival w k y))) alive

pub peer_moves : (w : World) (side : Side) (s : State) (bs : List (List ℕ))
    → end_at (moved w (other side) s bs) side ≡ end_at w side
peer_moves w A s bs = refl
peer_moves w B s bs = refl

pub arrived : Kept → (w : World) (side : Side) (s p : State) (k : ℕ) (bytes : List ℕ) → Pair w side s p
    → IsNew w side s p k bytes → Pair (stepped w (arrival k)) side s (after_receive p bytes)
arrived kept w side s p k bytes x i =
    let y : Emitted = emitted side i.at bytes in
    let e = lands_now w side s p k bytes x i in
    let t : State = end_at (marked_delivered w k y) (other side) in
    let bs : List (List ℕ) = option_to_list (receive_answer t bytes).reply in
    record {
      here = ap (λ (u : World). end_at u side) e ∙ (peer_moves (marked_delivered w k y) side (after_receive t bytes) bs ∙ (same_marked w k y side ∙ x.here));
      there = ap (λ (u : World). end_at u (other side)) e
          ∙ (same_end (marked_delivered w k y) (other side) (after_receive t bytes) bs ∙ ap (λ (t : State). after_receive t bytes) (same_marked w k y (other side) ∙ x.there));
      holds = kept.order.each w (arrival k) tt x.holds;
      linked = kept.links w (arrival k) tt x.holds x.linked;
    }

pub replied : (w : World) (side : Side) (s p : State) (k : ℕ) (bytes r : List ℕ) → Pair w side s p
    → IsNew w side s p k bytes → (receive_answer p bytes).reply ≡ Some r
    → slice_get (stepped w (arrival k)).bag (length w.bag) ≡ Some (emitted (other side) (moment (after_receive p bytes) s) r)
replied w side s p k bytes r x i h =
    let y : Emitted = emitted side i.at bytes in
    let v : World = marked_delivered w k y in
    let there : end_at v (other side) ≡ p = same_marked w k y (other side) ∙ x.there in
    let here : end_at v (other (other side)) ≡ s = ap (end_at v) (other_other side) ∙ (same_marked w k y side ∙ x.here) in
    let bs : List (List ℕ) = option_to_list (receive_answer (end_at v (other side)) bytes).reply in
    let first : slice_get bs 0 ≡ Some r =
    ap (λ (t : State). slice_get (option_to_list (receive_answer t bytes).reply) 0) there ∙ ap (λ (o : Option (List ℕ)). slice_get (option_to_list o) 0) h in
    let count : length v.bag ≡ length w.bag = length-set w.bag k _ in
    let f : List ℕ → Emitted = emitted (other side) (moment (after_receive (end_at v (other side)) bytes) (end_at v (other (other side)))) in
    ap (λ (u : World). slice_get u.bag (length w.bag)) (lands_now w side s p k bytes x i)
    ∙ (ap (λ (n : ℕ). slice_get (v.bag ++ map f bs) n) (sym count)
    ∙ (first_new v.bag f bs r first
    ∙ (ap (λ (t : State). Some (emitted (other side) (moment (after_receive t bytes) (end_at v (other (other side)))) r)) there
    ∙ ap (λ (t : State). Some (emitted (other side) (moment (after_receive p bytes) t) r)) here)))

-- ---- what an end sends is heard by its peer

pub proper_heard : EndLaws → (t p : State) (q : SppPacketModel) (m : Meant) → StandsBesidePeer t p → StandsBesidePeer p t
    → IsProperAs (moment t p) t q m → is_ours_at p.ends q ≡ true → IsHeard p (spp_packet_spelling q) q m
proper_heard laws t p q m to back i ours =
    let x : Emitted = emitted A (moment t p) (spp_packet_spelling q) in
    let j : IsSoundSpelling t p x = record {
      says = record { packet = q; meant = m; fits = i.fits; spells = refl; reduced = i.reduced; close = i.close };
      sound = i.sound;
      sender = omega arith;
      receiver = omega arith;
    } in
    record {
      read = ap spp_packet_of (sym (append-nil (spp_packet_spelling q))) ∙ laws.written.again q [] i.fits;
      ours = ours;
      numbers = read_as_meant laws p t x j back (is_alive (moment t p) (length t.taken) (length p.taken) refl refl);
      behind = omega (arith, i.sound.acknowledges, to.went_out);
    }

-- ---- the first packet of a tick

-- the first packet of an end's tick is q, which means m
pub record IsFirst (s p : State) (q : SppPacketModel) (m : Meant) : Type 0 where
  pub at : slice_get (tick_packets s) 0 ≡ Some q
  pub named : IsNamed s.ends q
  pub proper : IsProperAs (moment (after_tick s) p) (after_tick s) q m

-- what else is so of each first packet: it is in the bag after the tick, and is heard by the peer
pub tick_new : Kept → (w : World) (side : Side) (s p : State) (q : SppPacketModel) (m : Meant) → Pair w side s p → IsFirst s p q m
    → IsNew (ticks w side) side (after_tick s) p (length w.bag) (spp_packet_spelling q)
tick_new k w side s p q m x f =
    let t : State = after_tick s in
    record { at = moment t p; is = ticked_packet k w side s p q x f.at; alive = is_alive (moment t p) (length t.taken) (length p.taken) refl refl }

tick_heard : Kept → (w : World) (side : Side) (s p : State) (q : SppPacketModel) (m : Meant) → Pair w side s p → IsFirst s p q m
    → IsHeard p (spp_packet_spelling q) q m
tick_heard k w side s p q m x f =
    let t : State = after_tick s in
    let v : World = ticks w side in
    let y : Pair v side t p = ticked k w side s p x in
    let now : StandsBesidePeer t p = stands v side t p y in
    let back : StandsBesidePeer p t = stands v (other side) p t (flip v side t p y) in
    let ours : is_ours_at p.ends q ≡ true =
    k.laws.peers.ours s.ends p.ends q (stands w side s p x).fits.ends back.fits.ends (links w side s p x) (links w (other side) p s (flip w side s p x)) f.named in
    proper_heard k.laws t p q m now back f.proper ours

-- an end with an item that is not acknowledged asks
pub record TickAsks (s p : State) : Type 0 where
  pub packet : SppPacketModel
  pub meant : Meant
  pub first : IsFirst s p packet meant
  pub asks : wants_reply packet.header ≡ true

pub tick_asks : Kept → (w : World) (side : Side) (s p : State) → Pair w side s p → s.acknowledged < length s.accepted → TickAsks s p
tick_asks k w side s p x left =
    let laws : EndLaws = k.laws in
    let a : Asks s = laws.asks.asks s left in
    let q : SppPacketModel = a.packet in
    let t : State = after_tick s in
    let own : IsOwnPacket s t q = All-slice_get (IsOwnPacket s t) (tick_packets s) 0 q (laws.goes_out.tick s) a.first in
    let before : StandsBesidePeer s p = stands w side s p x in
    let now : StandsBesidePeer t p = stands (ticks w side) side t p (ticked k w side s p x) in
    let proper : IsProper (moment t p) t q = own_proper laws s t p q before now (laws.grows.tick s before.fits) (laws.hears.tick s).taken own in
    record {
      packet = q;
      meant = proper.meant;
      first = record { at = a.first; named = laws.peers.own s t q own; proper = as_proper (moment t p) t q proper };
      asks = a.asks;
    }

-- an open end sends the first item that is not acknowledged, where it may go out
pub record TickSends (s p : State) : Type 0 where
  pub packet : SppPacketModel
  pub first : IsFirst s p packet (own_meant s s.acknowledged)
  pub brings : brings_item packet.header ≡ true

pub tick_sends : Kept → (w : World) (side : Side) (s p : State) → Pair w side s p → is_open s.ends ≡ true
    → s.acknowledged < send_limit s → s.acknowledged < length s.accepted → TickSends s p
tick_sends k w side s p x ready may left =
    let laws : EndLaws = k.laws in
    let n : ℕ = s.acknowledged in
    let there = element s.accepted n left in
    let t : State = after_tick s in
    let before : StandsBesidePeer s p = stands w side s p x in
    let now : StandsBesidePeer t p = stands (ticks w side) side t p (ticked k w side s p x) in
    record {
      packet = data_packet s n there.0;
      first = record {
        at = laws.first_again.packet s there.0 ready there.1 may;
        named = laws.peers.item s n there.0;
        proper = item_proper_as laws s t p n there.0 before now (laws.grows.tick s before.fits) (laws.hears.tick s).taken there.1
            (omega arith) (omega (arith, laws.asks.sent s ready may, may));
      };
      brings = laws.says.brings s n there.0 ready;
    }

-- ---- an end asks, and is told

-- after a tick of an end, the first packet of the tick comes to the peer, which replies to the packet
pub record Asked (w : World) (side : Side) (s p : State) : Type 0 where
  pub bytes : List ℕ
  pub new : IsNew (ticks w side) side (after_tick s) p (length w.bag) bytes
  pub answer : (receive_answer p bytes).reply ≡ Some (spp_packet_spelling (system_packet (after_receive p bytes) reply_control))
  pub pair : Pair (stepped (ticks w side) (arrival (length w.bag))) side (after_tick s) (after_receive p bytes)
  pub reply : slice_get (stepped (ticks w side) (arrival (length w.bag))).bag (length (ticks w side).bag)
      ≡ Some (emitted (other side) (moment (after_receive p bytes) (after_tick s)) (spp_packet_spelling (system_packet (after_receive p bytes) reply_control)))

pub asked : Kept → (w : World) (side : Side) (s p : State) → Pair w side s p → s.acknowledged < length s.accepted
    → Asked w side s p
asked k w side s p x left =
    let a : TickAsks s p = tick_asks k w side s p x left in
    let t : State = after_tick s in
    let v : World = ticks w side in
    let y : Pair v side t p = ticked k w side s p x in
    let bytes : List ℕ = spp_packet_spelling a.packet in
    let new : IsNew v side t p (length w.bag) bytes = tick_new k w side s p a.packet a.meant x a.first in
    let reply = (k.laws.counts p bytes a.packet a.meant (tick_heard k w side s p a.packet a.meant x a.first)).reply a.asks in
    record {
      bytes = bytes;
      new = new;
      answer = reply;
      pair = arrived k v side t p (length w.bag) bytes y new;
      reply = replied v side t p (length w.bag) bytes (spp_packet_spelling (system_packet (after_receive p bytes) reply_control)) y new reply;
    }

-- an open end that knows what its peer has taken and has room for
pub record Knows (w : World) (side : Side) (s p : State) : Type 0 where
  pub pair : Pair w side s p
  pub ready : is_open s.ends ≡ true
  pub acknowledged : length p.taken ≤ s.acknowledged
  pub allowed : window_top p < s.allowed

-- ---- the next item goes out, and is taken

pub record Goes (w : World) (side : Side) (s p : State) : Type 0 where
  pub bytes : List ℕ
  pub new : IsNew (ticks w side) side (after_tick s) p (length w.bag) bytes
  pub pair : Pair (stepped (ticks w side) (arrival (length w.bag))) side (after_tick s) (after_receive p bytes)
  pub takes : length p.taken < length (after_receive p bytes).taken

pub goes : Kept → (w : World) (side : Side) (s p : State) → Knows w side s p → p.handed ≡ length p.taken
    → length p.taken < length s.accepted → Goes w side s p
goes k w side s p knows none left =
    let x : Pair w side s p = knows.pair in
    let before : StandsBesidePeer s p = stands w side s p x in
    let here : StandsBesidePeer p s = stands w (other side) p s (flip w side s p x) in
    let n : ℕ = s.acknowledged in
    let next : n ≡ length p.taken = omega (arith, knows.acknowledged, before.acknowledged) in
    let room : length p.taken ≤ window_top p = omega (arith, none, here.fits.ends.window_least, before.fits.bounds.accepted_most, left) in
    let a : TickSends s p = tick_sends k w side s p x knows.ready (omega (arith, next, room, knows.allowed, left)) (omega (arith, next, left)) in
    let q : SppPacketModel = a.packet in
    let bytes : List ℕ = spp_packet_spelling q in
    let new : IsNew (ticks w side) side (after_tick s) p (length w.bag) bytes = tick_new k w side s p q (own_meant s n) x a.first in
    record {
      bytes = bytes;
      new = new;
      pair = arrived k (ticks w side) side (after_tick s) p (length w.bag) bytes (ticked k w side s p x) new;
      takes = (k.laws.counts p bytes q (own_meant s n) (tick_heard k w side s p q (own_meant s n) x a.first)).takes a.brings next room;
    }

-- ---- one item more is handed up

pub handing_one : EndLaws → (p : State) → p.handed < length p.taken → (after_take p).handed ≡ p.handed + 1
handing_one laws p lt = let e = element p.taken p.handed lt in ap (λ (t : State). t.handed) (laws.hands_up.some p e.0 e.1)

-- the peer hands up the item that waits
pub took : EndLaws → (w : World) (side : Side) (s p : State) → Pair w side s p → p.handed < length p.taken
    → (end_at (takes w (other side)) (other side)).handed ≡ p.handed + 1
took laws w side s p x lt =
    ap (λ (t : State). t.handed) (same_end w (other side) (after_take (end_at w (other side))) [] ∙ ap after_take x.there) ∙ handing_one laws p lt

pub longer : (u v : World) → Later u v → length u.bag ≤ length v.bag
longer u v l = omega (arith, begins_length (map as_sent u.bag) (map as_sent v.bag) l.bag, length-map u.bag as_sent, length-map v.bag as_sent)
