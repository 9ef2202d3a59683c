-- A packet that is on its way is heard when it comes, however both ends went on since.
use Rattle.std.proofs.Common.{◌≡◌, ℕ, ◌+◌, ◌-◌, ◌<◌, ◌≤◌, Bool, true, false, List, [], length, nat_lt, Some, refl, sym, ◌∙◌, ap, arith, append-nil, lit<}
use Rattle.std.specs.Prelude.{slice_get, ◌||◌}
use Rattle.std.proofs.lemmas.Bool.{le-ltb}
use Rattle.xns_spp.specs.Ends.{IsEnds}
use Rattle.xns_spp.specs.Fronts.{begins_length}
use Rattle.xns_spp.specs.Header.{wants_reply, reply_control}
use Rattle.xns_spp.specs.Meant.{Meant, own_meant}
use Rattle.xns_spp.specs.Numbers.{most_items}
use Rattle.xns_spp.specs.Packet.{SppPacketModel, spp_packet_spelling, spp_packet_of}
use Rattle.xns_spp.specs.Peers.{IsLinked, IsNamed, IsHeard, Counts}
use Rattle.xns_spp.specs.Receiving.{after_receive}
use Rattle.xns_spp.specs.Sending.{system_packet, after_flush, after_tick}
use Rattle.xns_spp.specs.State.{State, window_top}
use Rattle.xns_spp.specs.declared.ends.Ends.{Ends}
use Rattle.xns_spp.specs.declared.item.Item.{Item}
use Rattle.item_world.proofs.Arrivals.{read_as_meant}
use Rattle.item_world.proofs.Deliveries.{delivers_now, delivered, still_there}
use Rattle.item_world.proofs.Linking.{SameNames, peer_on, same_names, names_then, names_back}
use Rattle.item_world.proofs.Moves.{IsProperAs, stays_sound, system_proper_as}
use Rattle.item_world.proofs.Onward.{Kept, Pair, flip, stands, links, IsNew, arrived, replied, IsFirst, ticked_packet}
use Rattle.item_world.proofs.Going.{EndGoes, flush_goes}
use Rattle.item_world.specs.EndLaws.{EndLaws}
use Rattle.item_world.specs.Events.{arrival, stepped, delivers}
use Rattle.item_world.specs.Invariant.{IsSoundSpelling, StandsBesidePeer}
use Rattle.item_world.specs.Side.{other}
use Rattle.item_world.specs.World.{World, moment, emitted, lifetime, is_past, ticks}
use Rattle.item_world.specs.declared.emitted.Emitted.{Emitted}
use Rattle.item_world.specs.declared.moment.Moment.{Moment}
use Rattle.item_world.specs.declared.side.Side.{Side}
use Rattle.item_world.specs.declared.side.Side.TheVariants.{A}

-- packet k of the bag is one of s to p, never delivered, that was sent when they had taken so many items at least
pub record OnItsWay (bag : List Emitted) (side : Side) (s p : State) (k : ℕ) (q : SppPacketModel) (m : Meant) (least_s least_p : ℕ) : Type 0 where
  pub at : Moment
  pub is : slice_get bag k ≡ Some (emitted side at (spp_packet_spelling q))
  pub proper : IsProperAs at s q m
  pub from : Ends
  pub fits : IsEnds from
  pub named : IsNamed from q
  pub same : SameNames from s.ends
  pub links : IsLinked from p.ends
  pub sender_least : least_s ≤ at.sender
  pub sender : at.sender ≤ length s.taken
  pub receiver_least : least_p ≤ at.receiver
  pub receiver : at.receiver ≤ length p.taken

pub way_on : (bag more : List Emitted) (side : Side) (s t p r : State) (k : ℕ) (q : SppPacketModel) (m : Meant) (least_s least_p n : ℕ)
    → EndGoes n s t → EndGoes n p r
    → (i : OnItsWay bag side s p k q m least_s least_p) → slice_get more k ≡ Some (emitted side i.at (spp_packet_spelling q))
    → OnItsWay more side t r k q m least_s least_p
way_on bag more side s t p r k q m least_s least_p n a b i is = record {
  at = i.at;
  is = is;
  proper = record { fits = i.proper.fits; reduced = i.proper.reduced; close = i.proper.close; sound = stays_sound s t q m a.grows i.proper.sound };
  from = i.from;
  fits = i.fits;
  named = i.named;
  same = names_then i.from s.ends t.ends i.same a.names;
  links = peer_on p.ends r.ends i.from b.names i.links;
  sender_least = i.sender_least;
  sender = omega (arith, i.sender, begins_length s.taken t.taken a.grows.taken);
  receiver_least = i.receiver_least;
  receiver = omega (arith, i.receiver, begins_length p.taken r.taken b.grows.taken);
}

young_alive : (at : Moment) (m n least_s least_p : ℕ) → least_s ≤ at.sender → least_p ≤ at.receiver → m ≤ least_s + 200
    → n ≤ least_p + 200
    → is_past at m n ≡ false
young_alive at m n least_s least_p a b c d =
    let old_s : m - at.sender ≤ lifetime = omega (arith, a, c) in
    let old_p : n - at.receiver ≤ lifetime = omega (arith, b, d) in
    ap (λ (x : Bool). x || nat_lt lifetime (n - at.receiver)) (le-ltb lifetime (m - at.sender) old_s) ∙ le-ltb lifetime (n - at.receiver) old_p

-- a packet comes, and counts at the end that hears it
pub record Comes (w : World) (side : Side) (s p : State) (k : ℕ) (q : SppPacketModel) (m : Meant) : Type 0 where
  pub new : IsNew w side s p k (spp_packet_spelling q)
  pub counts : Counts p (spp_packet_spelling q) q m
  pub pair : Pair (delivers w k) side s (after_flush (after_receive p (spp_packet_spelling q)))

pub comes : Kept → (w : World) (side : Side) (s p : State) (k : ℕ) (q : SppPacketModel) (m : Meant) (least_s least_p : ℕ)
    → Pair w side s p
    → OnItsWay w.bag side s p k q m least_s least_p → length s.taken ≤ least_s + 200 → length p.taken ≤ least_p + 200
    → Comes w side s p k q m
comes kept w side s p k q m least_s least_p x i young_s young_p =
    let laws : EndLaws = kept.laws in
    let bytes : List ℕ = spp_packet_spelling q in
    let alive = young_alive i.at (length s.taken) (length p.taken) least_s least_p i.sender_least i.receiver_least young_s young_p in
    let to : StandsBesidePeer s p = stands w side s p x in
    let back : StandsBesidePeer p s = stands w (other side) p s (flip w side s p x) in
    let y : Emitted = emitted A i.at bytes in
    let j : IsSoundSpelling s p y = record {
      says = record { packet = q; meant = m; fits = i.proper.fits; spells = refl; reduced = i.proper.reduced; close = i.proper.close };
      sound = i.proper.sound;
      sender = i.sender;
      receiver = i.receiver;
    } in
    let linked : IsLinked p.ends i.from = peer_on s.ends i.from p.ends (names_back i.from s.ends i.same) (links w (other side) p s (flip w side s p x)) in
    let heard : IsHeard p bytes q m = record {
      read = ap spp_packet_of (sym (append-nil bytes)) ∙ laws.written.again q [] i.proper.fits;
      ours = laws.peers.ours i.from p.ends q i.fits back.fits.ends i.links linked i.named;
      numbers = read_as_meant laws p s y j back alive;
      behind = omega (arith, i.proper.sound.acknowledges, back.acknowledged, back.reached, to.went_out);
    } in
    let new : IsNew w side s p k bytes = record { at = i.at; is = i.is; alive = alive } in
    record { new = new; counts = laws.counts p bytes q m heard; pair = delivered kept w side s p k bytes x new }

-- the end's reply is on its way, and tells what the end has taken and has room for
pub record Replies (w : World) (side : Side) (o s p : State) (k : ℕ) : Type 0 where
  pub way : OnItsWay (delivers w k).bag (other side) (after_flush o) s (length w.bag) (system_packet o reply_control) (own_meant o o.sent)
      p.handed s.handed
  pub acknowledges : p.handed ≤ length o.taken
  pub allows : p.handed < most_items → p.handed ≤ window_top o
  pub named : 0 < (system_packet o reply_control).header.source_id

pub replies : Kept → (w : World) (side : Side) (s p : State) (k : ℕ) (q : SppPacketModel) (m : Meant) → Pair w side s p
    → Comes w side s p k q m
    → wants_reply q.header ≡ true → Replies w side (after_receive p (spp_packet_spelling q)) s p k
replies kept w side s p k q m x c asks =
    let laws : EndLaws = kept.laws in
    let bytes : List ℕ = spp_packet_spelling q in
    let o : State = after_receive p bytes in
    let r : SppPacketModel = system_packet o reply_control in
    let v : World = stepped w (arrival k) in
    let y : Pair v side s o = arrived kept w side s p k bytes x c.new in
    let to : StandsBesidePeer o s = stands v (other side) o s (flip v side s o y) in
    let out : EndGoes 0 o (after_flush o) = flush_goes laws o to.fits in
    let there = replied w side s p k bytes (spp_packet_spelling r) x c.new (c.counts.reply asks) in
    let proper : IsProperAs (moment o s) o r (own_meant o o.sent) = system_proper_as laws o o s reply_control to (omega arith) refl (lit< tt) refl in
    let before : StandsBesidePeer s p = stands w side s p x in
    let here : StandsBesidePeer p s = stands w (other side) p s (flip w side s p x) in
    let grew = begins_length p.taken o.taken (laws.grows.receive p bytes).taken in
    let way : OnItsWay (delivers w k).bag (other side) (after_flush o) s (length w.bag) r (own_meant o o.sent) p.handed s.handed = record {
      at = moment o s;
      is = still_there v (delivers w k) (other side) (length w.bag) _ (delivers_now w side s p k bytes x c.new) there;
      proper = record { fits = proper.fits; reduced = proper.reduced; close = proper.close; sound = stays_sound o (after_flush o) r (own_meant o o.sent) out.grows proper.sound };
      from = o.ends;
      fits = to.fits.ends;
      named = laws.peers.system o reply_control;
      same = out.names;
      links = links v (other side) o s (flip v side s o y);
      sender_least = omega (arith, here.fits.bounds.handed_taken, grew);
      sender = begins_length o.taken (after_flush o).taken out.grows.taken;
      receiver_least = before.fits.bounds.handed_taken;
      receiver = omega arith;
    } in
    record {
      way = way;
      acknowledges = omega (arith, here.fits.bounds.handed_taken, grew);
      allows = λ few. omega (arith, few, (laws.stays.receive p bytes).handed, to.fits.ends.window_least);
      named = to.fits.ends.id_known;
    }

-- ---- the first packet of a tick

pub tick_way : Kept → (w : World) (side : Side) (s p : State) (q : SppPacketModel) (m : Meant) → Pair w side s p → IsFirst s p q m
    → OnItsWay (ticks w side).bag side (after_tick s) p (length w.bag) q m s.handed p.handed
tick_way k w side s p q m x first =
    let laws : EndLaws = k.laws in
    let before : StandsBesidePeer s p = stands w side s p x in
    let back : StandsBesidePeer p s = stands w (other side) p s (flip w side s p x) in
    record {
      at = moment (after_tick s) p;
      is = ticked_packet k w side s p q x first.at;
      proper = first.proper;
      from = s.ends;
      fits = before.fits.ends;
      named = first.named;
      same = same_names s.ends (after_tick s).ends (ap (λ (t : State). t.ends) (laws.alone.tick s));
      links = links w side s p x;
      sender_least = omega (arith, before.fits.bounds.handed_taken, ap (length {A = Item}) (laws.hears.tick s).taken);
      sender = omega arith;
      receiver_least = back.fits.bounds.handed_taken;
      receiver = omega arith;
    }
