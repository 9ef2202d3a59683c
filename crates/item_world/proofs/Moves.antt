-- What each call of an end keeps, beside its peer, and that what the packets say which it sends is true.
use Rattle.std.proofs.Common.{◌≡◌, inl, inr, ℕ, ◌<◌, ◌≤◌, Bool, true, List, [], ◌∷◌, length, map, Option, Some, None, refl, sym, ◌∙◌, ap, subst, arith}
use Rattle.std.specs.Option.{option_to_list}
use Rattle.std.specs.Prelude.{All, slice_get}
use Rattle.std.proofs.lemmas.List.Elements.{All-nil, All-cons, All-weaker}
use Rattle.xns_spp.proofs.Growing.{grows_itself}
use Rattle.xns_spp.specs.Growth.{Begins, Grows, HearsNothing, IsOwnPacket}
use Rattle.xns_spp.specs.Header.{system_bit, has_bit}
use Rattle.xns_spp.specs.Item.{IsItem, item_in}
use Rattle.xns_spp.specs.Meant.{Meant, IsReduced, own_meant}
use Rattle.xns_spp.specs.Packet.{SppPacketModel, IsSppPacket, spelled, spp_packet_spelling}
use Rattle.xns_spp.specs.Sending.{data_packet, system_packet, after_send, after_take, flush_answer, after_flush, tick_answer, after_tick}
use Rattle.xns_spp.specs.State.{State, IsState, window_top}
use Rattle.xns_spp.specs.Telling.{told_packet, told_answer, resend_packet, resend_answer, after_resend}
use Rattle.xns_spp.specs.declared.item.Item.{Item}
use Rattle.item_world.specs.EndLaws.{EndLaws}
use Rattle.item_world.specs.Invariant.{IsClose, IsCloseTo, IsSoundPacket, StandsBesidePeer}
use Rattle.item_world.specs.World.{moment}
use Rattle.item_world.specs.declared.moment.Moment.{Moment}
use Rattle.xns_spp.specs.Fronts.{begins_length}
use Rattle.item_world.proofs.Fronts.{begins_get}

-- a packet that is sent
pub record IsProper (at : Moment) (s : State) (p : SppPacketModel) : Type 0 where
  pub meant : Meant
  pub fits : IsSppPacket p
  pub reduced : IsReduced p.header meant
  pub close : IsCloseTo at meant
  pub sound : IsSoundPacket s p meant

-- a packet of an end that says these numbers
pub record IsProperAs (at : Moment) (s : State) (p : SppPacketModel) (meant : Meant) : Type 0 where
  pub fits : IsSppPacket p
  pub reduced : IsReduced p.header meant
  pub close : IsCloseTo at meant
  pub sound : IsSoundPacket s p meant

pub proper_as : (at : Moment) (s : State) (p : SppPacketModel) (m : Meant) → IsProperAs at s p m → IsProper at s p
proper_as at s p m i = record { meant = m; fits = i.fits; reduced = i.reduced; close = i.close; sound = i.sound }

pub as_proper : (at : Moment) (s : State) (p : SppPacketModel) → (i : IsProper at s p) → IsProperAs at s p i.meant
as_proper at s p i = record { fits = i.fits; reduced = i.reduced; close = i.close; sound = i.sound }

-- what there is room for is close to what was taken
top_close : EndLaws → (s : State) → IsState s → IsClose (window_top s) (length s.taken)
top_close laws s fits = record { least = omega (arith, laws.room.least s fits); most = omega (arith, laws.room.most s fits, fits.ends.window_most) }

close_itself : (n : ℕ) → IsClose n n
close_itself n = record { least = omega arith; most = omega arith }

pub stays_sound : (s t : State) (p : SppPacketModel) (m : Meant) → Grows s t → IsSoundPacket s p m → IsSoundPacket t p m
stays_sound s t p m g sound = record {
  carries = λ d. begins_get s.accepted t.accepted m.sequence (item_in p) g.accepted (sound.carries d);
  went_out = λ d. let before : m.sequence < s.sent = sound.went_out d in omega (arith, g.sent);
  acknowledges = omega (arith, sound.acknowledges, begins_length s.taken t.taken g.taken);
  allows = omega (arith, sound.allows, g.top);
}

-- s goes on as t, beside its peer, and sends packets, which these bytes spell
pub record Sends (s t peer : State) (bytes : List (List ℕ)) : Type 0 where
  pub grows : Grows s t
  pub stands : StandsBesidePeer t peer
  pub packets : List SppPacketModel
  pub spells : bytes ≡ map spp_packet_spelling packets
  pub proper : All (IsProper (moment t peer) t) packets

-- what went out is close to what the peer has taken
pub sent_close : (s peer : State) → StandsBesidePeer s peer → IsClose s.sent (length peer.taken)
sent_close s peer k = record {
  least = omega (arith, k.reached);
  most = omega (arith, k.acknowledged, k.fits.bounds.sent_accepted, k.fits.bounds.backlog_holds, k.fits.ends.backlog_most);
}

-- ---- packets

-- a packet without an item, as s goes on as t and takes nothing
pub system_proper_as : EndLaws → (s t peer : State) (control : ℕ) → StandsBesidePeer s peer → window_top s ≤ window_top t → t.taken ≡ s.taken → control < 256 → has_bit control system_bit ≡ true
    → IsProperAs (moment t peer) t (system_packet s control) (own_meant s s.sent)
system_proper_as laws s t peer control k top same h is = record {
  fits = laws.packets.system_packet s control k.fits h;
  reduced = laws.says.system_fields s control;
  close = record {
    sequence = sent_close s peer k;
    acknowledge = subst (λ (l : List Item). IsClose (length s.taken) (length l)) (sym same) (close_itself (length s.taken));
    allocation = subst (λ (l : List Item). IsClose (own_meant s s.sent).allocation (length l)) (sym same) (top_close laws s k.fits);
  };
  sound = record { carries = λ d. absurd (cc (laws.says.none s control is)); went_out = λ d. absurd (cc (laws.says.none s control is)); acknowledges = omega (arith, ap length same); allows = top };
}

pub system_proper : EndLaws → (s t peer : State) (control : ℕ) → StandsBesidePeer s peer → window_top s ≤ window_top t → t.taken ≡ s.taken → control < 256 → has_bit control system_bit ≡ true → IsProper (moment t peer) t (system_packet s control)
system_proper laws s t peer control k top same h is = proper_as (moment t peer) t (system_packet s control) (own_meant s s.sent) (system_proper_as laws s t peer control k top same h is)

-- the packet of an item
pub item_proper_as : EndLaws → (s t peer : State) (i : ℕ) (x : Item) → StandsBesidePeer s peer → StandsBesidePeer t peer → Grows s t → t.taken ≡ s.taken → slice_get s.accepted i ≡ Some x → s.acknowledged ≤ i → i < t.sent
    → IsProperAs (moment t peer) t (data_packet s i x) (own_meant s i)
item_proper_as laws s t peer i x k now g same is from to = record {
  fits = laws.packets.data_packet s i x k.fits is;
  reduced = laws.says.item_fields s i x;
  close = record {
    sequence = record {
      least = omega (arith, from, k.reached, k.fits.bounds.sent_accepted, k.fits.bounds.backlog_holds, k.fits.ends.backlog_most);
      most = omega (arith, to, now.acknowledged, now.fits.bounds.sent_accepted, now.fits.bounds.backlog_holds, now.fits.ends.backlog_most);
    };
    acknowledge = subst (λ (l : List Item). IsClose (length s.taken) (length l)) (sym same) (close_itself (length s.taken));
    allocation = subst (λ (l : List Item). IsClose (own_meant s i).allocation (length l)) (sym same) (top_close laws s k.fits);
  };
  sound = record {
    carries = λ d. begins_get s.accepted t.accepted i x g.accepted is ∙ ap (λ (y : Item). Some y) (sym (laws.says.item s i x));
    went_out = λ d. to;
    acknowledges = begins_length s.taken t.taken g.taken;
    allows = g.top;
  };
}

item_proper : EndLaws → (s t peer : State) (i : ℕ) (x : Item) → StandsBesidePeer s peer → StandsBesidePeer t peer → Grows s t → t.taken ≡ s.taken → slice_get s.accepted i ≡ Some x → s.acknowledged ≤ i → i < t.sent → IsProper (moment t peer) t (data_packet s i x)
item_proper laws s t peer i x k now g same is from to = proper_as (moment t peer) t (data_packet s i x) (own_meant s i) (item_proper_as laws s t peer i x k now g same is from to)

pub own_proper : EndLaws → (s t peer : State) (p : SppPacketModel) → StandsBesidePeer s peer → StandsBesidePeer t peer → Grows s t → t.taken ≡ s.taken → IsOwnPacket s t p → IsProper (moment t peer) t p
own_proper laws s t peer p k now g same (inl i) =
    subst (IsProper (moment t peer) t) (sym i.is) (system_proper laws s t peer i.control k g.top same i.small i.system)
own_proper laws s t peer p k now g same (inr i) =
    subst (IsProper (moment t peer) t) (sym i.is) (item_proper laws s t peer i.number i.item k now g same i.accepted i.unacknowledged i.sent)

-- ---- what an end does of itself

-- an end goes on that hears nothing
on_stands : (s t peer : State) → IsState t → Grows s t → HearsNothing s t → StandsBesidePeer s peer → StandsBesidePeer t peer
on_stands s t peer fits g h k = record {
  fits = fits;
  taken = subst (λ (l : List Item). Begins l peer.accepted) (sym h.taken) k.taken;
  went_out = subst (λ (l : List Item). length l ≤ peer.sent) (sym h.taken) k.went_out;
  early = λ j x e. k.early j x (sym (ap (λ (f : ℕ → Option Item). f j) h.early) ∙ e);
  acknowledged = subst (λ (n : ℕ). n ≤ length peer.taken) (sym h.acknowledged) k.acknowledged;
  reached = omega (arith, k.reached, g.sent);
}

-- an end that grows, hears nothing and sends packets of its own
sends_own : EndLaws → (s t peer : State) (ps : List SppPacketModel) (bytes : List (List ℕ)) → bytes ≡ map spp_packet_spelling ps → IsState t → Grows s t → HearsNothing s t → All (IsOwnPacket s t) ps → StandsBesidePeer s peer → Sends s t peer bytes
sends_own laws s t peer ps bytes spells fits grows hears own k =
    let now = on_stands s t peer fits grows hears k in
    record {
      grows = grows;
      stands = now;
      packets = ps;
      spells = spells;
      proper = All-weaker (IsOwnPacket s t) (IsProper (moment t peer) t) (λ p i. own_proper laws s t peer p k now grows hears.taken i) ps own;
    }

pub flush_sends : EndLaws → (s peer : State) → StandsBesidePeer s peer → Sends s (after_flush s) peer (flush_answer s)
flush_sends laws s peer k =
    sends_own laws s (after_flush s) peer _ _ (laws.goes_out.flush_bytes s) (laws.bounds.flush s k.fits) (laws.grows.flush s k.fits) (laws.hears.flush s) (laws.goes_out.flush s k.fits) k

pub tick_sends : EndLaws → (s peer : State) → StandsBesidePeer s peer → Sends s (after_tick s) peer (tick_answer s)
tick_sends laws s peer k = sends_own laws s (after_tick s) peer _ _ (laws.goes_out.tick_bytes s) (laws.bounds.tick s k.fits) (laws.grows.tick s k.fits) (laws.hears.tick s) (laws.goes_out.tick s) k

pub take_sends : EndLaws → (s peer : State) → StandsBesidePeer s peer → Sends s (after_take s) peer []
take_sends laws s peer k = sends_own laws s (after_take s) peer [] [] refl (laws.bounds.take s k.fits) (laws.grows.take s) (laws.hears.take s) (All-nil (IsOwnPacket s (after_take s))) k

pub send_sends : EndLaws → (s peer : State) (x : Item) → IsItem x → StandsBesidePeer s peer → Sends s (after_send s x) peer []
send_sends laws s peer x fits k =
    sends_own laws s (after_send s x) peer [] [] refl (laws.bounds.send s x k.fits fits) (laws.grows.send s x) (laws.hears.send s x) (All-nil (IsOwnPacket s (after_send s x))) k

-- a packet that an end may send
sends_one : EndLaws → (s t peer : State) (o : Option SppPacketModel) (answer : Option (List ℕ)) → answer ≡ spelled o → IsState t → Grows s t → HearsNothing s t → ((p : SppPacketModel) → o ≡ Some p → IsOwnPacket s t p) → StandsBesidePeer s peer
    → Sends s t peer (option_to_list answer)
sends_one laws s t peer None answer is fits grows hears own k = sends_own laws s t peer [] _ (ap option_to_list is) fits grows hears (All-nil (IsOwnPacket s t)) k
sends_one laws s t peer (Some p) answer is fits grows hears own k =
    sends_own laws s t peer (p ∷ []) _ (ap option_to_list is) fits grows hears (All-cons (IsOwnPacket s t) p [] (own p refl) (All-nil (IsOwnPacket s t))) k

pub resend_sends : EndLaws → (s peer : State) → StandsBesidePeer s peer → Sends s (after_resend s) peer (option_to_list (resend_answer s))
resend_sends laws s peer k =
    sends_one laws s (after_resend s) peer (resend_packet s) _ (laws.goes_out.resend_bytes s) (laws.bounds.resend s k.fits) (laws.grows.resend s) (laws.hears.resend s) (laws.goes_out.resend s) k

pub told_sends : EndLaws → (s peer : State) (asks : Bool) → StandsBesidePeer s peer → Sends s s peer (option_to_list (told_answer s asks))
told_sends laws s peer asks k =
    sends_one laws s s peer (told_packet s asks) _ (laws.goes_out.told_bytes s asks) k.fits (grows_itself s) (record { taken = refl; early = refl; acknowledged = refl }) (laws.goes_out.told s asks) k
