-- What each small step leaves of the ends' addresses and identifiers, and that each packet of the bag tells its sender's.
use Rattle.std.proofs.Common.{◌≡◌, ◌⊎◌, inl, inr, ℕ, Bool, true, false, List, [], ◌∷◌, map, Option, Some, None, Ok, refl, sym, ◌∙◌, ap, subst, append-nil, lit<}
use Rattle.std.specs.Prelude.{slice_get, All, is_ok}
use Rattle.std.specs.Option.{option_to_list}
use Rattle.std.proofs.lemmas.List.Elements.{All-nil, All-cons, All-append, All-map, All-set, All-weaker, All-head, All-tail}
use Rattle.xns_spp.proofs.Lists.{All-slice_get}
use Rattle.xns_spp.specs.Growth.{IsOwnPacket}
use Rattle.xns_spp.specs.Header.{reply_control}
use Rattle.xns_spp.specs.Packet.{SppPacketModel, IsSppPacket, spelled, spp_packet_spelling, spp_packet_of}
use Rattle.xns_spp.specs.Peers.{IsLinked, IsNamed, Learns}
use Rattle.xns_spp.specs.Receiving.{receive_answer, after_receive}
use Rattle.xns_spp.specs.Sending.{system_packet, send_answer, after_send, take_answer, after_take, flush_packets, flush_answer, after_flush, tick_packets, tick_answer, after_tick}
use Rattle.xns_spp.specs.State.{State, IsState}
use Rattle.xns_spp.specs.Telling.{resend_packet, resend_answer, after_resend, told_packet, told_answer}
use Rattle.xns_spp.specs.declared.ends.Ends.{Ends}
use Rattle.xns_spp.specs.declared.item.Item.{Item}
use Rattle.xns_spp.specs.declared.role.Role.TheVariants.{Responder}
use Rattle.item_world.proofs.Onward.{KeepsLinks}
use Rattle.item_world.proofs.Sides.{same_end, same_marked, other_other, each_side, has_landed, noise_changes_nothing}
use Rattle.item_world.specs.EndLaws.{EndLaws}
use Rattle.item_world.specs.Events.{arrival, noise, sending, taking, flushing, ticking, resending, telling}
use Rattle.item_world.specs.Invariant.{Holds}
use Rattle.item_world.specs.Landing.{with_arrival, landing, world_reached}
use Rattle.item_world.specs.Laws.{EachStepKeepsTheOrder}
use Rattle.item_world.specs.Progress.{IsFrom, Linked}
use Rattle.item_world.specs.Side.{other}
use Rattle.item_world.specs.World.{World, end_at, start, moment, emitted, moved, marked_delivered}
use Rattle.item_world.specs.declared.emitted.Emitted.{Emitted}
use Rattle.item_world.specs.declared.setup.Setup.{Setup}
use Rattle.item_world.specs.declared.side.Side.{Side}
use Rattle.item_world.specs.declared.side.Side.TheVariants.{A, B}

-- ---- an end's own names stay

-- an end keeps its address, identifier and role; those of its peer may be learned
pub record SameNames (e f : Ends) : Type 0 where
  pub own : f.own ≡ e.own
  pub id : f.id ≡ e.id
  pub role : f.role ≡ e.role

pub same_names : (e f : Ends) → f ≡ e → SameNames e f
same_names e f is = record { own = ap (λ (x : Ends). x.own) is; id = ap (λ (x : Ends). x.id) is; role = ap (λ (x : Ends). x.role) is }

pub names_then : (d e f : Ends) → SameNames d e → SameNames e f → SameNames d f
names_then d e f a b = record { own = b.own ∙ a.own; id = b.id ∙ a.id; role = b.role ∙ a.role }

pub names_back : (e f : Ends) → SameNames e f → SameNames f e
names_back e f a = record { own = sym a.own; id = sym a.id; role = sym a.role }

from_on : (e f : Ends) (b : List ℕ) → SameNames e f → IsFrom e b → IsFrom f b
from_on e f b n h p is = let was = h p is in (was.0 ∙ sym n.own, was.1 ∙ sym n.id)

pub peer_on : (e f d : Ends) → SameNames e f → IsLinked d e → IsLinked d f
peer_on e f d n l = record {
  peer = l.peer ∙ sym n.own;
  peer_id = elim (l.peer_id) as (λ o. (d.peer_id ≡ 0) ⊎ (d.peer_id ≡ f.id)) [ inl none ↦ inl none | inr same ↦ inr (same ∙ sym n.id) ];
  one = elim (l.one) as (λ o. (d.role ≡ Responder) ⊎ (f.role ≡ Responder)) [ inl a ↦ inl a | inr b ↦ inr (n.role ∙ b) ];
}

-- an end moves: it keeps its names, is linked to its peer, and sends packets that tell its names
moved_links : (w : World) (side : Side) (t : State) (bs : List (List ℕ)) → SameNames (end_at w side).ends t.ends
    → IsLinked t.ends (end_at w (other side)).ends → All (IsFrom (end_at w side).ends) bs → Linked w
    → Linked (moved w side t bs)
moved_links w side t bs n l sent k =
    let v : World = moved w side t bs in
    let s : State = end_at w side in
    let at : List ℕ → Emitted = emitted side (moment t (end_at w (other side))) in
    let P : World → Emitted → Type 0 = λ u x. IsFrom (end_at u x.side).ends x.bytes in
    record {
      ends = λ u. each_side w side t bs (λ x y. IsLinked x.ends y.ends) (λ h. l) (λ h. peer_on s.ends t.ends (end_at w (other side)).ends n h) u (k.ends u);
      bag = All-append (P v) w.bag (map at bs)
          (All-weaker (P w) (P v) (λ x i. each_side w side t bs (λ y z. IsFrom y.ends x.bytes) (from_on s.ends t.ends x.bytes n) (λ h. h) x.side i) w.bag k.bag)
          (All-map (P v) at bs
          (All-weaker (IsFrom s.ends) (λ b. P v (at b)) (λ b i. subst (λ (y : State). IsFrom y.ends b) (sym (same_end w side t bs)) (from_on s.ends t.ends b n i)) bs sent));
    }

-- an end that learns nothing
stays_links : (w : World) (side : Side) (t : State) (bs : List (List ℕ)) → t.ends ≡ (end_at w side).ends
    → All (IsFrom (end_at w side).ends) bs → Linked w → Linked (moved w side t bs)
stays_links w side t bs e sent k =
    let s : State = end_at w side in
    moved_links w side t bs (record { own = ap (λ (x : Ends). x.own) e; id = ap (λ (x : Ends). x.id) e; role = ap (λ (x : Ends). x.role) e })
    (subst (λ (x : Ends). IsLinked x (end_at w (other side)).ends) (sym e) (k.ends side)) sent k

-- ---- what an end sends

named_from : EndLaws → (e : Ends) (p : SppPacketModel) → IsSppPacket p → IsNamed e p → IsFrom e (spp_packet_spelling p)
named_from laws e p fits n q is =
    let read : spp_packet_of (spp_packet_spelling p) ≡ Ok p = ap spp_packet_of (sym (append-nil (spp_packet_spelling p))) ∙ laws.written.again p [] fits in
    let same : p ≡ q = cc in
    subst (λ (x : SppPacketModel). (x.source ≡ e.own) × (x.header.source_id ≡ e.id)) same (n.source, n.source_id)

own_from : EndLaws → (s t : State) (ps : List SppPacketModel) → All IsSppPacket ps → All (IsOwnPacket s t) ps
    → All (IsFrom s.ends) (map spp_packet_spelling ps)
own_from laws s t [] fits own = All-nil (IsFrom s.ends)
own_from laws s t (p ∷ ps) fits own =
    All-cons (IsFrom s.ends) (spp_packet_spelling p) (map spp_packet_spelling ps)
    (named_from laws s.ends p (All-head IsSppPacket p ps fits) (laws.peers.own s t p (All-head (IsOwnPacket s t) p ps own)))
    (own_from laws s t ps (All-tail IsSppPacket p ps fits) (All-tail (IsOwnPacket s t) p ps own))

maybe_from : EndLaws → (s t : State) (o : Option SppPacketModel) → ((p : SppPacketModel) → o ≡ Some p → IsSppPacket p)
    → ((p : SppPacketModel) → o ≡ Some p → IsOwnPacket s t p) → All (IsFrom s.ends) (option_to_list (spelled o))
maybe_from laws s t None fits own = All-nil (IsFrom s.ends)
maybe_from laws s t (Some p) fits own =
    All-cons (IsFrom s.ends) (spp_packet_spelling p) [] (named_from laws s.ends p (fits p refl) (laws.peers.own s t p (own p refl))) (All-nil (IsFrom s.ends))

-- ---- the ends of an end that goes on

send_ends : EndLaws → (s : State) (x : Item) (b : Bool) → is_ok (send_answer s x) ≡ b → (after_send s x).ends ≡ s.ends
send_ends laws s x true h = ap (λ (t : State). t.ends) (laws.accepts.accepted s x h)
send_ends laws s x false h = ap (λ (t : State). t.ends) (laws.accepts.refused s x h)

take_ends : EndLaws → (s : State) (o : Option Item) → take_answer s ≡ o → (after_take s).ends ≡ s.ends
take_ends laws s None h = ap (λ (t : State). t.ends) (laws.hands_up.none s h)
take_ends laws s (Some x) h = ap (λ (t : State). t.ends) (laws.hands_up.some s x h)

-- an end that a packet of its peer comes to learns the peer's names, or nothing
record Hears (e f d : Ends) : Type 0 where
  names : SameNames e f
  links : IsLinked f d

same_hears : (e d : Ends) → IsLinked e d → Hears e e d
same_hears e d l = record { names = record { own = refl; id = refl; role = refl }; links = l }

learned_hears : (e d : Ends) (b : List ℕ) (f : Ends) → IsFrom d b → IsLinked e d → Learns e b f → Hears e f d
learned_hears e d b f from l learns =
    let p : SppPacketModel = learns.packet in
    let names = from p learns.read in
    let now : Hears e (record e { peer = p.source; peer_id = p.header.source_id }) d = record {
      names = record { own = refl; id = refl; role = refl };
      links = record { peer = names.0; peer_id = inr names.1; one = l.one };
    } in
    subst (λ (x : Ends). Hears e x d) (sym learns.ends) now

hears : EndLaws → (s : State) (d : Ends) (b : List ℕ) → IsFrom d b → IsLinked s.ends d
    → Hears s.ends (after_receive s b).ends d
hears laws s d b from l =
    elim (laws.learns s b) as (λ o. Hears s.ends (after_receive s b).ends d) [
      | inl same ↦ subst (λ (x : Ends). Hears s.ends x d) (sym same) (same_hears s.ends d l)
      | inr learns ↦ learned_hears s.ends d b (after_receive s b).ends from l learns
    ]

-- ---- a packet comes

reply_from : EndLaws → (s : State) (b : List ℕ) (o : Option (List ℕ)) → (receive_answer s b).reply ≡ o
    → IsState (after_receive s b) → SameNames s.ends (after_receive s b).ends → All (IsFrom s.ends) (option_to_list o)
reply_from laws s b None e fits n = All-nil (IsFrom s.ends)
reply_from laws s b (Some r) e fits n =
    let t : State = after_receive s b in
    let q : SppPacketModel = system_packet t reply_control in
    let is : r ≡ spp_packet_spelling q = laws.goes_out.reply s b r e in
    let from : IsFrom t.ends (spp_packet_spelling q) = named_from laws t.ends q (laws.packets.system_packet t reply_control fits (lit< tt)) (laws.peers.system t reply_control) in
    let back : SameNames t.ends s.ends = names_back s.ends t.ends n in
    All-cons (IsFrom s.ends) r [] (subst (IsFrom s.ends) (sym is) (from_on t.ends s.ends (spp_packet_spelling q) back from)) (All-nil (IsFrom s.ends))

marked_links : (w : World) (k : ℕ) (x : Emitted) → slice_get w.bag k ≡ Some x → Linked w → Linked (marked_delivered w k x)
marked_links w k x is l =
    let v : World = marked_delivered w k x in
    let P : World → Emitted → Type 0 = λ u y. IsFrom (end_at u y.side).ends y.bytes in
    let there : P w x = All-slice_get (P w) w.bag k x l.bag is in
    record {
      ends = λ side. elim side as (λ t. IsLinked (end_at v t).ends (end_at v (other t)).ends) [ A ↦ l.ends A | B ↦ l.ends B ];
      bag = All-weaker (P w) (P v) (λ y h. subst (λ (t : State). IsFrom t.ends y.bytes) (sym (same_marked w k x y.side)) h) v.bag (All-set (P w) w.bag k (record x { delivered = true }) there l.bag);
    }

-- the packet's sender is the other side's peer
from_peer : (w : World) (side : Side) (b : List ℕ) → IsFrom (end_at w side).ends b
    → IsFrom (end_at w (other (other side))).ends b
from_peer w side b h = subst (λ (u : Side). IsFrom (end_at w u).ends b) (sym (other_other side)) h

answered_links : EndLaws → (w : World) (k : ℕ) (x : Emitted) → slice_get w.bag k ≡ Some x
    → IsState (end_at (with_arrival w k x) (other x.side)) → Linked w → Linked (with_arrival w k x)
answered_links laws w k x is fits l =
    let v : World = marked_delivered w k x in
    let side : Side = other x.side in
    let m : Linked v = marked_links w k x is l in
    let s : State = end_at v side in
    let t : State = after_receive s x.bytes in
    let d : Ends = (end_at v (other side)).ends in
    let P : Emitted → Type 0 = λ y. IsFrom (end_at w y.side).ends y.bytes in
    let there : P x = All-slice_get P w.bag k x l.bag is in
    let from : IsFrom d x.bytes = from_peer v x.side x.bytes (subst (λ (y : State). IsFrom y.ends x.bytes) (sym (same_marked w k x x.side)) there) in
    let e : Hears s.ends t.ends d = hears laws s d x.bytes from (m.ends side) in
    let o : Option (List ℕ) = (receive_answer s x.bytes).reply in
    let good : IsState t = subst IsState (same_end v side t (option_to_list o)) fits in
    moved_links v side t (option_to_list o) e.names e.links (reply_from laws s x.bytes o refl good e.names) m

reached_links : EndLaws → EachStepKeepsTheOrder → (w : World) (k : ℕ) (o : Option (Side × World)) → landing w k ≡ o
    → Holds w → Linked w → Linked (world_reached w o)
reached_links laws order w k None e h l = l
reached_links laws order w k (Some r) e h l =
    let i = has_landed w k r e in
    let now : Holds r.1 = order.land w k r h e in
    let v : World = with_arrival w k i.packet in
    let there : Holds v = subst (λ (m : Side × World). Holds m.1) (sym i.leads) now in
    subst (λ (m : Side × World). Linked m.1) i.leads (answered_links laws w k i.packet i.is (there.ends (other i.packet.side)).fits l)

-- ---- each small step

pub keeps_links : EndLaws → EachStepKeepsTheOrder → KeepsLinks
keeps_links laws order w (arrival k) fits h l = reached_links laws order w k (landing w k) refl h l
keeps_links laws order w (noise side bytes) fits h l = subst Linked (sym (noise_changes_nothing laws w side bytes)) l
keeps_links laws order w (sending side x) fits h l =
    let s : State = end_at w side in
    stays_links w side (after_send s x) [] (send_ends laws s x (is_ok (send_answer s x)) refl) (All-nil (IsFrom s.ends)) l
keeps_links laws order w (taking side) fits h l =
    let s : State = end_at w side in
    stays_links w side (after_take s) [] (take_ends laws s (take_answer s) refl) (All-nil (IsFrom s.ends)) l
keeps_links laws order w (flushing side) fits h l =
    let s : State = end_at w side in
    let good : IsState s = (h.ends side).fits in
    stays_links w side (after_flush s) (flush_answer s) (ap (λ (t : State). t.ends) (laws.alone.flush s))
    (own_from laws s (after_flush s) (flush_packets s) (laws.packets.flush s good) (laws.goes_out.flush s good)) l
keeps_links laws order w (ticking side) fits h l =
    let s : State = end_at w side in
    let good : IsState s = (h.ends side).fits in
    stays_links w side (after_tick s) (tick_answer s) (ap (λ (t : State). t.ends) (laws.alone.tick s))
    (own_from laws s (after_tick s) (tick_packets s) (laws.packets.tick s good) (laws.goes_out.tick s)) l
keeps_links laws order w (resending side) fits h l =
    let s : State = end_at w side in
    let good : IsState s = (h.ends side).fits in
    stays_links w side (after_resend s) (option_to_list (resend_answer s)) (ap (λ (t : State). t.ends) (laws.alone.resend s))
    (subst (λ (o : Option (List ℕ)). All (IsFrom s.ends) (option_to_list o)) (sym (laws.goes_out.resend_bytes s))
    (maybe_from laws s (after_resend s) (resend_packet s) (λ p e. laws.packets.resend s p good e) (λ p e. laws.goes_out.resend s p e))) l
keeps_links laws order w (telling side asks) fits h l =
    let s : State = end_at w side in
    let good : IsState s = (h.ends side).fits in
    stays_links w side s (option_to_list (told_answer s asks)) refl (maybe_from laws s s (told_packet s asks) (λ p e. laws.packets.told s asks p good e) (λ p e. laws.goes_out.told s asks p e)) l

pub starts_linked : (setup : Setup) → Linked (start setup)
starts_linked setup = record {
  ends = λ side. elim side as (λ t. IsLinked (end_at (start setup) t).ends (end_at (start setup) (other t)).ends) [
    | A ↦ record { peer = refl; peer_id = inl refl; one = inr refl }
    | B ↦ record { peer = refl; peer_id = inr refl; one = inl refl }
  ];
  bag = All-nil (λ (x : Emitted). IsFrom (end_at (start setup) x.side).ends x.bytes);
}
