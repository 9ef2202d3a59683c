-- What an end sends is a packet of its peer's connection.
use Rattle.std.proofs.Common.{◌≡◌, ◌⊎◌, inl, inr, ℕ, Bool, true, false, not, refl, sym, ◌∙◌, ap, subst, arith}
use Rattle.std.specs.Prelude.{if◌then◌else◌, ◌==◌, ◌&&◌}
use Rattle.std.specs.Str.{bytes_eq}
use Rattle.std.specs.Cmp.Lexicographic.{bytes_decides}
use Rattle.std.proofs.lemmas.Bool.{eq-eqb, and_from, or_left, or_right}
use Rattle.xns_idp.specs.Packet.{same_place}
use Rattle.xns_idp.specs.declared.address.Address.{Address}
use Rattle.xns_spp.proofs.Heard.{not_zero}
use Rattle.xns_spp.specs.Ends.{IsEnds, is_open, is_ours_at, is_meant, from_peer, from_host, to_responder}
use Rattle.xns_spp.specs.Growth.{IsOwnPacket}
use Rattle.xns_spp.specs.Packet.{SppPacketModel}
use Rattle.xns_spp.specs.Peers.{IsLinked, IsNamed}
use Rattle.xns_spp.specs.Sending.{data_packet, system_packet}
use Rattle.xns_spp.specs.State.{State}
use Rattle.xns_spp.specs.declared.ends.Ends.{Ends}
use Rattle.xns_spp.specs.declared.item.Item.{Item}
use Rattle.xns_spp.specs.declared.role.Role.{Role}
use Rattle.xns_spp.specs.declared.role.Role.TheVariants.{Initiator, Responder}

-- ---- what an end sends is from it to its peer

pub system_named : (s : State) (control : ℕ) → IsNamed s.ends (system_packet s control)
system_named s control = record { source = refl; source_id = refl; target = refl; target_id = refl }

pub item_named : (s : State) (i : ℕ) (x : Item) → IsNamed s.ends (data_packet s i x)
item_named s i x = record { source = refl; source_id = refl; target = refl; target_id = refl }

pub own_named : (s t : State) (p : SppPacketModel) → IsOwnPacket s t p → IsNamed s.ends p
own_named s t p (inl i) = subst (IsNamed s.ends) (sym i.is) (system_named s i.control)
own_named s t p (inr i) = subst (IsNamed s.ends) (sym i.is) (item_named s i.number i.item)

-- ---- a packet of the peer's own is of the connection

one_place : (a b : Address) → a ≡ b → same_place a b ≡ true
one_place a b is =
    and_from (bytes_eq a.host b.host) (a.socket == b.socket) ((bytes_decides a.host b.host).1 (ap (λ (x : Address). x.host) is)) (eq-eqb a.socket b.socket (ap (λ (x : Address). x.socket) is))

-- an end that was made for its peer knows it
knows_by : (e f : Ends) → IsEnds e → e.role ≡ Responder → (e.peer_id ≡ 0) ⊎ (e.peer_id ≡ f.id) → e.peer_id ≡ f.id
knows_by e f fits is (inl none) = absurd (omega (arith, none, fits.peer_known is))
knows_by e f fits is (inr same) = same

-- an end that is open knows its peer's identifier
known_by : (e f : Ends) → not (e.peer_id == 0) ≡ true → (e.peer_id ≡ 0) ⊎ (e.peer_id ≡ f.id) → e.peer_id ≡ f.id
known_by e f ready (inl none) = absurd (cc (ap (λ (n : ℕ). not (n == 0)) none))
known_by e f ready (inr same) = same

-- the packet's target is the end f, which is an initiator or a responder
for_responder : (e f : Ends) (p : SppPacketModel) → IsEnds f → IsLinked e f → IsLinked f e → IsNamed e p → f.role ≡ Responder → (to_responder f.id p && from_peer f p) ≡ true
for_responder e f p fits to back named is =
    let unnamed : e.peer_id ≡ 0 → to_responder f.id p ≡ true = λ none. or_right (p.header.target_id == f.id) (p.header.target_id == 0) (eq-eqb p.header.target_id 0 (named.target_id ∙ none)) in
    let meant : e.peer_id ≡ f.id → to_responder f.id p ≡ true = λ same. or_left (p.header.target_id == f.id) (p.header.target_id == 0) (eq-eqb p.header.target_id f.id (named.target_id ∙ same)) in
    and_from (to_responder f.id p) (from_peer f p)
    (elim (to.peer_id) as (λ o. to_responder f.id p ≡ true) [ inl none ↦ unnamed none | inr same ↦ meant same ])
    (and_from (same_place p.source f.peer) (p.header.source_id == f.peer_id)
    (one_place p.source f.peer (named.source ∙ sym back.peer))
    (eq-eqb p.header.source_id f.peer_id (named.source_id ∙ sym (knows_by f e fits is back.peer_id))))

not_both : (e f : Ends) → f.role ≡ Initiator → (e.role ≡ Responder) ⊎ (f.role ≡ Responder) → e.role ≡ Responder
not_both e f is (inl r) = r
not_both e f is (inr r) = absurd (cc)

heard_of : (e f : Ends) (p : SppPacketModel) (b : Bool) → is_open f ≡ b → IsEnds e → IsLinked f e → IsNamed e p → (if b then from_peer f p else from_host f p) ≡ true
heard_of e f p true ready fits back named =
    and_from (same_place p.source f.peer) (p.header.source_id == f.peer_id)
    (one_place p.source f.peer (named.source ∙ sym back.peer))
    (eq-eqb p.header.source_id f.peer_id (named.source_id ∙ sym (known_by f e ready back.peer_id)))
heard_of e f p false ready fits back named =
    and_from (bytes_eq p.source.host f.peer.host) (not (p.header.source_id == 0))
    ((bytes_decides p.source.host f.peer.host).1 (ap (λ (x : Address). x.host) (named.source ∙ sym back.peer)))
    (subst (λ (n : ℕ). not (n == 0) ≡ true) (sym named.source_id) (not_zero e.id fits.id_known))

for_initiator : (e f : Ends) (p : SppPacketModel) → IsEnds e → IsLinked e f → IsLinked f e → IsNamed e p → f.role ≡ Initiator → (p.header.target_id == f.id && (if is_open f then from_peer f p else from_host f p)) ≡ true
for_initiator e f p fits to back named is =
    and_from (p.header.target_id == f.id) (if is_open f then from_peer f p else from_host f p)
    (eq-eqb p.header.target_id f.id (named.target_id ∙ knows_by e f fits (not_both e f is to.one) to.peer_id))
    (heard_of e f p (is_open f) refl fits back named)

meant_by : (e f : Ends) (p : SppPacketModel) (r : Role) → IsEnds e → IsEnds f → IsLinked e f → IsLinked f e → IsNamed e p → f.role ≡ r → is_meant r f p ≡ true
meant_by e f p Responder e_fits fits to back named is = for_responder e f p fits to back named is
meant_by e f p Initiator e_fits fits to back named is = for_initiator e f p e_fits to back named is

pub its_own : (e f : Ends) (p : SppPacketModel) → IsEnds e → IsEnds f → IsLinked e f → IsLinked f e → IsNamed e p → is_ours_at f p ≡ true
its_own e f p e_fits fits to back named =
    and_from (same_place p.target f.own) (is_meant f.role f p) (one_place p.target f.own (named.target ∙ to.peer)) (meant_by e f p f.role e_fits fits to back named refl)
