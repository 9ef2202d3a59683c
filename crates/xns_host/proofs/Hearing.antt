-- What became of connections by a packet.
use Rattle.std.proofs.Common.{◌≡◌, ◌≢◌, ◌∙◌, ap, refl, subst, sym, ℕ, ◌<◌, Bool, true, false, List, length, Option, Some, Result, Ok, Err, slice_get, get_or}
use Rattle.std.specs.Prelude.{None, option_map, not, ◌&&◌, ◌==◌, if◌then◌else◌}
use Rattle.std.specs.Cmp.Lexicographic.{bytes_decides}
use Rattle.std.specs.Str.{bytes_eq}
use Rattle.std.proofs.lemmas.Bool.{and_from, and_parts, or_right, eq-eqb, eqb-true}
use Rattle.std.proofs.lemmas.Option.{slice_get_read}
use Rattle.courier_sessions.specs.declared.program.Program.{Program}
use Rattle.xns_idp.specs.Packet.{PacketModel, same_place}
use Rattle.xns_idp.specs.Reading.{decode_model, packet_of}
use Rattle.xns_idp.specs.declared.address.Address.{Address}
use Rattle.xns_spp.specs.Ends.{is_from, is_ours_at, to_responder}
use Rattle.xns_spp.specs.Packet.{SppPacketModel, carried_by, carried_in, opener_of, spp_packet_of, with_header}
use Rattle.xns_spp.specs.State.{responder_state}
use Rattle.xns_idp.specs.declared.fault.IdpFault.{IdpFault}
use Rattle.xns_idp.specs.declared.packet.Packet.{Packet}
use Rattle.xns_spp.specs.Header.{header_of}
use Rattle.xns_spp.specs.declared.dropped.Dropped.{Dropped}
use Rattle.xns_spp.specs.declared.dropped.Dropped.TheVariants.{NotSpp}
use Rattle.xns_host.specs.Hosting.{IsPacketOf, IsThere, address_in}
use Rattle.xns_host.specs.Registered.{named_in}
use Rattle.xns_host.specs.Register.{number_by, peer_at}
use Rattle.xns_host.specs.Registered.{IsRegistered}
use Rattle.xns_host.specs.declared.guest.Guest.{Guest}
use Rattle.xns_host.specs.declared.peer.Peer.{Peer}
use Rattle.xns_host.specs.declared.register.Register.{Register}
use Rattle.xns_host.proofs.Ends.{leads_to}

abbrev Places : Type 0
Places = List (Option Guest)

-- ---- the packet that opens a connection

one_place : (a b : Address) → a.host ≡ b.host → a.socket ≡ b.socket → same_place a b ≡ true
one_place a b host socket =
    and_from (bytes_eq a.host b.host) (a.socket == b.socket) ((bytes_decides a.host b.host).1 host) (eq-eqb a.socket b.socket socket)

opened_by : (b : Bool) (x y : Address × ℕ) → (if b then Some x else None) ≡ Some y → (b ≡ true) × (x ≡ y)
opened_by true x y is = let same : x ≡ y = cc in (refl, same)
opened_by false x y is = absurd (cc)

-- a packet that opens an end is one of that end
pub of_opened : (network : ℕ) (host : List ℕ) (p : SppPacketModel) (opener : Address) (opener_id id window backlog : ℕ) → p.target.host ≡ host
    → opener_of p ≡ Some (opener, opener_id)
    → is_ours_at (responder_state (address_in network host p.target.socket) id opener opener_id window backlog).ends p ≡ true
of_opened network host p opener opener_id id window backlog here opens =
    let by = opened_by (p.header.target_id == 0 && not (p.header.source_id == 0)) (p.source, p.header.source_id) (opener, opener_id) opens in
    let source : p.source ≡ opener = ap (λ (x : Address × ℕ). x.0) by.1 in
    let source_id : p.header.source_id ≡ opener_id = ap (λ (x : Address × ℕ). x.1) by.1 in
    let unnamed : (p.header.target_id == 0) ≡ true = (and_parts (p.header.target_id == 0) (not (p.header.source_id == 0)) by.0).0 in
    let from : is_from opener opener_id p ≡ true
    = and_from (same_place p.source opener) (p.header.source_id == opener_id)
    (one_place p.source opener (ap (λ (a : Address). a.host) source) (ap (λ (a : Address). a.socket) source))
    (eq-eqb p.header.source_id opener_id source_id) in
    and_from (same_place p.target (address_in network host p.target.socket)) (to_responder id p && is_from opener opener_id p)
    (one_place p.target (address_in network host p.target.socket) here refl)
    (and_from (to_responder id p) (is_from opener opener_id p) (or_right (p.header.target_id == id) (p.header.target_id == 0) unnamed) from)

-- ---- what was read

-- a list that was copied is the one that was found
pub served_by : {V : Type 0} (f : V → List Program) {o : Option V} {v : V} {x : Option (List Program)} {items : List Program} → option_map f o ≡ x
    → o ≡ Some v → items ≡ f v → x ≡ Some items
served_by f at is same = sym at ∙ ap (option_map f) is ∙ ap Some (sym same)

abbrev packet_in : {F : Type 0} → PacketModel → Result (PacketModel × ℕ) F → PacketModel
packet_in other (Ok r) = r.0
packet_in other (Err e) = other

pub one_packet : {F : Type 0} {r : Result (PacketModel × ℕ) F} (a p : PacketModel) (x y : ℕ) → Ok (a, x) ≡ r → r ≡ Ok (p, y) → p ≡ a
one_packet a p x y left right = sym (ap (packet_in a) (left ∙ right))

-- the sequenced packet of the bytes is the one that their packet carries
pub spelled : {r : Result SppPacketModel Dropped} (bytes : List ℕ) (carrier : PacketModel) (taken : ℕ) (m : SppPacketModel)
    → packet_of bytes ≡ Ok (carrier, taken) → r ≡ carried_by carrier → r ≡ Ok m → spp_packet_of bytes ≡ Ok m
unfolding spp_packet_of
spelled bytes carrier taken m read carried is = ap carried_in read ∙ (sym carried ∙ is)

-- a packet of an internet packet that the bytes spell is the one that the bytes spell
pub carries : (bytes : List ℕ) (carrier : PacketModel) (taken : ℕ) (p : SppPacketModel) → packet_of bytes ≡ Ok (carrier, taken)
    → spp_packet_of bytes ≡ Ok p → carried_by carrier ≡ Ok p
unfolding spp_packet_of
carries bytes carrier taken p read is = sym (ap carried_in read) ∙ is

pub the_packet : (bytes : List ℕ) (carrier : PacketModel) (taken : ℕ) (p : SppPacketModel) (r : Result SppPacketModel Dropped)
    → packet_of bytes ≡ Ok (carrier, taken) → spp_packet_of bytes ≡ Ok p → r ≡ carried_by carrier → r ≡ Ok p
the_packet bytes carrier taken p r read is value = value ∙ carries bytes carrier taken p read is

-- what was read is what the bytes spell
pub one_spelled : (bytes : List ℕ) (carrier : PacketModel) (taken : ℕ) (p q : SppPacketModel) (r : Result SppPacketModel Dropped)
    → packet_of bytes ≡ Ok (carrier, taken) → spp_packet_of bytes ≡ Ok p → r ≡ carried_by carrier → r ≡ Ok q → p ≡ q
one_spelled bytes carrier taken p q r read is value found = let both = sym (the_packet bytes carrier taken p r read is value) ∙ found in cc

-- the connection that it is of is found
pub finds : (host : List ℕ) (r : Register) (p q : SppPacketModel) (n : ℕ) (g : Guest) (peer : Peer) (found : Option ℕ) → p ≡ q
    → peer ≡ peer_at q.source q.header.source_id q.target.socket → found ≡ number_by r.identifiers r.peers q.header.target_id peer
    → IsRegistered r n g → IsPacketOf host p g → found ≡ Some n
finds host r p q n g peer found same at looked is of =
    let by : IsPacketOf host q g = subst (λ (x : SppPacketModel). IsPacketOf host x g) same of in
    looked ∙ ap (λ (x : Peer). number_by r.identifiers r.peers q.header.target_id x) at ∙ leads_to r n g by.state q is by.stands by.ours

-- what is found is what it names
pub found_is_named : (register : Register) (q : SppPacketModel) (peer : Peer) (found : Option ℕ)
    → peer ≡ peer_at q.source q.header.source_id q.target.socket
    → found ≡ number_by register.identifiers register.peers q.header.target_id peer → named_in register q ≡ found
found_is_named register q peer found is finds =
    ap (λ (x : Peer). number_by register.identifiers register.peers q.header.target_id x) (sym is) ∙ sym finds

-- an internet packet that carries a packet of the protocol has type 5
carrier_kind : (carrier : PacketModel) (p : SppPacketModel) → carried_by carrier ≡ Ok p → (carrier.kind == 5) ≡ true
carrier_kind carrier p is = by (carrier.kind == 5) is where
  by : (b : Bool) → (if b then with_header carrier (header_of carrier.body) else Err NotSpp) ≡ Ok p → b ≡ true
  by true e = refl
  by false e = absurd (cc)

pub sequenced_kind : (bytes : List ℕ) (carrier : PacketModel) (taken : ℕ) (p : SppPacketModel) → packet_of bytes ≡ Ok (carrier, taken)
    → spp_packet_of bytes ≡ Ok p → carrier.kind ≡ 5
sequenced_kind bytes carrier taken p read is = eqb-true carrier.kind 5 (carrier_kind carrier p (carries bytes carrier taken p read is))

-- bytes that are no internet packet are no sequenced one
unread : (bytes : List ℕ) (fault : IdpFault) (p : SppPacketModel) → packet_of bytes ≡ Err fault → spp_packet_of bytes ≡ Ok p → ⊥
unfolding spp_packet_of
unread bytes fault p read is = let e = sym (ap carried_in read) ∙ is in cc

pub not_read : (bytes : List ℕ) (r : Result (Packet × ℕ) IdpFault) (p : SppPacketModel) → decode_model r ≡ packet_of bytes
    → ((x : Packet × ℕ) → r ≢ Ok x) → spp_packet_of bytes ≡ Ok p → ⊥
not_read bytes (Ok x) p read none is = none x refl
not_read bytes (Err f) p read none is = unread bytes f p (sym read) is
