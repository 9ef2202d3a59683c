-- What the end of a connection says of the connection: its identifier, who opened it, and which packets are of it.
use Rattle.std.proofs.Common.{◌≡◌, ◌∙◌, ap, refl, subst, sym, ℕ, Bool, true, false, List, Option, Some, arith}
use Rattle.std.specs.Prelude.{◌||◌, ◌==◌, if◌then◌else◌}
use Rattle.std.specs.BTreeMap.{get}
use Rattle.std.specs.Cmp.Lexicographic.{bytes_decides}
use Rattle.std.specs.Str.{bytes_eq}
use Rattle.std.proofs.Math.Logic.{∥∥₁_elim}
use Rattle.std.proofs.Props.{props}
use Rattle.std.proofs.lemmas.Bool.{and_parts, eqb-true}
use Rattle.xns_idp.specs.Packet.{same_place}
use Rattle.xns_idp.specs.declared.address.Address.{Address}
use Rattle.xns_spp.specs.Ends.{from_host, from_peer, is_meant, is_open, is_ours_at, to_responder}
use Rattle.xns_spp.specs.Held.{Held, StandsFor}
use Rattle.xns_spp.specs.Packet.{SppPacketModel}
use Rattle.xns_spp.specs.State.{State}
use Rattle.xns_spp.specs.Telling.{own_name}
use Rattle.xns_spp.specs.declared.ends.Ends.{Ends}
use Rattle.xns_spp.specs.declared.role.Role.{Role}
use Rattle.xns_spp.specs.declared.role.Role.TheVariants.{Initiator, Responder}
use Rattle.xns_connection.specs.Ends.{IsSameEnd, KeepsEnd, opener_by, peer_that_opened}
use Rattle.xns_connection.specs.Living.{GoesFrom}
use Rattle.xns_host.specs.Register.{number_by, owner_in, peer_at, peer_cmp}
use Rattle.xns_host.specs.Knowing.{id_of, opener_to, who_opened}
use Rattle.xns_host.specs.Registered.{HasStory, IsRegistered, opener_at}
use Rattle.xns_connection.specs.Story.{Story}
use Rattle.xns_connection.specs.Telling.{Goes, HearsBytes, Tells}
use Rattle.xns_connection.specs.declared.connection.Connection.{Connection}
use Rattle.xns_connection.specs.declared.conversation.Conversation.{Conversation}
use Rattle.xns_host.specs.declared.guest.Guest.{Guest}
use Rattle.xns_host.specs.declared.peer.Peer.{Peer}
use Rattle.xns_host.specs.declared.register.Register.{Register}

-- ---- the end of a connection

-- the end of a connection has the identifier that it has in each history of the end
pub end_id : (g : Guest) (s : State) → StandsFor g.connection.conversation.endpoint s → s.ends.id ≡ id_of g
end_id g s stands = ap (λ (e : Held). e.ends.id) (sym stands.holds)

-- the end of a conversation has the identifier that it has in each story of the conversation
pub told_id : (t : Conversation) (m : Story) → Tells t m → m.state.ends.id ≡ t.endpoint.ends.id
told_id t m told = ap (λ (e : Held). e.ends.id) (sym told.stands.holds)

-- the end of a connection says who opened the connection, as each history of the end does
pub end_opener : (c : Connection) (s : State) → StandsFor c.conversation.endpoint s → peer_that_opened c ≡ opener_by s.ends.role s.ends
end_opener c s stands = ap (λ (e : Held). opener_by e.ends.role e.ends) stands.holds

-- the end of a connection says with its own socket who opened the connection, as each history of the end does
pub end_opened : (c : Connection) (s : State) → StandsFor c.conversation.endpoint s
    → opener_to c.conversation.endpoint.ends.own.socket (peer_that_opened c) ≡ opener_to s.ends.own.socket (opener_by s.ends.role s.ends)
end_opened c s stands = ap (λ (e : Held). opener_to e.ends.own.socket (opener_by e.ends.role e.ends)) stands.holds

-- the socket that a connection names as its own is its end's
pub own_socket : (c : Connection) (o : Address × ℕ) → ((s : State) → StandsFor c.conversation.endpoint s → o ≡ own_name s.ends)
    → o.0.socket ≡ c.conversation.endpoint.ends.own.socket
own_socket c o named = ∥∥₁_elim c.stands (Prim.hlevel props)
    (λ x. ap (λ (p : Address × ℕ). p.0.socket) (named x.0 x.1) ∙ sym (ap (λ (e : Held). e.ends.own.socket) x.1.holds))

-- a story that tells what a connection did is one of the connection, with who opened that
pub has_story : (g : Guest) (m : Story) → Tells g.connection.conversation m → HasStory g
has_story g m told = record {
  story = m;
  tells = told;
  opener = λ responds. end_opened g.connection m.state told.stands
      ∙ ap (λ (r : Role). opener_to m.state.ends.own.socket (opener_by r m.state.ends)) responds;
}

-- ---- what a connection keeps of its end

-- a connection whose conversation is as it was keeps its end
pub still_keeps : (c d : Connection) → d.conversation ≡ c.conversation → KeepsEnd c d
still_keeps c d same = record {
  end = subst (λ (t : Conversation). IsSameEnd c.conversation.endpoint.ends t.endpoint.ends) (sym same) (record { same = refl; known = λ there. refl });
  opener = ap (λ (t : Conversation). opener_by t.endpoint.ends.role t.endpoint.ends) same;
}

pub same_id : (g h : Guest) → KeepsEnd g.connection h.connection → id_of h ≡ id_of g
same_id g h keeps = ap (λ (e : Ends). e.id) keeps.end.same

pub same_opener : (g h : Guest) → KeepsEnd g.connection h.connection → who_opened h ≡ who_opened g
same_opener g h keeps =
    ap (λ (e : Ends). opener_to e.own.socket (peer_that_opened h.connection)) keeps.end.same
    ∙ ap (λ (o : Option (Address × ℕ)). opener_to g.connection.conversation.endpoint.ends.own.socket o) keeps.opener

-- ---- a connection's story goes on

pub from_story : (g h : Guest) (base : Story → Story) → GoesFrom g.connection.conversation h.connection.conversation base → HasStory g → HasStory h
from_story g h base goes e = let next = goes e.story e.tells in has_story h next.0 next.1

pub goes_story : (g h : Guest) → Goes g.connection.conversation h.connection.conversation → HasStory g → HasStory h
goes_story g h goes = from_story g h (λ s. s) goes.on

pub hears_story : (g h : Guest) (bytes : List ℕ) → HearsBytes g.connection.conversation h.connection.conversation bytes → HasStory g → HasStory h
hears_story g h bytes hears e = let next = hears.on e.story e.tells in has_story h next.0 next.1

-- a connection whose conversation is as it was has its story still
pub still_story : (g h : Guest) → h.connection.conversation ≡ g.connection.conversation → HasStory g → HasStory h
still_story g h same e = has_story h e.story (subst (λ (t : Conversation). Tells t e.story) (sym same) e.tells)

-- ---- which connection a packet is of

end_of : (g : Guest) (s : State) → (has : HasStory g) → StandsFor g.connection.conversation.endpoint s → s.ends ≡ has.story.state.ends
end_of g s has stands = ap (λ (e : Held). e.ends) (sym stands.holds ∙ has.tells.stands.holds)

or_first : (p q : Bool) → (p || q) ≡ true → q ≡ false → p ≡ true
or_first true q is none = refl
or_first false q is none = absurd (cc)

-- a packet to an end, from its peer, is from the opener of that end
from_opener : (e : Ends) (p : SppPacketModel) → same_place p.target e.own ≡ true → from_peer e p ≡ true
    → peer_at p.source p.header.source_id p.target.socket ≡ opener_at e
from_opener e p target from =
    let to = and_parts (bytes_eq p.target.host e.own.host) (p.target.socket == e.own.socket) target in
    let of = and_parts (same_place p.source e.peer) (p.header.source_id == e.peer_id) from in
    let place = and_parts (bytes_eq p.source.host e.peer.host) (p.source.socket == e.peer.socket) of.0 in
    λ i. record {
      host = (bytes_decides p.source.host e.peer.host).0 place.0 i;
      socket = eqb-true p.source.socket e.peer.socket place.1 i;
      id = eqb-true p.header.source_id e.peer_id of.1 i;
      to = eqb-true p.target.socket e.own.socket to.1 i;
    }

by_owner : (r : Register) (n : ℕ) (g : Guest) (e : Ends) (id : ℕ) → IsRegistered r n g → e.id ≡ id_of g → (id == e.id) ≡ true
    → owner_in r.identifiers id ≡ Some n
by_owner r n g e id is same meant = ap (λ (i : ℕ). owner_in r.identifiers i) (eqb-true id e.id meant ∙ same) ∙ is.own

meant_by : (r : Register) (n : ℕ) (g : Guest) (e : Ends) (p : SppPacketModel) (role : Role) (b : Bool) → e.role ≡ role
    → (p.header.target_id == 0) ≡ b → IsRegistered r n g → e.id ≡ id_of g → (e.role ≡ Responder → who_opened g ≡ Some (opener_at e))
    → same_place p.target e.own ≡ true → is_meant role e p ≡ true
    → (if b then get peer_cmp r.peers (peer_at p.source p.header.source_id p.target.socket) else owner_in r.identifiers p.header.target_id) ≡ Some n
meant_by r n g e p Responder true role zero is id opener target meant =
    let from = and_parts (to_responder e.id p) (from_peer e p) meant in
    ap (λ (o : Peer). get peer_cmp r.peers o) (from_opener e p target from.1) ∙ is.opener (opener_at e) (opener role)
meant_by r n g e p Responder false role zero is id opener target meant =
    let to = and_parts (to_responder e.id p) (from_peer e p) meant in
    by_owner r n g e p.header.target_id is id (or_first (p.header.target_id == e.id) (p.header.target_id == 0) to.0 zero)
meant_by r n g e p Initiator true role zero is id opener target meant =
    let to = and_parts (p.header.target_id == e.id) (if is_open e then from_peer e p else from_host e p) meant in
    let none : p.header.target_id ≡ 0 = eqb-true p.header.target_id 0 zero in
    let same : p.header.target_id ≡ id_of g = eqb-true p.header.target_id e.id to.0 ∙ id in
    let known = is.known in
    absurd (omega (arith, none, same, known))
meant_by r n g e p Initiator false role zero is id opener target meant =
    let to = and_parts (p.header.target_id == e.id) (if is_open e then from_peer e p else from_host e p) meant in
    by_owner r n g e p.header.target_id is id to.0

leads_by : (r : Register) (n : ℕ) (g : Guest) (s : State) (p : SppPacketModel) → IsRegistered r n g → HasStory g
    → StandsFor g.connection.conversation.endpoint s → is_ours_at s.ends p ≡ true
    → number_by r.identifiers r.peers p.header.target_id (peer_at p.source p.header.source_id p.target.socket) ≡ Some n
leads_by r n g s p is has stands ours =
    let same = end_of g s has stands in
    let both = and_parts (same_place p.target s.ends.own) (is_meant s.ends.role s.ends p) ours in
    meant_by r n g s.ends p s.ends.role (p.header.target_id == 0) refl refl is (end_id g s stands)
    (λ responds. has.opener (sym (ap (λ (e : Ends). e.role) same) ∙ responds) ∙ ap (λ (e : Ends). Some (opener_at e)) (sym same)) both.0 both.1

pub leads_to : (r : Register) (n : ℕ) (g : Guest) (s : State) (p : SppPacketModel) → IsRegistered r n g
    → StandsFor g.connection.conversation.endpoint s → is_ours_at s.ends p ≡ true
    → number_by r.identifiers r.peers p.header.target_id (peer_at p.source p.header.source_id p.target.socket) ≡ Some n
leads_to r n g s p is stands ours = ∥∥₁_elim is.story (Prim.hlevel props) (λ has. leads_by r n g s p is has stands ours)
