-- Peers that open connections are told apart.
use Rattle.std.proofs.Common.{◌≡◌, ◌≢◌, refl, ℕ, Bool, true, false, Option}
use Rattle.std.specs.BTreeMap.{BTreeMap, Updates, get}
use Rattle.std.specs.Cmp.Lexicographic.{slice_cmp}
use Rattle.std.specs.Ordering.{is_eq, nat_cmp, ordering_then}
use Rattle.std.specs.declared.cmp.Ordering.{Ordering}
use Rattle.std.specs.declared.cmp.Ordering.TheVariants.{Less, Equal, Greater}
use Rattle.std.proofs.lemmas.Map.Lookups.{exact_bytes, exact_unsigned}
use Rattle.xns_host.specs.Register.{peer_cmp}
use Rattle.xns_host.specs.declared.peer.Peer.{Peer}

both_equal : (a b : Ordering) → ordering_then a b ≡ Equal → (a ≡ Equal) × (b ≡ Equal)
both_equal Less b e = absurd (cc)
both_equal Equal b e = (refl, e)
both_equal Greater b e = absurd (cc)

pub same_peer : (a b : Peer) → peer_cmp a b ≡ Equal → a ≡ b
same_peer a b e =
    let host = both_equal (slice_cmp nat_cmp a.host b.host)
    (ordering_then (nat_cmp a.socket b.socket) (ordering_then (nat_cmp a.id b.id) (nat_cmp a.to b.to))) e in
    let socket = both_equal (nat_cmp a.socket b.socket) (ordering_then (nat_cmp a.id b.id) (nat_cmp a.to b.to)) host.1 in
    let ids = both_equal (nat_cmp a.id b.id) (nat_cmp a.to b.to) socket.1 in
    λ i. record {
      host = exact_bytes a.host b.host host.0 i;
      socket = exact_unsigned a.socket b.socket socket.0 i;
      id = exact_unsigned a.id b.id ids.0 i;
      to = exact_unsigned a.to b.to ids.1 i;
    }

pub is_equal : (r : Ordering) → is_eq r ≡ true → r ≡ Equal
is_equal Less e = absurd (cc)
is_equal Equal e = refl
is_equal Greater e = absurd (cc)

not_at : (o p : Peer) (b : Bool) → is_eq (peer_cmp o p) ≡ b → o ≢ p → b ≡ false
not_at o p true is other = absurd (other (same_peer o p (is_equal (peer_cmp o p) is)))
not_at o p false is other = refl

-- another peer's number stays
pub stays : (m n : BTreeMap Peer ℕ) (o p : Peer) (w : Option ℕ) → Updates peer_cmp m n o w → o ≢ p → get peer_cmp n p ≡ get peer_cmp m p
stays m n o p w u other = u.2 p (not_at o p (is_eq (peer_cmp o p)) refl other)
