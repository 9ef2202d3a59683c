-- The register leads to a new connection what names it.
use Rattle.std.proofs.Common.{◌≡◌, ◌≢◌, ◌∙◌, ◌⊎◌, inl, inr, ap, refl, subst, sym, ℕ, Bool, true, false, List, Option, Some, None, slice_get, get_or}
use Rattle.std.specs.Prelude.{IfSome, position}
use Rattle.std.specs.BTreeMap.{BTreeMap, IsUnchanged, Updates, get, is_at}
use Rattle.std.specs.Map.{lookup}
use Rattle.std.specs.Ordering.{is_eq}
use Rattle.std.proofs.lemmas.List.{get_or-set_other}
use Rattle.std.proofs.lemmas.List.Quantifiers.{position-Some}
use Rattle.std.proofs.lemmas.Option.{get_or_from_slice_get}
use Rattle.xns_host.specs.Identifiers.{GivesIdentifier, Ids, IsNextIdentifier, StaysInOrder, TurnsOver, is_free}
use Rattle.xns_host.specs.Register.{owner_in, peer_cmp}
use Rattle.xns_host.specs.Hosting.{IsThere}
use Rattle.xns_host.specs.Knowing.{id_of, who_opened}
use Rattle.xns_host.specs.Registered.{HasRegistered, IsAllRegistered, IsAnother, IsRegistered}
use Rattle.xns_host.specs.declared.guest.Guest.{Guest}
use Rattle.xns_host.specs.declared.peer.Peer.{Peer}
use Rattle.xns_host.specs.declared.register.Register.{Register}
use Rattle.xns_agenda.proofs.Putting.{same_or_other}
use Rattle.xns_host.proofs.Openers.{is_equal, same_peer, stays}
use Rattle.xns_host.proofs.Registered.{free_owner}

abbrev Places : Type 0
Places = List (Option Guest)

-- ---- an identifier is taken

-- nobody had it
pub unowned : (ids : Ids) (id : ℕ) → IsNextIdentifier ids id → owner_in ids id ≡ None
unowned ids id next =
    let found = position-Some (is_free ids.owners) ids.ahead next.place id next.first in
    let at : get_or ids.ahead next.place id ≡ id = get_or_from_slice_get ids.ahead next.place id id next.there in
    free_owner (owner_in ids id) (ap (λ (i : ℕ). is_free ids.owners i) (sym at) ∙ found.1)

-- a number got this identifier, which nobody had; to each other connection the register leads still
pub record HasJoined (old new : Register) (number id : ℕ) : Type 0 where
  pub own : owner_in new.identifiers id ≡ Some number
  pub free : owner_in old.identifiers id ≡ None
  pub others : (k : ℕ) → k ≢ id → owner_in new.identifiers k ≡ owner_in old.identifiers k
  pub peers : (o : Peer) (n : ℕ) → get peer_cmp old.peers o ≡ Some n → get peer_cmp new.peers o ≡ Some n

-- what holds of an identifier holds of an equal one
pub joined_as : {old new : Register} {number i j : ℕ} → i ≡ j → HasJoined old new number i → HasJoined old new number j
joined_as {old} {new} {number} same has = subst (λ (k : ℕ). HasJoined old new number k) same has

-- who opened one then is this opener, or had opened it
abbrev pub OpenedBy : (old new : Register) → Option Peer → Type 0
OpenedBy old new opener = (o : Peer) (n : ℕ) → get peer_cmp new.peers o ≡ Some n → (opener ≡ Some o) ⊎ (get peer_cmp old.peers o ≡ Some n)

abbrev IsGiven : (a b : Ids) (number : ℕ) → Option ℕ → Type 0
IsGiven a b number x = (place : ℕ) → position (is_free a.owners) a.ahead ≡ Some place → IfSome x (GivesIdentifier a b place number)

abbrev IsSome : Ids → Option ℕ → Type 0
IsSome a x = (place : ℕ) → position (is_free a.owners) a.ahead ≡ Some place → x ≢ None

took : (r s : Register) (number id : ℕ) (x : Option ℕ) → IsNextIdentifier r.identifiers id → IsGiven r.identifiers s.identifiers number x → IsSome r.identifiers x
    → IfSome x (λ i. owner_in s.identifiers i ≡ Some number)
    → ((o : Peer) (n : ℕ) → get peer_cmp r.peers o ≡ Some n → get peer_cmp s.peers o ≡ Some n) → HasJoined r s number id
took r s number id None next given some owner peers = absurd (some next.place next.first refl)
took r s number id (Some x) next given some owner peers =
    let gives : GivesIdentifier r.identifiers s.identifiers next.place number x = given next.place next.first in
    let here : slice_get r.identifiers.ahead next.place ≡ Some x = gives.there in
    let there : slice_get r.identifiers.ahead next.place ≡ Some id = next.there in
    let same : x ≡ id = cc in
    record {
      own = subst (λ (i : ℕ). owner_in s.identifiers i ≡ Some number) same owner;
      free = unowned r.identifiers id next;
      others = λ k other. ap (λ (os : List (Option ℕ)). get_or os k None) gives.owned
          ∙ get_or-set_other r.identifiers.owners x k (Some number) None (λ e. other (e ∙ same));
      peers = peers;
    }

-- the identifier that came next was given, and none after it
pub turned_over : (a b c : Ids) (number id : ℕ) (x : Option ℕ) → IsNextIdentifier a id → IsGiven a b number x → IsSome a x → StaysInOrder b c → (i : ℕ) × TurnsOver a c i
turned_over a b c number id None next given some same = absurd (some next.place next.first refl)
turned_over a b c number id (Some x) next given some same =
    let gives : GivesIdentifier a b next.place number x = given next.place next.first in
    (x, record { place = next.place; first = next.first; there = gives.there; turned = same ∙ gives.turned })

pub joined : (r s : Register) (number id : ℕ) (x : Option ℕ) → IsNextIdentifier r.identifiers id → IsGiven r.identifiers s.identifiers number x
    → IsSome r.identifiers x → IfSome x (λ i. owner_in s.identifiers i ≡ Some number) → s.peers ≡ r.peers → HasJoined r s number id
joined r s number id x next given some owner same =
    took r s number id x next given some owner (λ o n is. ap (λ (m : BTreeMap Peer ℕ). get peer_cmp m o) same ∙ is)

-- a peer opened it, who had opened none
entered : (m n : BTreeMap Peer ℕ) (opener o : Peer) (number k : ℕ) → Updates peer_cmp m n opener (Some number) → get peer_cmp m opener ≡ None
    → get peer_cmp m o ≡ Some k → get peer_cmp n o ≡ Some k
entered m n opener o number k u none is =
    stays m n opener o (Some number) u (λ same. let there = sym none ∙ ap (λ (p : Peer). get peer_cmp m p) same ∙ is in absurd (cc)) ∙ is

pub joined_opened : (r t s : Register) (number id : ℕ) (opener : Peer) (x : Option ℕ) → t.identifiers ≡ r.identifiers
    → Updates peer_cmp r.peers t.peers opener (Some number) → get peer_cmp r.peers opener ≡ None → IsNextIdentifier r.identifiers id
    → IsGiven t.identifiers s.identifiers number x → IsSome t.identifiers x → IfSome x (λ i. owner_in s.identifiers i ≡ Some number)
    → s.peers ≡ t.peers → HasJoined r s number id
joined_opened r t s number id opener x same u none next given some owner peers =
    took r s number id x next (subst (λ (a : Ids). IsGiven a s.identifiers number x) same given) (subst (λ (a : Ids). IsSome a x) same some) owner
    (λ o n is. ap (λ (m : BTreeMap Peer ℕ). get peer_cmp m o) peers ∙ entered r.peers t.peers opener o number n u none is)

joined_peers : (m n : BTreeMap Peer ℕ) (opener o : Peer) (number k : ℕ) (b : Bool) → Updates peer_cmp m n opener (Some number)
    → is_eq (peer_cmp opener o) ≡ b → get peer_cmp n o ≡ Some k → (Some opener ≡ Some o) ⊎ (get peer_cmp m o ≡ Some k)
joined_peers m n opener o number k true u eq is = inl (ap Some (same_peer opener o (is_equal (peer_cmp opener o) eq)))
joined_peers m n opener o number k false u eq is = inr (sym (u.2 o eq) ∙ is)

pub opened_by : (r t s : Register) (number : ℕ) (opener : Peer) → Updates peer_cmp r.peers t.peers opener (Some number) → s.peers ≡ t.peers
    → OpenedBy r s (Some opener)
opened_by r t s number opener u peers = λ o n is.
    joined_peers r.peers t.peers opener o number n (is_eq (peer_cmp opener o)) u refl (sym (ap (λ (m : BTreeMap Peer ℕ). get peer_cmp m o) peers) ∙ is)

pub opened_by_none : (r s : Register) → s.peers ≡ r.peers → OpenedBy r s None
opened_by_none r s peers = λ o n is. inr (sym (ap (λ (m : BTreeMap Peer ℕ). get peer_cmp m o) peers) ∙ is)

-- the one that is there already is another
is_another : (r s : Register) (gs : Places) (number n : ℕ) (g h : Guest) → IsAllRegistered r gs → HasJoined r s number (id_of h)
    → ((o : Peer) → who_opened h ≡ Some o → get peer_cmp r.peers o ≡ None) → slice_get gs n ≡ Some (Some g) → IsAnother g h
is_another r s gs number n g h all has unknown there =
    let is = all.each n g there in
    record {
      own = λ same. let none = sym has.free ∙ ap (λ (i : ℕ). owner_in r.identifiers i) same ∙ is.own in absurd (cc);
      opener = λ o opened was. let none = sym (unknown o was) ∙ is.opener o opened in absurd (cc);
    }

pub all_joined : (r s : Register) (gs : Places) (number : ℕ) (h : Guest) → IsAllRegistered r gs → HasJoined r s number (id_of h)
    → ((o : Peer) → who_opened h ≡ Some o → get peer_cmp r.peers o ≡ None) → OpenedBy r s (who_opened h) → IsRegistered s number h
    → HasRegistered s gs number h
all_joined r s gs number h all has unknown opened new = record {
  each = λ n g there. (after n g there, is_another r s gs number n g h all has unknown there);
  is = new;
  ids = λ id n is. id_by id n is (same_or_other id (id_of h));
  peers = λ o n is. peer_by o n (opened o n is);
} where
  after : (n : ℕ) (g : Guest) → slice_get gs n ≡ Some (Some g) → IsRegistered s n g
  after n g there =
      let is = all.each n g there in
      record {
        story = is.story;
        known = is.known;
        own = has.others (id_of g) (λ same. let none = sym has.free ∙ ap (λ (i : ℕ). owner_in r.identifiers i) (sym same) ∙ is.own in absurd (cc)) ∙ is.own;
        opener = λ o opened. has.peers o n (is.opener o opened);
      }

  id_by : (id n : ℕ) → owner_in s.identifiers id ≡ Some n → (id ≡ id_of h) ⊎ (id ≢ id_of h) → (id_of h ≡ id) ⊎ ∥ IsThere (λ g. id_of g ≡ id) (slice_get gs n) ∥₁
  id_by id n is (inl e) = inl (sym e)
  id_by id n is (inr other) = inr (all.ids id n (sym (has.others id other) ∙ is))

  peer_by : (o : Peer) (n : ℕ) → (who_opened h ≡ Some o) ⊎ (get peer_cmp r.peers o ≡ Some n)
      → (who_opened h ≡ Some o) ⊎ ∥ IsThere (λ g. who_opened g ≡ Some o) (slice_get gs n) ∥₁
  peer_by o n (inl by) = inl by
  peer_by o n (inr was) = inr (all.peers o n was)

-- memory was refused for the peer
pub unentered : (r t : Register) (gs : Places) → t.identifiers ≡ r.identifiers → IsUnchanged r.peers t.peers → IsAllRegistered r gs → IsAllRegistered t gs
unentered r t gs same unchanged all = record {
  each = λ n g there.
      let is = all.each n g there in
      record {
        story = is.story;
        known = is.known;
        own = ap (λ (a : Ids). owner_in a (id_of g)) same ∙ is.own;
        opener = λ o opened. ap (λ (es : List (Peer × ℕ)). lookup (is_at (peer_cmp o)) es) unchanged ∙ is.opener o opened;
      };
  ids = λ id n is. all.ids id n (sym (ap (λ (a : Ids). owner_in a id) same) ∙ is);
  peers = λ o n is. all.peers o n (sym (ap (λ (es : List (Peer × ℕ)). lookup (is_at (peer_cmp o)) es) unchanged) ∙ is);
}
