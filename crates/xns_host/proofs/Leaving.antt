-- The register leads to no connection that is forgotten, and to the one that is put into the place.
use Rattle.std.proofs.Common.{◌≡◌, ◌≢◌, ◌∙◌, ◌⊎◌, inl, inr, ap, refl, subst, sym, ℕ, zero, suc, ◌<◌, Bool, true, false, List, [], ◌∷◌, length, Option, Some, None, slice_get, get_or, arith}
use Rattle.std.specs.Prelude.{slice_set}
use Rattle.std.specs.BTreeMap.{BTreeMap, Updates, get}
use Rattle.std.specs.Ordering.{is_eq}
use Rattle.std.proofs.Math.Logic.{∥∥₁_map}
use Rattle.std.proofs.lemmas.List.{get_or-set_other, length-set}
use Rattle.std.proofs.lemmas.Option.{same_Some}
use Rattle.xns_host.specs.Identifiers.{Ids}
use Rattle.xns_host.specs.Register.{owner_in, peer_cmp}
use Rattle.xns_host.specs.Hosting.{IsThere}
use Rattle.xns_host.specs.Knowing.{id_of, who_opened}
use Rattle.xns_host.specs.Registered.{HasLeft, HasRegistered, IsAllRegistered, IsAnother, IsRegistered, IsUnregistered}
use Rattle.xns_host.specs.declared.guest.Guest.{Guest}
use Rattle.xns_host.specs.declared.peer.Peer.{Peer}
use Rattle.xns_host.specs.declared.register.Register.{Register}
use Rattle.xns_agenda.proofs.Putting.{one_place, place_other, place_set, same_or_other}
use Rattle.xns_host.proofs.Openers.{is_equal, same_peer, stays}

abbrev Places : Type 0
Places = List (Option Guest)

-- ---- one is forgotten

-- two numbers are of two connections
another : (r : Register) (n k : ℕ) (g h : Guest) → n ≢ k → IsRegistered r n g → IsRegistered r k h → IsAnother g h
another r n k g h apart left right = record {
  own = λ same.
      let both : Some n ≡ Some k = sym left.own ∙ ap (λ (i : ℕ). owner_in r.identifiers i) (sym same) ∙ right.own in
      let e : n ≡ k = cc in
      apart e;
  opener = λ o is was.
      let both : Some n ≡ Some k = sym (left.opener o is) ∙ right.opener o was in
      let e : n ≡ k = cc in
      apart e;
}

-- where the identifier of a connection is released, another connection keeps its own
left_own : (r s : Register) (g h : Guest) (n : ℕ) → s.identifiers ≡ record r.identifiers { owners = slice_set r.identifiers.owners (id_of g) None }
    → IsAnother g h → owner_in r.identifiers (id_of h) ≡ Some n → owner_in s.identifiers (id_of h) ≡ Some n
left_own r s g h n released other is =
    ap (λ (ids : Ids). owner_in ids (id_of h)) released ∙ get_or-set_other r.identifiers.owners (id_of g) (id_of h) None None other.own ∙ is

-- where nobody has an identifier, it is nobody's
pub cleared : (owners : List (Option ℕ)) (id : ℕ) → get_or (slice_set owners id None) id None ≡ None
cleared [] id = refl
cleared (x ∷ xs) zero = refl
cleared (x ∷ xs) (suc id) = cleared xs id

gone_own : (r s : Register) (g h : Guest) → s.identifiers ≡ record r.identifiers { owners = slice_set r.identifiers.owners (id_of g) None } → g ≡ h
    → owner_in s.identifiers (id_of h) ≡ None
gone_own r s g h released same =
    ap (λ (ids : Ids). owner_in ids (id_of h)) released ∙ ap (λ (x : Guest). get_or (slice_set r.identifiers.owners (id_of g) None) (id_of x) None) (sym same)
    ∙ cleared r.identifiers.owners (id_of g)

-- the one that was in the place is this
same_guest : (place : Option (Option Guest)) (p : Option Guest) (g h : Guest) → place ≡ Some p → p ≡ Some g → place ≡ Some (Some h) → g ≡ h
same_guest place p g h there is was = same_Some g h (sym is ∙ one_place p (Some h) place there was)

-- an identifier that is in use then was in use
left_ids : (r s : Register) (g : Guest) (id n : ℕ) → s.identifiers ≡ record r.identifiers { owners = slice_set r.identifiers.owners (id_of g) None }
    → owner_in s.identifiers id ≡ Some n → (id ≡ id_of g) ⊎ (id ≢ id_of g) → owner_in r.identifiers id ≡ Some n
left_ids r s g id n released is (inl e) =
    let none = sym (cleared r.identifiers.owners (id_of g)) ∙ ap (λ (i : ℕ). get_or (slice_set r.identifiers.owners (id_of g) None) i None) (sym e)
    ∙ sym (ap (λ (ids : Ids). owner_in ids id) released) ∙ is in
    absurd (cc)
left_ids r s g id n released is (inr other) =
    sym (get_or-set_other r.identifiers.owners (id_of g) id None None other) ∙ sym (ap (λ (ids : Ids). owner_in ids id) released) ∙ is

-- a peer that the register has once an opener left, it had before
left_peers : (m n : BTreeMap Peer ℕ) (opener o : Peer) (k : ℕ) (b : Bool) → Updates peer_cmp m n opener None → is_eq (peer_cmp opener o) ≡ b
    → get peer_cmp n o ≡ Some k → get peer_cmp m o ≡ Some k
left_peers m n opener o k true u eq is =
    let same : opener ≡ o = same_peer opener o (is_equal (peer_cmp opener o) eq) in
    let none = sym u.1 ∙ ap (λ (p : Peer). get peer_cmp n p) same ∙ is in
    absurd (cc)
left_peers m n opener o k false u eq is = sym (u.2 o eq) ∙ is

pub left : (r s : Register) (place : Option (Option Guest)) (p : Option Guest) (g : Guest) → place ≡ Some p → p ≡ Some g
    → s.identifiers ≡ record r.identifiers { owners = slice_set r.identifiers.owners (id_of g) None } → who_opened g ≡ None → s.peers ≡ r.peers
    → HasLeft r s place
left r s place p g there is released none same = record {
  gone = λ h was.
      let one : g ≡ h = same_guest place p g h there is was in
      record {
        own = gone_own r s g h released one;
        opener = λ o opened. let both = sym none ∙ ap (λ (x : Guest). who_opened x) one ∙ opened in absurd (cc);
      };
  ids = λ id n is. left_ids r s g id n released is (same_or_other id (id_of g));
  peers = λ o n is. sym (ap (λ (m : BTreeMap Peer ℕ). get peer_cmp m o) same) ∙ is;
  others = λ n h at other. record {
    story = at.story;
    known = at.known;
    own = left_own r s g h n released (other g (there ∙ ap Some is)) at.own;
    opener = λ o opened. ap (λ (m : BTreeMap Peer ℕ). get peer_cmp m o) same ∙ at.opener o opened;
  };
}

pub left_opened : (r t s : Register) (place : Option (Option Guest)) (p : Option Guest) (g : Guest) (opener : Peer) → place ≡ Some p → p ≡ Some g
    → t.identifiers ≡ record r.identifiers { owners = slice_set r.identifiers.owners (id_of g) None } → t.peers ≡ r.peers → who_opened g ≡ Some opener
    → s.identifiers ≡ t.identifiers → Updates peer_cmp t.peers s.peers opener None → HasLeft r s place
left_opened r t s place p g opener there is released peers opened same u = record {
  gone = λ h was.
      let one : g ≡ h = same_guest place p g h there is was in
      record {
        own = gone_own r s g h (same ∙ released) one;
        opener = λ o by.
            let both : Some opener ≡ Some o = sym opened ∙ ap (λ (x : Guest). who_opened x) one ∙ by in
            let who : opener ≡ o = same_Some opener o both in
            ap (λ (x : Peer). get peer_cmp s.peers x) (sym who) ∙ u.1;
      };
  ids = λ id n at. left_ids r s g id n (same ∙ released) at (same_or_other id (id_of g));
  peers = λ o n at. sym (ap (λ (m : BTreeMap Peer ℕ). get peer_cmp m o) peers)
      ∙ left_peers t.peers s.peers opener o n (is_eq (peer_cmp opener o)) u refl at;
  others = λ n h at other.
      let apart = other g (there ∙ ap Some is) in
      record {
        story = at.story;
        known = at.known;
        own = left_own r s g h n (same ∙ released) apart at.own;
        opener = λ o by. stays t.peers s.peers opener o None u (λ one. apart.opener opener opened (by ∙ ap Some (sym one)))
            ∙ ap (λ (m : BTreeMap Peer ℕ). get peer_cmp m o) peers ∙ at.opener o by;
      };
}

-- where there is none, nothing leaves
pub none_left : (r : Register) (place : Option (Option Guest)) (p : Option Guest) → place ≡ Some p → p ≡ None → HasLeft r r place
none_left r place p there is = record {
  gone = λ g was. let both = sym is ∙ one_place p (Some g) place there was in absurd (cc);
  ids = λ id n at. at;
  peers = λ o n at. at;
  others = λ n g at other. at;
}

-- what is there of another place stays there
stays_there : (gs : Places) (n k : ℕ) (v : Option Guest) (P : Guest → Type 0) → IsThere P (slice_get gs k)
    → ((g : Guest) → slice_get gs n ≡ Some (Some g) → P g → ⊥) → (k ≡ n) ⊎ (k ≢ n) → IsThere P (slice_get (slice_set gs n v) k)
stays_there gs n k v P at not (inl e) =
    absurd (not at.guest (subst (λ (m : ℕ). slice_get gs m ≡ Some (Some at.guest)) e at.there) at.is)
stays_there gs n k v P at not (inr other) = subst (λ (p : Option (Option Guest)). IsThere P p) (sym (place_other gs n k v other)) at

not_id : (s : Register) (g : Guest) (id k : ℕ) → IsUnregistered s g → owner_in s.identifiers id ≡ Some k → id_of g ≡ id → ⊥
not_id s g id k gone is same = let none = sym gone.own ∙ ap (λ (i : ℕ). owner_in s.identifiers i) same ∙ is in absurd (cc)

not_opener : (s : Register) (g : Guest) (o : Peer) (k : ℕ) → IsUnregistered s g → get peer_cmp s.peers o ≡ Some k → who_opened g ≡ Some o → ⊥
not_opener s g o k gone is opened = let none = sym (gone.opener o opened) ∙ is in absurd (cc)

pub forgotten : (r s : Register) (gs hs : Places) (n : ℕ) → IsAllRegistered r gs → n < length gs → hs ≡ slice_set gs n None
    → HasLeft r s (slice_get gs n) → IsAllRegistered s hs
forgotten r s gs hs n all less set has = subst (λ (xs : Places). IsAllRegistered s xs) (sym set) (record {
  each = λ k g is. by k g is (same_or_other k n);
  ids = λ id k is. ∥∥₁_map (all.ids id k (has.ids id k is)) (λ at. stays_there gs n k None (λ g. id_of g ≡ id) at
      (λ g there same. not_id s g id k (has.gone g there) is same) (same_or_other k n));
  peers = λ o k is. ∥∥₁_map (all.peers o k (has.peers o k is)) (λ at. stays_there gs n k None (λ g. who_opened g ≡ Some o) at
      (λ g there opened. not_opener s g o k (has.gone g there) is opened) (same_or_other k n));
}) where
  by : (k : ℕ) (g : Guest) → slice_get (slice_set gs n None) k ≡ Some (Some g) → (k ≡ n) ⊎ (k ≢ n) → IsRegistered s k g
  by k g is (inl e) =
      let here : slice_get (slice_set gs n None) n ≡ Some (Some g) = subst (λ (m : ℕ). slice_get (slice_set gs n None) m ≡ Some (Some g)) e is in
      let one : None ≡ Some g = one_place None (Some g) (slice_get (slice_set gs n None) n) (place_set gs n None less) here in
      absurd (cc)
  by k g is (inr other) =
      let at : IsRegistered r k g = all.each k g (sym (place_other gs n k None other) ∙ is) in
      has.others k g at (λ h there. another r n k h g (λ e. other (sym e)) (all.each n h there) at)

-- ---- one is put into its place

twice : (gs : Places) (n k : ℕ) (v w : Option Guest) → k ≢ n → slice_get (slice_set (slice_set gs n v) n w) k ≡ slice_get gs k
twice gs n k v w other = place_other (slice_set gs n v) n k w other ∙ place_other gs n k v other

pub seated : (r s : Register) (gs xs hs : Places) (n : ℕ) (g : Guest) → HasRegistered r gs n g → n < length gs → HasLeft r s (slice_get gs n)
    → xs ≡ slice_set gs n None → hs ≡ slice_set xs n (Some g) → IsAllRegistered s hs
seated r s gs xs hs n g joined less has gone set = record {
  each = λ k h at. by k h at (same_or_other k n);
  ids = λ id k is. id_by id k is (joined.ids id k (has.ids id k is)) (same_or_other k n);
  peers = λ o k is. peer_by o k is (joined.peers o k (has.peers o k is)) (same_or_other k n);
} where
  both : hs ≡ slice_set (slice_set gs n None) n (Some g)
  both = set ∙ ap (λ (ys : Places). slice_set ys n (Some g)) gone

  long : n < length (slice_set gs n None)
  long = omega (arith, length-set gs n None, less)

  here : slice_get hs n ≡ Some (Some g)
  here = ap (λ (ys : Places). slice_get ys n) both ∙ place_set (slice_set gs n None) n (Some g) long

  apart : (k : ℕ) → k ≢ n → slice_get hs k ≡ slice_get gs k
  apart k other = ap (λ (ys : Places). slice_get ys k) both ∙ twice gs n k None (Some g) other

  is_new : IsRegistered s n g
  is_new = has.others n g joined.is (λ h there. (joined.each n h there).1)

  by : (k : ℕ) (h : Guest) → slice_get hs k ≡ Some (Some h) → (k ≡ n) ⊎ (k ≢ n) → IsRegistered s k h
  by k h at (inl e) =
      let there : slice_get hs n ≡ Some (Some h) = subst (λ (m : ℕ). slice_get hs m ≡ Some (Some h)) e at in
      let same : g ≡ h = same_Some g h (one_place (Some g) (Some h) (slice_get hs n) here there) in
      subst (λ (m : ℕ). IsRegistered s m h) (sym e) (subst (λ (x : Guest). IsRegistered s n x) same is_new)
  by k h at (inr other) =
      let was : IsRegistered r k h = (joined.each k h (sym (apart k other) ∙ at)).0 in
      has.others k h was (λ x there. another r n k x h (λ e. other (sym e)) (joined.each n x there).0 was)

  old_by : (k : ℕ) (P : Guest → Type 0) → IsThere P (slice_get gs k) → ((x : Guest) → slice_get gs n ≡ Some (Some x) → P x → ⊥)
      → (k ≡ n) ⊎ (k ≢ n) → IsThere P (slice_get hs k)
  old_by k P at not (inl e) =
      absurd (not at.guest (subst (λ (m : ℕ). slice_get gs m ≡ Some (Some at.guest)) e at.there) at.is)
  old_by k P at not (inr other) = subst (λ (p : Option (Option Guest)). IsThere P p) (sym (apart k other)) at

  new_by : (k : ℕ) (P : Guest → Type 0) → P g → n ≡ k → IsThere P (slice_get hs k)
  new_by k P has_it e = record { guest = g; there = ap (λ (m : ℕ). slice_get hs m) (sym e) ∙ here; is = has_it }

  id_by : (id k : ℕ) → owner_in s.identifiers id ≡ Some k → (id_of g ≡ id) ⊎ ∥ IsThere (λ x. id_of x ≡ id) (slice_get gs k) ∥₁
      → (k ≡ n) ⊎ (k ≢ n) → ∥ IsThere (λ x. id_of x ≡ id) (slice_get hs k) ∥₁
  id_by id k is (inl same) or =
      ∣ new_by k (λ x. id_of x ≡ id) same (same_Some n k (sym is_new.own ∙ ap (λ (i : ℕ). owner_in s.identifiers i) same ∙ is)) ∣₁
  id_by id k is (inr was) or =
      ∥∥₁_map was (λ at. old_by k (λ x. id_of x ≡ id) at (λ x there same. not_id s x id k (has.gone x there) is same) or)

  peer_by : (o : Peer) (k : ℕ) → get peer_cmp s.peers o ≡ Some k → (who_opened g ≡ Some o) ⊎ ∥ IsThere (λ x. who_opened x ≡ Some o) (slice_get gs k) ∥₁
      → (k ≡ n) ⊎ (k ≢ n) → ∥ IsThere (λ x. who_opened x ≡ Some o) (slice_get hs k) ∥₁
  peer_by o k is (inl same) or = ∣ new_by k (λ x. who_opened x ≡ Some o) same (same_Some n k (sym (is_new.opener o same) ∙ is)) ∣₁
  peer_by o k is (inr was) or =
      ∥∥₁_map was (λ at. old_by k (λ x. who_opened x ≡ Some o) at (λ x there opened. not_opener s x o k (has.gone x there) is opened) or)
