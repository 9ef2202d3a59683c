-- The register leads to each connection what names it: to one that changes, and to none where there is none.
use Rattle.std.proofs.Common.{◌≡◌, ◌≢◌, ◌∙◌, ◌⊎◌, inl, inr, ap, refl, subst, sym, ℕ, ◌<◌, true, List, length, replicate, Option, Some, None, slice_get, get_or}
use Rattle.std.specs.Prelude.{slice_set}
use Rattle.std.specs.BTreeMap.{IsEmpty, is_at}
use Rattle.std.specs.Map.{lookup}
use Rattle.std.specs.Option.{is_none}
use Rattle.std.proofs.Math.Logic.{∥∥₁_map}
use Rattle.std.proofs.lemmas.Option.{same_Some, slice_get_read}
use Rattle.xns_host.specs.Identifiers.{is_free}
use Rattle.xns_host.specs.Register.{owner_in, peer_cmp}
use Rattle.xns_host.specs.Hosting.{IsThere}
use Rattle.xns_connection.specs.Ends.{KeepsEnd}
use Rattle.xns_host.specs.Knowing.{id_of, who_opened}
use Rattle.xns_host.specs.Registered.{HasStory, IsAllRegistered, IsRegistered}
use Rattle.xns_host.specs.declared.guest.Guest.{Guest}
use Rattle.xns_host.specs.declared.peer.Peer.{Peer}
use Rattle.xns_host.specs.declared.register.Register.{Register}
use Rattle.xns_host.proofs.Ends.{same_id, same_opener}
use Rattle.xns_agenda.proofs.Putting.{one_place, place_other, place_set, same_or_other}
use Rattle.xns_host.proofs.Noting.{none_there}

abbrev Places : Type 0
Places = List (Option Guest)

-- ---- one that is there changes

renamed : (r : Register) (n : ℕ) (g h : Guest) → KeepsEnd g.connection h.connection → (HasStory g → HasStory h) → IsRegistered r n g → IsRegistered r n h
renamed r n g h keeps story is =
    let id : id_of h ≡ id_of g = same_id g h keeps in
    record {
      story = ∥∥₁_map is.story story;
      known = subst (λ (i : ℕ). 0 < i) (sym id) is.known;
      own = ap (λ (i : ℕ). owner_in r.identifiers i) id ∙ is.own;
      opener = λ o opened. is.opener o (sym (same_opener g h keeps) ∙ opened);
    }

-- what holds of the connection that was in the place holds of the one that is there then
kept_there : (gs : Places) (n k : ℕ) (g h : Guest) (P : Guest → Type 0) → (P g → P h) → slice_get gs n ≡ Some (Some g) → n < length gs
    → IsThere P (slice_get gs k) → (k ≡ n) ⊎ (k ≢ n) → IsThere P (slice_get (slice_set gs n (Some h)) k)
kept_there gs n k g h P keeps there less at (inl e) =
    let here : slice_get gs n ≡ Some (Some at.guest) = subst (λ (m : ℕ). slice_get gs m ≡ Some (Some at.guest)) e at.there in
    let same : at.guest ≡ g = same_Some at.guest g (one_place (Some at.guest) (Some g) (slice_get gs n) here there) in
    record {
      guest = h;
      there = ap (λ (m : ℕ). slice_get (slice_set gs n (Some h)) m) e ∙ place_set gs n (Some h) less;
      is = keeps (subst P same at.is);
    }
kept_there gs n k g h P keeps there less at (inr other) =
    subst (λ (p : Option (Option Guest)). IsThere P p) (sym (place_other gs n k (Some h) other)) at

pub still_registered : (r : Register) (gs : Places) (n : ℕ) (old : Option Guest) (g h : Guest) → IsAllRegistered r gs → old ≡ Some g
    → KeepsEnd g.connection h.connection → (HasStory g → HasStory h) → n < length gs → old ≡ get_or gs n old → IsAllRegistered r (slice_set gs n (Some h))
still_registered r gs n old g h all was keeps story less read = record {
  each = λ k f is. by k f is (same_or_other k n);
  ids = λ id k is. ∥∥₁_map (all.ids id k is) (λ at. kept_there gs n k g h (λ (x : Guest). id_of x ≡ id)
      (λ named. same_id g h keeps ∙ named) there less at (same_or_other k n));
  peers = λ o k is. ∥∥₁_map (all.peers o k is) (λ at. kept_there gs n k g h (λ (x : Guest). who_opened x ≡ Some o)
      (λ opened. same_opener g h keeps ∙ opened) there less at (same_or_other k n));
} where
  there : slice_get gs n ≡ Some (Some g)
  there = slice_get_read gs (length gs) n old refl less read ∙ ap Some was

  by : (k : ℕ) (f : Guest) → slice_get (slice_set gs n (Some h)) k ≡ Some (Some f) → (k ≡ n) ⊎ (k ≢ n) → IsRegistered r k f
  by k f is (inl e) =
      let here : slice_get (slice_set gs n (Some h)) n ≡ Some (Some f) = subst (λ (m : ℕ). slice_get (slice_set gs n (Some h)) m ≡ Some (Some f)) e is in
      let one : h ≡ f = same_Some h f (one_place (Some h) (Some f) (slice_get (slice_set gs n (Some h)) n) (place_set gs n (Some h) less) here) in
      subst (λ (m : ℕ). IsRegistered r m f) (sym e)
      (subst (λ (x : Guest). IsRegistered r n x) one (renamed r n g h keeps story (all.each n g there)))
  by k f is (inr other) = all.each k f (sym (place_other gs n k (Some h) other) ∙ is)

-- ---- no connection

pub free_owner : (o : Option ℕ) → is_none o ≡ true → o ≡ None
free_owner None free = refl
free_owner (Some n) free = absurd (cc)

pub nobody_registered : (r : Register) (gs : Places) (most : ℕ) → gs ≡ replicate most None
    → ((id : ℕ) → is_free r.identifiers.owners id ≡ true) → IsEmpty r.peers → IsAllRegistered r gs
nobody_registered r gs most is free empty = record {
  each = λ n g there.
      let none : Some g ≡ None = none_there most n (Some g) (sym (ap (λ (xs : Places). slice_get xs n) is) ∙ there) in
      absurd (cc);
  ids = λ id n owned. let none = sym (free_owner (owner_in r.identifiers id) (free id)) ∙ owned in absurd (cc);
  peers = λ o n opened. let none = ap (λ (es : List (Peer × ℕ)). lookup (is_at (peer_cmp o)) es) (sym empty) ∙ opened in absurd (cc);
}
