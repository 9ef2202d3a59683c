-- Where a flow of a whole input stands that has begun, and a step of what happens to it.
use Rattle.std.proofs.Common.{◌≡◌, ◌∙◌, ap, sym, refl, subst, inl, inr, ℕ, ◌≤◌, ◌⊎◌, Bool, true, false, List, [], ◌∷◌, ◌++◌, append_assoc, append-nil, Some}
use Rattle.std.specs.Prelude.{not, slice_get}
use Rattle.std.proofs.lemmas.Grind.{flat_map-append}
use Rattle.xns_spp.specs.declared.header.Header.{Header}
use Rattle.xns_calls.specs.Acknowledged.{noted_beside}
use Rattle.xns_calls.specs.Capture.{Known, after_scene, heading_at, scene_in, with_scene}
use Rattle.xns_calls.specs.Events.{Event, after_events, meanwhile, with_others}
use Rattle.xns_calls.specs.Exchange.{Scene, seen_from_other, told_of}
use Rattle.xns_calls.specs.Input.{Part, part_text, parts_text, text_in, texts_in}
use Rattle.xns_calls.specs.Reading.{Told}
use Rattle.xns_calls.specs.Whole.{flow_text}
use Rattle.xns_calls.specs.declared.connection.Connection.{Connection}
use Rattle.xns_calls.specs.declared.origin.Origin.{Origin}
use Rattle.xns_calls.proofs.Fits.{Fits, fits, fits_on}
use Rattle.xns_calls.proofs.Ordered.{IsOrdered}
use Rattle.xns_calls.proofs.Others.{get_same}
use Rattle.xns_calls.proofs.Whole.{after_append}
use Rattle.xns_calls.proofs.AtLines.{AreAt, both_at}
use Rattle.xns_calls.proofs.Parts.{flow_append, flow_at, plain}

-- ---- where a flow stands that has begun

pub record IsAt (m : ℕ) (b : Bool) (k : Known) (t : Told) : Type 0 where
  pub place : ℕ
  pub connection : Connection
  pub there : slice_get k.connections place ≡ Some connection
  pub number : connection.number ≡ m
  pub track : (scene_in b connection k).own.track ≡ Some t.track
  pub is : t ≡ told_of t.track (scene_in b connection k)
  pub ordered : IsOrdered t

-- the flow's connection was forgotten, and nothing of it is kept any more
pub record IsGone (m : ℕ) (k : Known) (t : Told) : Type 0 where
  pub counted : m ≤ k.count
  pub none : (i : ℕ) (c : Connection) → slice_get k.connections i ≡ Some c → c.number ≡ m → ⊥
  pub empty : t.track.early ≡ []

abbrev pub IsOn : ℕ → Bool → Known → Told → Type 0
IsOn m b k t = IsAt m b k t ⊎ IsGone m k t

-- behind a packet of its own
pub stands_own : (i : ℕ) (b : Bool) (f : Header) (c : Connection) (s : Scene) (k : Known) → slice_get k.connections i ≡ Some c → (u : Told) → IsOrdered u → s.own.track ≡ Some u.track → u ≡ told_of u.track s
    → IsAt c.number b (after_scene i b (noted_beside b f c) s k) u
stands_own i true f c s k e u ordered track is = record { place = i; connection = with_scene true s (noted_beside true f c); there = get_same k.connections i c (with_scene true s (noted_beside true f c)) e; number = refl; track = track; is = is; ordered = ordered }
stands_own i false f c s k e u ordered track is = record { place = i; connection = with_scene false s (noted_beside false f c); there = get_same k.connections i c (with_scene false s (noted_beside false f c)) e; number = refl; track = track; is = is; ordered = ordered }

-- behind a packet of the flow behind it
pub stands_behind : (i : ℕ) (q : Bool) (f : Header) (c : Connection) (s : Scene) (k : Known) → slice_get k.connections i ≡ Some c → (u : Told) → IsOrdered u → s.other.track ≡ Some u.track
    → u ≡ told_of u.track (seen_from_other s) → IsAt c.number (not q) (after_scene i q (noted_beside q f c) s k) u
stands_behind i true f c s k e u ordered track is = record { place = i; connection = with_scene true s (noted_beside true f c); there = get_same k.connections i c (with_scene true s (noted_beside true f c)) e; number = refl; track = track; is = is; ordered = ordered }
stands_behind i false f c s k e u ordered track is = record { place = i; connection = with_scene false s (noted_beside false f c); there = get_same k.connections i c (with_scene false s (noted_beside false f c)) e; number = refl; track = track; is = is; ordered = ordered }

-- where its connection stays
still_as : (m : ℕ) (b : Bool) (k k' : Known) (t u : Told) → (a : IsAt m b k t) → slice_get k'.connections a.place ≡ slice_get k.connections a.place
    → (scene_in b a.connection k').own.track ≡ Some u.track → u ≡ told_of u.track (scene_in b a.connection k') → IsOrdered u → IsAt m b k' u
still_as m b k k' t u a same track is ordered = record {
  place = a.place;
  connection = a.connection;
  there = same ∙ a.there;
  number = a.number;
  track = track;
  is = is;
  ordered = ordered;
}

pub still : (m : ℕ) (b : Bool) (k k' : Known) (t : Told) → (a : IsAt m b k t) → slice_get k'.connections a.place ≡ slice_get k.connections a.place → IsAt m b k' (with_others t.calls k'.text k'.is_refused t)
still m true k k' t a same = still_as m true k k' t _ a same a.track (ap (λ (x : Told). with_others x.calls k'.text k'.is_refused t) a.is) a.ordered
still m false k k' t a same = still_as m false k k' t _ a same a.track (ap (λ (x : Told). with_others x.calls k'.text k'.is_refused t) a.is) a.ordered

-- ---- a packet, for a flow that has begun

pub record Stepped (n : Origin) (m : ℕ) (b : Bool) (k k' : Known) (t : Told) (happened : List Event) : Type 0 where
  pub events : List Event
  pub are : Fits happened (plain events)
  pub at : AreAt (heading_at n m b) events
  pub stands : IsOn m b k' (after_events events t)
  pub parts : List Part
  pub text : k'.text ≡ k.text ++ parts_text parts
  pub own : texts_in (flow_at m b) parts ≡ flow_text events t

pub unchanged : (n : Origin) (m : ℕ) (b : Bool) (k k' : Known) (t : Told) (parts : List Part) → k'.text ≡ k.text ++ parts_text parts → texts_in (flow_at m b) parts ≡ []
    → (a : IsAt m b k t) → slice_get k'.connections a.place ≡ slice_get k.connections a.place → Stepped n m b k k' t []
unchanged n m b k k' t parts text own a same = record {
  events = meanwhile t.calls k'.text k'.is_refused ∷ [];
  are = fits [] [] refl;
  at = tt;
  stands = inl (still m b k k' t a same);
  parts = parts;
  text = text;
  own = own;
}

pub stays_gone : (n : Origin) (m : ℕ) (b : Bool) (k k' : Known) (t : Told) (parts : List Part) → k'.text ≡ k.text ++ parts_text parts → texts_in (flow_at m b) parts ≡ [] → IsGone m k' t → Stepped n m b k k' t []
stays_gone n m b k k' t parts text own gone = record { events = []; are = fits [] [] refl; at = tt; stands = inr gone; parts = parts; text = text; own = own }

-- nothing happens
pub nothing_step : (n : Origin) (m : ℕ) (b : Bool) (k : Known) (t : Told) → IsOn m b k t → Stepped n m b k k t []
nothing_step n m b k t (inl a) = unchanged n m b k k t [] (sym (append-nil k.text)) refl a refl
nothing_step n m b k t (inr gone) = stays_gone n m b k k t [] (sym (append-nil k.text)) refl gone

-- one step behind another
pub two_steps : (n : Origin) (m : ℕ) (b : Bool) (k k' k'' : Known) (t : Told) (xs ys : List Event) → Stepped n m b k k' t xs → ((u : Told) → IsOn m b k' u → Stepped n m b k' k'' u ys) → Stepped n m b k k'' t (xs ++ ys)
two_steps n m b k k' k'' t xs ys w next =
    let v = next (after_events w.events t) w.stands in
    let P = flow_at m b in record {
      events = w.events ++ v.events;
      are = fits_on xs ys w.events v.events w.are v.are;
      at = both_at (heading_at n m b) w.events v.events w.at v.at;
      stands = subst (IsOn m b k'') (sym (after_append w.events v.events t)) v.stands;
      parts = w.parts ++ v.parts;
      text = v.text ∙ ap (λ z. z ++ parts_text v.parts) w.text ∙ append_assoc k.text (parts_text w.parts) (parts_text v.parts) ∙ ap (λ z. k.text ++ z) (sym (flat_map-append part_text w.parts v.parts));
      own = flat_map-append (text_in P) w.parts v.parts ∙ ap (λ z. z ++ texts_in P v.parts) w.own ∙ ap (λ z. flow_text w.events t ++ z) v.own ∙ sym (flow_append w.events v.events t);
    }
