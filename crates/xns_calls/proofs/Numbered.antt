-- Each connection has a number of its own.
use Rattle.std.proofs.Common.{◌≡◌, ◌∙◌, ap, sym, refl, arith, inl, inr, ℕ, zero, suc, ◌+◌, ◌≤◌, ◌<◌, ◌⊎◌, Bool, true, false, cond, List, [], ◌∷◌, ◌++◌, length, Option, Some, None}
use Rattle.std.specs.Prelude.{slice_get, slice_set}
use Rattle.xns_idp.specs.Packet.{PacketModel}
use Rattle.xns_spp.specs.Header.{is_system}
use Rattle.xns_spp.specs.declared.header.Header.{Header}
use Rattle.xns_dump.specs.Flows.{flow_of}
use Rattle.xns_dump.specs.declared.flows.flow.Flow.{Flow}
use Rattle.xns_calls.specs.Acknowledged.{noted_beside}
use Rattle.xns_calls.specs.Anew.{begins_anew}
use Rattle.xns_calls.specs.Capture.{Known, after_at, after_place, after_sequenced, after_there, forgotten, is_behind_in, new_connection, place_of, renewed, renewed_there, repeats_told, settled_at, settled_there, taken_in, with_new, with_scene}
use Rattle.xns_calls.specs.Exchange.{Scene}
use Rattle.xns_calls.specs.Over.{side_in}
use Rattle.xns_calls.specs.declared.connection.Connection.{Connection}
use Rattle.xns_calls.specs.declared.origin.Origin.{Origin}
use Rattle.xns_calls.specs.declared.track.Track.{Track}

pub record IsNumbered (cs : List Connection) (count : ℕ) : Type 0 where
  pub below : (i : ℕ) (c : Connection) → slice_get cs i ≡ Some c → c.number ≤ count
  pub alone : (i j : ℕ) (c d : Connection) → slice_get cs i ≡ Some c → slice_get cs j ≡ Some d → c.number ≡ d.number → i ≡ j

-- ---- lists

-- what stands in a list of which one element is another
pub set_cases : (xs : List Connection) (i j : ℕ) (y d : Connection) → slice_get (slice_set xs i y) j ≡ Some d → ((i ≡ j) × (d ≡ y)) ⊎ ((i ≡ j → ⊥) × (slice_get xs j ≡ Some d))
set_cases [] i j y d e = (cc)
set_cases (x ∷ xs) zero zero y d e = inl (refl, let same : d ≡ y = (cc) in same)
set_cases (x ∷ xs) zero (suc j) y d e = inr (λ same. omega (arith, same), e)
set_cases (x ∷ xs) (suc i) zero y d e = inr (λ same. omega (arith, same), e)
set_cases (x ∷ xs) (suc i) (suc j) y d e = by_case (set_cases xs i j y d e)
  where
    by_case : ((i ≡ j) × (d ≡ y)) ⊎ ((i ≡ j → ⊥) × (slice_get xs j ≡ Some d)) → ((suc i ≡ suc j) × (d ≡ y)) ⊎ ((suc i ≡ suc j → ⊥) × (slice_get xs j ≡ Some d))
    by_case (inl (same, is)) = inl (ap suc same, is)
    by_case (inr (other, is)) = inr (λ same. other (omega (arith, same)), is)

-- where an element of a list with one more behind it stands
pub more_cases : (xs : List Connection) (j : ℕ) (y d : Connection) → slice_get (xs ++ y ∷ []) j ≡ Some d → ((j ≡ length xs) × (d ≡ y)) ⊎ ((j < length xs) × (slice_get xs j ≡ Some d))
more_cases [] zero y d e = inl (refl, let same : d ≡ y = (cc) in same)
more_cases [] (suc j) y d e = (cc)
more_cases (x ∷ xs) zero y d e = inr (let lt : 0 < length (x ∷ xs) = omega arith in lt, e)
more_cases (x ∷ xs) (suc j) y d e = by_case (more_cases xs j y d e)
  where
    by_case : ((j ≡ length xs) × (d ≡ y)) ⊎ ((j < length xs) × (slice_get xs j ≡ Some d)) → ((suc j ≡ length (x ∷ xs)) × (d ≡ y)) ⊎ ((suc j < length (x ∷ xs)) × (slice_get xs j ≡ Some d))
    by_case (inl (last, is)) = inl (ap suc last, is)
    by_case (inr (lt, is)) = inr (let more : suc j < length (x ∷ xs) = omega (arith, lt) in more, is)

-- ---- what stays so

pub numbered_none : IsNumbered [] 0
numbered_none = record { below = λ i c e. (cc); alone = λ i j c d e f same. (cc) }

pub numbered_set : (cs : List Connection) (n i : ℕ) (c c' : Connection) → IsNumbered cs n → slice_get cs i ≡ Some c → c'.number ≡ c.number → IsNumbered (slice_set cs i c') n
numbered_set cs n i c c' w there same = record {
  below = λ j d e. below_of j d (set_cases cs i j c' d e);
  alone = λ j l d g e f equal. alone_of j l d g equal (set_cases cs i j c' d e) (set_cases cs i l c' g f);
}
  where
    below_of : (j : ℕ) (d : Connection) → ((i ≡ j) × (d ≡ c')) ⊎ ((i ≡ j → ⊥) × (slice_get cs j ≡ Some d)) → d.number ≤ n
    below_of j d (inl (at, is)) =
        let le : c.number ≤ n = w.below i c there in
        let number : d.number ≡ c.number = ap (λ (x : Connection). x.number) is ∙ same in omega (arith, le, number)
    below_of j d (inr (other, is)) = w.below j d is

    alone_of : (j l : ℕ) (d g : Connection) → d.number ≡ g.number → ((i ≡ j) × (d ≡ c')) ⊎ ((i ≡ j → ⊥) × (slice_get cs j ≡ Some d))
        → ((i ≡ l) × (g ≡ c')) ⊎ ((i ≡ l → ⊥) × (slice_get cs l ≡ Some g)) → j ≡ l
    alone_of j l d g equal (inl (at, is)) (inl (at', is')) = sym at ∙ at'
    alone_of j l d g equal (inl (at, is)) (inr (other, is')) =
        sym at ∙ w.alone i l c g there is' (sym (ap (λ (x : Connection). x.number) is ∙ same) ∙ equal)
    alone_of j l d g equal (inr (other, is)) (inl (at', is')) =
        w.alone j i d c is there (equal ∙ ap (λ (x : Connection). x.number) is' ∙ same) ∙ at'
    alone_of j l d g equal (inr (other, is)) (inr (other', is')) = w.alone j l d g is is' equal

pub fresh_number : (d g : ℕ) (n : ℕ) → d ≡ n + 1 → g ≤ n → d ≡ g → ⊥
fresh_number d g n e le same = omega (arith, e, le, same)

pub numbered_renewed : (cs : List Connection) (n i : ℕ) (c' : Connection) → IsNumbered cs n → c'.number ≡ n + 1 → IsNumbered (slice_set cs i c') (n + 1)
numbered_renewed cs n i c' w new = record {
  below = λ j d e. below_of j d (set_cases cs i j c' d e);
  alone = λ j l d g e f equal. alone_of j l d g equal (set_cases cs i j c' d e) (set_cases cs i l c' g f);
}
  where
    below_of : (j : ℕ) (d : Connection) → ((i ≡ j) × (d ≡ c')) ⊎ ((i ≡ j → ⊥) × (slice_get cs j ≡ Some d)) → d.number ≤ n + 1
    below_of j d (inl (at, is)) = let number : d.number ≡ n + 1 = ap (λ (x : Connection). x.number) is ∙ new in omega (arith, number)
    below_of j d (inr (other, is)) = let le : d.number ≤ n = w.below j d is in omega (arith, le)

    alone_of : (j l : ℕ) (d g : Connection) → d.number ≡ g.number → ((i ≡ j) × (d ≡ c')) ⊎ ((i ≡ j → ⊥) × (slice_get cs j ≡ Some d))
        → ((i ≡ l) × (g ≡ c')) ⊎ ((i ≡ l → ⊥) × (slice_get cs l ≡ Some g)) → j ≡ l
    alone_of j l d g equal (inl (at, is)) (inl (at', is')) = sym at ∙ at'
    alone_of j l d g equal (inl (at, is)) (inr (other, is')) =
        absurd (fresh_number d.number g.number n (ap (λ (x : Connection). x.number) is ∙ new) (w.below l g is') equal)
    alone_of j l d g equal (inr (other, is)) (inl (at', is')) =
        absurd (fresh_number g.number d.number n (ap (λ (x : Connection). x.number) is' ∙ new) (w.below j d is) (sym equal))
    alone_of j l d g equal (inr (other, is)) (inr (other', is')) = w.alone j l d g is is' equal

pub numbered_more : (cs : List Connection) (n : ℕ) (c' : Connection) → IsNumbered cs n → c'.number ≡ n + 1 → IsNumbered (cs ++ c' ∷ []) (n + 1)
numbered_more cs n c' w new = record {
  below = λ j d e. below_of j d (more_cases cs j c' d e);
  alone = λ j l d g e f equal. alone_of j l d g equal (more_cases cs j c' d e) (more_cases cs l c' g f);
}
  where
    below_of : (j : ℕ) (d : Connection) → ((j ≡ length cs) × (d ≡ c')) ⊎ ((j < length cs) × (slice_get cs j ≡ Some d)) → d.number ≤ n + 1
    below_of j d (inl (at, is)) = let number : d.number ≡ n + 1 = ap (λ (x : Connection). x.number) is ∙ new in omega (arith, number)
    below_of j d (inr (lt, is)) = let le : d.number ≤ n = w.below j d is in omega (arith, le)

    alone_of : (j l : ℕ) (d g : Connection) → d.number ≡ g.number → ((j ≡ length cs) × (d ≡ c')) ⊎ ((j < length cs) × (slice_get cs j ≡ Some d))
        → ((l ≡ length cs) × (g ≡ c')) ⊎ ((l < length cs) × (slice_get cs l ≡ Some g)) → j ≡ l
    alone_of j l d g equal (inl (at, is)) (inl (at', is')) = at ∙ sym at'
    alone_of j l d g equal (inl (at, is)) (inr (lt, is')) =
        absurd (fresh_number d.number g.number n (ap (λ (x : Connection). x.number) is ∙ new) (w.below l g is') equal)
    alone_of j l d g equal (inr (lt, is)) (inl (at', is')) =
        absurd (fresh_number g.number d.number n (ap (λ (x : Connection). x.number) is' ∙ new) (w.below j d is) (sym equal))
    alone_of j l d g equal (inr (lt, is)) (inr (lt', is')) = w.alone j l d g is is' equal

-- ---- what is kept of the flow of a number

-- of each connection with that number, so much is kept of one of its flows
abbrev pub AllKeep : ℕ → Bool → List Connection → Option Track → Type 0
AllKeep m b cs o = (i : ℕ) (c : Connection) → slice_get cs i ≡ Some c → c.number ≡ m → (side_in b c).track ≡ o

pub keep_set : (m : ℕ) (b : Bool) (cs : List Connection) (i : ℕ) (c' : Connection) (o : Option Track) → AllKeep m b cs o → (c'.number ≡ m → (side_in b c').track ≡ o) → AllKeep m b (slice_set cs i c') o
keep_set m b cs i c' o all new j d e is = by_case (set_cases cs i j c' d e)
  where
    by_case : ((i ≡ j) × (d ≡ c')) ⊎ ((i ≡ j → ⊥) × (slice_get cs j ≡ Some d)) → (side_in b d).track ≡ o
    by_case (inl (at, one)) = ap (λ (x : Connection). (side_in b x).track) one ∙ new (sym (ap (λ (x : Connection). x.number) one) ∙ is)
    by_case (inr (other, at)) = all j d at is

pub keep_more : (m : ℕ) (b : Bool) (cs : List Connection) (c' : Connection) (o : Option Track) → AllKeep m b cs o → (c'.number ≡ m → (side_in b c').track ≡ o) → AllKeep m b (cs ++ c' ∷ []) o
keep_more m b cs c' o all new j d e is = by_case (more_cases cs j c' d e)
  where
    by_case : ((j ≡ length cs) × (d ≡ c')) ⊎ ((j < length cs) × (slice_get cs j ≡ Some d)) → (side_in b d).track ≡ o
    by_case (inl (at, one)) = ap (λ (x : Connection). (side_in b x).track) one ∙ new (sym (ap (λ (x : Connection). x.number) one) ∙ is)
    by_case (inr (lt, at)) = all j d at is

-- ---- a packet

abbrev pub AreNumbered : Known → Type 0
AreNumbered k = IsNumbered k.connections k.count

-- a flow that changes leaves the number
pub scene_number : (b : Bool) (s : Scene) (f : Header) (c : Connection) → (with_scene b s (noted_beside b f c)).number ≡ c.number
scene_number true s f c = refl
scene_number false s f c = refl

pub same_number : (b : Bool) (s : Scene) (c : Connection) → (with_scene b s c).number ≡ c.number
same_number true s c = refl
same_number false s c = refl

pub numbered_taken : (n : Origin) (i : ℕ) (q : Bool) (packet : PacketModel) (f : Header) (content : List ℕ) (c : Connection) (k : Known) → slice_get k.connections i ≡ Some c → AreNumbered k
    → AreNumbered (taken_in n i q packet f content c k)
numbered_taken n i q packet f content c k there w = numbered_set k.connections k.count i c _ w there (scene_number q _ f c)

-- what holds of the connections and their count with each packet: where one of them changes, but for its number and its flow, where one begins
-- in its place, and where one begins behind them
pub record Stays (P : List Connection → ℕ → Type 0) : Type 0 where
  pub set : (cs : List Connection) (n i : ℕ) (c c' : Connection) → P cs n → slice_get cs i ≡ Some c → c'.number ≡ c.number → c'.flow ≡ c.flow → P (slice_set cs i c') n
  pub anew : (cs : List Connection) (n i : ℕ) (flow : Flow) → P cs n → P (slice_set cs i (new_connection (n + 1) flow)) (n + 1)
  pub more : (cs : List Connection) (n : ℕ) (flow : Flow) → P cs n → P (cs ++ new_connection (n + 1) flow ∷ []) (n + 1)

pub numbered_stays : Stays IsNumbered
numbered_stays = record {
  set = λ cs n i c c' w there number flow. numbered_set cs n i c c' w there number;
  anew = λ cs n i flow w. numbered_renewed cs n i (new_connection (n + 1) flow) w refl;
  more = λ cs n flow w. numbered_more cs n (new_connection (n + 1) flow) w refl;
}

scene_flow : (b : Bool) (s : Scene) (f : Header) (c : Connection) → (with_scene b s (noted_beside b f c)).flow ≡ c.flow
scene_flow true s f c = refl
scene_flow false s f c = refl

same_flow : (b : Bool) (s : Scene) (c : Connection) → (with_scene b s c).flow ≡ c.flow
same_flow true s c = refl
same_flow false s c = refl

module _ (P : List Connection → ℕ → Type 0) (stays : Stays P) where
  abbrev Holds : Known → Type 0
  Holds k = P k.connections k.count

  settled_holds : (n : Origin) (i : ℕ) (q : Bool) (k : Known) → Holds k → Holds (settled_at n i q k)
  unfolding settled_at
  settled_holds n i q k w = by_connection (slice_get k.connections i) refl
    where
      by_connection : (o : Option Connection) → slice_get k.connections i ≡ o → Holds (settled_there n i q o k)
      by_connection None there = w
      by_connection (Some c) there = stays.set k.connections k.count i c _ w there (same_number q _ c) (same_flow q _ c)

  there_holds : (n : Origin) (i : ℕ) (flow : Flow) (packet : PacketModel) (f : Header) (content : List ℕ) (o : Option Connection) (k : Known) → slice_get k.connections i ≡ o → Holds k
      → Holds (after_there n i flow packet f content o k)
  there_holds n i flow packet f content None k there w = w
  there_holds n i flow packet f content (Some c) k there w =
      let q = is_behind_in flow c in
      let told = repeats_told n q f c k in
      settled_holds n i q (taken_in n i q packet f content c told) (stays.set k.connections k.count i c _ w there (scene_number q _ f c) (scene_flow q _ f c))

  at_holds : (n : Origin) (i : ℕ) (flow : Flow) (packet : PacketModel) (f : Header) (content : List ℕ) (k : Known) → Holds k → Holds (after_at n i flow packet f content k)
  unfolding after_at
  at_holds n i flow packet f content k w = there_holds n i flow packet f content (slice_get k.connections i) k refl w

  place_holds : (n : Origin) (flow : Flow) (packet : PacketModel) (f : Header) (content : List ℕ) (o : Option ℕ) (k : Known) → Holds k → Holds (after_place n flow packet f content o k)
  unfolding renewed
  place_holds n flow packet f content (Some i) k w = at_holds n i flow packet f content (renewed n i flow f k) (by_connection (slice_get k.connections i))
    where
      by_anew : (c : Connection) (p : Bool) → Holds (cond p (forgotten n i flow c k) k)
      by_anew c true = stays.anew k.connections k.count i flow w
      by_anew c false = w

      by_connection : (o : Option Connection) → Holds (renewed_there n i flow f o k)
      by_connection None = w
      by_connection (Some c) = by_anew c (begins_anew f c)
  place_holds n flow packet f content None k w = by_system (is_system f)
    where
      by_system : (p : Bool) → Holds (cond p k (after_at n (length k.connections) flow packet f content (with_new flow k)))
      by_system true = w
      by_system false = at_holds n (length k.connections) flow packet f content (with_new flow k) (stays.more k.connections k.count flow w)

  pub sequenced_holds : (n : Origin) (packet : PacketModel) (f : Header) (content : List ℕ) (k : Known) → P k.connections k.count
      → P (after_sequenced n packet f content k).connections (after_sequenced n packet f content k).count
  unfolding after_sequenced
  sequenced_holds n packet f content k w = place_holds n (flow_of packet f) packet f content (place_of (flow_of packet f) k.connections) k w
