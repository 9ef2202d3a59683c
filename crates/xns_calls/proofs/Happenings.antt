-- What a packet does at the place of a connection, for a flow of a whole input that has begun.
use Rattle.std.proofs.Common.{◌≡◌, ◌∙◌, ap, sym, refl, subst, inl, inr, ℕ, ◌==◌, ◌⊎◌, Bool, true, false, cond, List, [], ◌∷◌, ◌++◌, length, drop, append-nil, Option, Some, None}
use Rattle.std.specs.Prelude.{not, slice_get, slice_set}
use Rattle.std.proofs.lemmas.Bool.{eqb-false, eqb-true}
use Rattle.xns_idp.specs.Packet.{PacketModel}
use Rattle.xns_spp.specs.Header.{is_system}
use Rattle.xns_spp.specs.declared.header.Header.{Header}
use Rattle.xns_calls.specs.Acknowledged.{acknowledged_in, due_in, due_of, given_in}
use Rattle.xns_calls.specs.Capture.{Known, after_in, heading_at, repeats_told, scene_in, settled_at, settled_there, taken_in, with_scene}
use Rattle.xns_calls.specs.Events.{Event, acknowledged_event, after_event, after_events, meanwhile, own_events, with_others}
use Rattle.xns_calls.specs.Exchange.{Scene, after_packet, after_told, carried, of_other, other_reached, seen_from_other, told_of}
use Rattle.xns_calls.specs.Input.{Part, events_between, is_same, item_events, parts_text, repeated, text_in, texts_in, told}
use Rattle.xns_calls.specs.Numbers.{near}
use Rattle.xns_calls.specs.Over.{side_in}
use Rattle.xns_calls.specs.Read.{settled}
use Rattle.xns_calls.specs.Reading.{Told}
use Rattle.xns_calls.specs.Repeats.{repeats_text, tells_repeats}
use Rattle.xns_calls.specs.Texts.{repeats_line}
use Rattle.xns_calls.specs.Whole.{flow_text}
use Rattle.xns_calls.specs.declared.connection.Connection.{Connection}
use Rattle.xns_calls.specs.declared.due.Due.{Due}
use Rattle.xns_calls.specs.declared.heading.Heading.{Heading}
use Rattle.xns_calls.specs.declared.track.Track.{Track}
use Rattle.xns_calls.proofs.Fits.{fits}
use Rattle.xns_calls.proofs.AtLines.{ack_at, both_at, item_at}
use Rattle.xns_calls.proofs.Known.{events_ordered}
use Rattle.xns_calls.proofs.Ordered.{IsOrdered}
use Rattle.xns_calls.proofs.Numbered.{IsNumbered, numbered_taken, same_number, scene_number, set_cases}
use Rattle.xns_calls.proofs.Others.{get_same, get_set}
use Rattle.xns_calls.proofs.Onwards.{Ran, Says, other_settled, own_settled, settled_says}
use Rattle.xns_calls.proofs.Whole.{after_append}
use Rattle.xns_calls.proofs.Packets.{reached_event, packet_events, packet_other}
use Rattle.xns_calls.specs.declared.origin.Origin.{Origin}
use Rattle.xns_calls.proofs.Parts.{acknowledged_new, acknowledged_plain, behind_text, both_new, both_plain, far_text, flow_append, flow_at, other_text, own_text, packet_parts, packet_said, packet_text, plain, reached_said, reached_text, said_text_of, scene_text, two_of}
use Rattle.xns_calls.proofs.Begun.{IsAt, IsGone, IsOn, Stepped, nothing_step, stands_behind, stands_own, stays_gone, two_steps, unchanged}

-- a packet at the place of a connection, of its first flow or of its second (true)
module _ (n : Origin) (i : ℕ) (q : Bool) (packet : PacketModel) (f : Header) (content : List ℕ) (c : Connection) (k : Known) where
  abbrev its_number : ℕ
  its_number = c.number

  abbrev its_heading : Heading
  its_heading = heading_at n its_number q

  abbrev scene_before : Scene
  scene_before = scene_in q c k

  abbrev its_due : Due
  its_due = due_in q f c

  -- the flow behind is brought to what the packet acknowledges
  abbrev scene_brought : Scene
  scene_brought = other_reached its_heading its_due.other scene_before

  abbrev scene_after : Scene
  scene_after = after_packet its_heading its_due packet f content scene_before

  pub own_step : (t : Told) → slice_get k.connections i ≡ Some c → IsOrdered t → scene_before.own.track ≡ Some t.track → t ≡ told_of t.track scene_before
      → Stepped n its_number q k (taken_in n i q packet f content c k) t (item_events its_heading f content (acknowledged_in q f c) (Some t.track) ++ acknowledged_event its_heading (due_of q c))
  own_step t e ordered track is =
      let events = own_events its_heading its_due f content t.track scene_brought in
      let u = after_events events t in
      let others = with_others (record { own = scene_brought.own.call; asked = scene_brought.other.call }) scene_brought.text scene_brought.is_refused t in
      let o = near t.track.next f.sequence in
      let after : scene_after ≡ after_told u scene_brought = packet_events its_heading its_due packet f content scene_before t.track track ∙ ap (λ (x : Told). after_told (after_events events x) scene_brought) (sym is) in record {
        events = events;
        are = fits (item_events its_heading f content (acknowledged_in q f c) (Some t.track) ++ acknowledged_event its_heading (due_of q c)) (plain events) (both_plain (is_system f) its_heading o (carried its_heading its_due.acknowledged f content) its_due.own);
        at = item_at (is_system f) its_heading o (carried its_heading its_due.acknowledged f content) its_due.own;
        stands = inl (stands_own i q f c scene_after k e u (events_ordered events t ordered) (ap (λ (x : Scene). x.own.track) after) (sym (ap (λ (x : Scene). told_of u.track x) after)));
        parts = packet_parts n its_number q its_due packet f content scene_before;
        text = packet_text n its_number q its_due packet f content scene_before ∙ ap (λ z. z ++ parts_text (packet_parts n its_number q its_due packet f content scene_before)) (scene_text q c k);
        own = two_of (text_in (flow_at its_number q) (told n (flow_at its_number (not q)) (reached_said n its_number q its_due scene_before))) (text_in (flow_at its_number q) (told n (flow_at its_number q) (packet_said n its_number q its_due packet f content scene_before))) [] (flow_text events t)
            (other_text n its_number q (reached_said n its_number q its_due scene_before))
            (own_text n its_number q (packet_said n its_number q its_due packet f content scene_before) ∙ sym (said_text_of n its_number q its_due packet f content scene_before) ∙ ap (λ (x : Scene). drop (length scene_brought.text) x.text) after
            ∙ sym (both_new (is_system f) its_heading o (carried its_heading its_due.acknowledged f content) its_due.own others));
      }

  pub behind_step : (t : Told) → slice_get k.connections i ≡ Some c → IsOrdered t → scene_before.other.track ≡ Some t.track → t ≡ told_of t.track (seen_from_other scene_before)
      → Stepped n its_number (not q) k (taken_in n i q packet f content c k) t (acknowledged_event (heading_at n its_number (not q)) (due_of (not q) c))
  behind_step t e ordered track is =
      let acks = acknowledged_event (of_other its_heading) its_due.other in
      let v = after_events acks t in
      let others = meanwhile (record { own = scene_after.other.call; asked = scene_after.own.call }) scene_after.text scene_after.is_refused in
      let after : scene_brought ≡ seen_from_other (after_told v (seen_from_other scene_before)) =
      reached_event its_heading its_due.other scene_before t.track track ∙ ap (λ (x : Told). seen_from_other (after_told (after_events acks x) (seen_from_other scene_before))) (sym is) in
      let P = flow_at its_number (not q) in record {
        events = acks ++ others ∷ [];
        are = fits acks (plain (acks ++ others ∷ [])) (acknowledged_plain (of_other its_heading) its_due.other others refl);
        at = both_at (of_other its_heading) acks (others ∷ []) (ack_at (of_other its_heading) its_due.other) tt;
        stands = inl (subst (IsAt its_number (not q) (taken_in n i q packet f content c k)) (sym (after_append acks (others ∷ []) t))
            (stands_behind i q f c scene_after k e (after_event others v) (events_ordered acks t ordered) (packet_other its_heading its_due packet f content scene_before ∙ ap (λ (x : Scene). x.other.track) after) refl));
        parts = packet_parts n its_number q its_due packet f content scene_before;
        text = packet_text n its_number q its_due packet f content scene_before ∙ ap (λ z. z ++ parts_text (packet_parts n its_number q its_due packet f content scene_before)) (scene_text q c k);
        own = two_of (text_in P (told n P (reached_said n its_number q its_due scene_before))) (text_in P (told n (flow_at its_number q) (packet_said n its_number q its_due packet f content scene_before))) (flow_text acks t) []
            (own_text n its_number (not q) (reached_said n its_number q its_due scene_before) ∙ sym (reached_text n its_number q its_due scene_before) ∙ ap (λ (x : Scene). drop (length scene_before.text) x.text) after
            ∙ ap (λ (x : Told). drop (length x.text) v.text) (sym is) ∙ sym (acknowledged_new (of_other its_heading) its_due.other t))
            (behind_text n its_number q (packet_said n its_number q its_due packet f content scene_before))
            ∙ sym (flow_append acks (others ∷ []) t);
      }

-- the texts of a packet of another connection
pub far_texts : (n : Origin) (m : ℕ) (b q : Bool) (due : Due) (packet : PacketModel) (f : Header) (content : List ℕ) (g : ℕ) (s : Scene) → (m == g) ≡ false → texts_in (flow_at m b) (packet_parts n g q due packet f content s) ≡ []
far_texts n m b q due packet f content g s far =
    two_of (text_in (flow_at m b) (told n (flow_at g (not q)) (reached_said n g q due s))) (text_in (flow_at m b) (told n (flow_at g q) (packet_said n g q due packet f content s))) [] []
    (far_text n m g b (not q) (reached_said n g q due s) far) (far_text n m g b q (packet_said n g q due packet f content s) far)

pub in_text : (n : Origin) (i : ℕ) (q : Bool) (packet : PacketModel) (f : Header) (content : List ℕ) (c : Connection) (k : Known)
    → (taken_in n i q packet f content c k).text ≡ k.text ++ parts_text (packet_parts n c.number q (due_in q f c) packet f content (scene_in q c k))
in_text n i q packet f content c k =
    let s = scene_in q c k in
    packet_text n c.number q (due_in q f c) packet f content s ∙ ap (λ z. z ++ parts_text (packet_parts n c.number q (due_in q f c) packet f content s)) (scene_text q c k)

abbrev pub near_events : Origin → ℕ → Bool → Bool → Header → List ℕ → Option ℕ → Option Track → Option ℕ → List Event
near_events n m b q f content a track due = cond (is_same b q) (item_events (heading_at n m b) f content a track) [] ++ acknowledged_event (heading_at n m b) due

-- a packet of its own connection
pub near_step : (n : Origin) (i : ℕ) (b q : Bool) (packet : PacketModel) (f : Header) (content : List ℕ) (c : Connection) (k : Known) (t : Told) → slice_get k.connections i ≡ Some c → IsOrdered t
    → (scene_in b c k).own.track ≡ Some t.track → t ≡ told_of t.track (scene_in b c k) → Stepped n c.number b k (taken_in n i q packet f content c k) t (near_events n c.number b q f content (acknowledged_in q f c) (Some t.track) (due_of b c))
near_step n i true true packet f content c k t e ordered track is = own_step n i true packet f content c k t e ordered track is
near_step n i false false packet f content c k t e ordered track is = own_step n i false packet f content c k t e ordered track is
near_step n i true false packet f content c k t e ordered track is = behind_step n i false packet f content c k t e ordered track is
near_step n i false true packet f content c k t e ordered track is = behind_step n i true packet f content c k t e ordered track is

pub side_track : (b : Bool) (c : Connection) (k : Known) → (scene_in b c k).own.track ≡ (side_in b c).track
side_track true c k = refl
side_track false c k = refl

-- numbers of connections that differ stand at places that differ
pub other_place : (k : Known) (i j : ℕ) (c d : Connection) → slice_get k.connections i ≡ Some c → slice_get k.connections j ≡ Some d → (c.number ≡ d.number → ⊥) → i ≡ j → ⊥
other_place k i j c d at there other same =
    let one : Some c ≡ Some d = sym at ∙ ap (slice_get k.connections) same ∙ there in
    let is : c ≡ d = (cc) in other (ap (λ (x : Connection). x.number) is)

-- a flow of the connection at a place
pub flow_here : (m i : ℕ) (b : Bool) (c : Connection) (k : Known) (t : Told) → IsNumbered k.connections k.count → slice_get k.connections i ≡ Some c → (a : IsAt m b k t) → m ≡ c.number
    → ((scene_in b c k).own.track ≡ Some t.track) × (t ≡ told_of t.track (scene_in b c k))
flow_here m i b c k t numbered there a same =
    let place : a.place ≡ i = numbered.alone a.place i a.connection c a.there there (a.number ∙ same) in
    let some : Some a.connection ≡ Some c = sym a.there ∙ ap (slice_get k.connections) place ∙ there in
    let one : a.connection ≡ c = (cc) in
    (ap (λ (x : Connection). (scene_in b x k).own.track) (sym one) ∙ a.track, a.is ∙ ap (λ (x : Connection). told_of t.track (scene_in b x k)) one)

-- a flow of another connection, which stays
pub far_stays : (m i : ℕ) (b : Bool) (c c' : Connection) (k : Known) (t : Told) → slice_get k.connections i ≡ Some c → (a : IsAt m b k t) → (m ≡ c.number → ⊥)
    → slice_get (slice_set k.connections i c') a.place ≡ slice_get k.connections a.place
far_stays m i b c c' k t there a far = get_set k.connections a.place i c' (other_place k a.place i a.connection c a.there there (λ same. far (sym a.number ∙ same)))

-- a connection that is gone stays so where no other gets its number
pub gone_set : (m i : ℕ) (k : Known) (c c' : Connection) (t : Told) → IsGone m k t → slice_get k.connections i ≡ Some c → c'.number ≡ c.number → (j : ℕ) (d : Connection) → slice_get (slice_set k.connections i c') j ≡ Some d → d.number ≡ m → ⊥
gone_set m i k c c' t gone there same j d at is = by_case (set_cases k.connections i j c' d at)
  where
    by_case : ((i ≡ j) × (d ≡ c')) ⊎ ((i ≡ j → ⊥) × (slice_get k.connections j ≡ Some d)) → ⊥
    by_case (inl (e, one)) = gone.none i c there (sym same ∙ sym (ap (λ (x : Connection). x.number) one) ∙ is)
    by_case (inr (other, e)) = gone.none j d e is

pub taken_step : (n : Origin) (m i : ℕ) (b q : Bool) (packet : PacketModel) (f : Header) (content : List ℕ) (c : Connection) (k : Known) (t : Told) → IsNumbered k.connections k.count → slice_get k.connections i ≡ Some c → IsOn m b k t
    → Stepped n m b k (taken_in n i q packet f content c k) t (events_between (flow_at m b) (flow_at c.number q) (heading_at n m b) f content (acknowledged_in q f c) (side_in b c).track (due_of b c))
taken_step n m i b q packet f content c k t numbered there on = by_number (m == c.number) refl on
  where
    s : Scene
    s = scene_in q c k

    parts : List Part
    parts = packet_parts n c.number q (due_in q f c) packet f content s

    Goal : Bool → Type 0
    Goal p = Stepped n m b k (taken_in n i q packet f content c k) t (cond p (near_events n m b q f content (acknowledged_in q f c) (side_in b c).track (due_of b c)) [])

    by_number : (p : Bool) → (m == c.number) ≡ p → IsOn m b k t → Goal p
    by_number true e (inl a) =
        let here = flow_here m i b c k t numbered there a (eqb-true m c.number e) in
        subst (λ o. Stepped n m b k (taken_in n i q packet f content c k) t (near_events n m b q f content (acknowledged_in q f c) o (due_of b c))) (sym here.0 ∙ side_track b c k)
        (subst (λ g. Stepped n g b k (taken_in n i q packet f content c k) t (near_events n g b q f content (acknowledged_in q f c) (Some t.track) (due_of b c))) (sym (eqb-true m c.number e))
        (near_step n i b q packet f content c k t there a.ordered here.0 here.1))
    by_number true e (inr gone) = absurd (gone.none i c there (sym (eqb-true m c.number e)))
    by_number false e (inl a) =
        unchanged n m b k (taken_in n i q packet f content c k) t parts (in_text n i q packet f content c k) (far_texts n m b q (due_in q f c) packet f content c.number s e) a
        (far_stays m i b c _ k t there a (eqb-false m c.number e))
    by_number false e (inr gone) =
        stays_gone n m b k (taken_in n i q packet f content c k) t parts (in_text n i q packet f content c k) (far_texts n m b q (due_in q f c) packet f content c.number s e)
        (record { counted = gone.counted; none = gone_set m i k c _ t gone there (scene_number q _ f c); empty = gone.empty })

-- ---- what is read then

-- what is then read, by what it does to the flow
settled_by : (n : Origin) (i : ℕ) (b q : Bool) (c : Connection) (k : Known) (t : Told) → slice_get k.connections i ≡ Some c → IsOrdered t
    → let c' = with_scene q (settled (heading_at n c.number q) (given_in q c) (scene_in q c k)) c in
    Ran n c.number b (scene_in b c k) (scene_in b c' (settled_there n i q (Some c) k)) t
    → Stepped n c.number b k (settled_there n i q (Some c) k) t []
settled_by n i b q c k t there ordered w =
    let c' = with_scene q (settled (heading_at n c.number q) (given_in q c) (scene_in q c k)) c in
    let k' = settled_there n i q (Some c) k in
    let l = w.leads in record {
      events = w.events;
      are = fits [] (plain w.events) w.are;
      at = l.at;
      stands = inl (record { place = i; connection = c'; there = get_same k.connections i c c' there; number = same_number q _ c; track = l.track; is = l.is; ordered = events_ordered w.events t ordered });
      parts = l.parts;
      text = sym (scene_text b c' k') ∙ l.text ∙ ap (λ z. z ++ parts_text l.parts) (scene_text b c k);
      own = l.own;
    }

-- what is then read of the connection of the packet
near_settled : (n : Origin) (i : ℕ) (b q : Bool) (c : Connection) (k : Known) (t : Told) → slice_get k.connections i ≡ Some c → IsOrdered t → (scene_in b c k).own.track ≡ Some t.track → t ≡ told_of t.track (scene_in b c k)
    → Stepped n c.number b k (settled_there n i q (Some c) k) t []
near_settled n i true true c k t there ordered track is =
    settled_by n i true true c k t there ordered (own_settled n c.number true (given_in true c) (scene_in true c k) t track is)
near_settled n i false false c k t there ordered track is =
    settled_by n i false false c k t there ordered (own_settled n c.number false (given_in false c) (scene_in false c k) t track is)
near_settled n i true false c k t there ordered track is =
    settled_by n i true false c k t there ordered (other_settled n c.number false (given_in false c) (scene_in false c k) t track is)
near_settled n i false true c k t there ordered track is =
    settled_by n i false true c k t there ordered (other_settled n c.number true (given_in true c) (scene_in true c k) t track is)

pub settled_text : (n : Origin) (i : ℕ) (q : Bool) (c : Connection) (k : Known)
    → (settled_there n i q (Some c) k).text ≡ k.text ++ parts_text (settled_says n c.number q (given_in q c) (scene_in q c k)).parts
settled_text n i true c k = (settled_says n c.number true (given_in true c) (scene_in true c k)).text
settled_text n i false c k = (settled_says n c.number false (given_in false c) (scene_in false c k)).text

there_settled : (n : Origin) (m i : ℕ) (b q : Bool) (c : Connection) (k : Known) (t : Told) → IsNumbered k.connections k.count → slice_get k.connections i ≡ Some c → IsOn m b k t → Stepped n m b k (settled_there n i q (Some c) k) t []
there_settled n m i b q c k t numbered there on = by_number (m == c.number) refl on
  where
    v : Says c.number (scene_in q c k) (settled (heading_at n c.number q) (given_in q c) (scene_in q c k))
    v = settled_says n c.number q (given_in q c) (scene_in q c k)

    by_number : (p : Bool) → (m == c.number) ≡ p → IsOn m b k t → Stepped n m b k (settled_there n i q (Some c) k) t []
    by_number true e (inl a) =
        let here = flow_here m i b c k t numbered there a (eqb-true m c.number e) in
        subst (λ g. Stepped n g b k (settled_there n i q (Some c) k) t []) (sym (eqb-true m c.number e)) (near_settled n i b q c k t there a.ordered here.0 here.1)
    by_number true e (inr gone) = absurd (gone.none i c there (sym (eqb-true m c.number e)))
    by_number false e (inl a) =
        unchanged n m b k (settled_there n i q (Some c) k) t v.parts (settled_text n i q c k) (v.far m b e) a
        (far_stays m i b c _ k t there a (eqb-false m c.number e))
    by_number false e (inr gone) =
        stays_gone n m b k (settled_there n i q (Some c) k) t v.parts (settled_text n i q c k) (v.far m b e)
        (record { counted = gone.counted; none = gone_set m i k c _ t gone there (same_number q _ c); empty = gone.empty })

pub settled_step : (n : Origin) (m i : ℕ) (b q : Bool) (k : Known) (t : Told) → IsNumbered k.connections k.count → IsOn m b k t → Stepped n m b k (settled_at n i q k) t []
unfolding settled_at
settled_step n m i b q k t numbered on = by_connection (slice_get k.connections i) refl
  where
    by_connection : (o : Option Connection) → slice_get k.connections i ≡ o → Stepped n m b k (settled_there n i q o k) t []
    by_connection None there = nothing_step n m b k t on
    by_connection (Some c) there = there_settled n m i b q c k t numbered there on

-- ---- the line that tells of repeats

-- the line that tells of repeats is no text of the flow
pub repeated_parts : Origin → ℕ → Bool → Bool → List Part
repeated_parts n m q tells = cond tells (repeated n (flow_at m q) ∷ []) []

pub repeated_text : (n : Origin) (m : ℕ) (q tells : Bool) → repeats_text (heading_at n m q) tells ≡ parts_text (repeated_parts n m q tells)
unfolding repeated_parts
repeated_text n m q true = sym (append-nil (repeats_line (heading_at n m q)))
repeated_text n m q false = refl

pub repeated_own : (n : Origin) (m g : ℕ) (b q tells : Bool) → texts_in (flow_at m b) (repeated_parts n g q tells) ≡ []
unfolding repeated_parts
repeated_own n m g b q true = refl
repeated_own n m g b q false = refl

repeats_step : (n : Origin) (m : ℕ) (b q : Bool) (f : Header) (c : Connection) (k : Known) (t : Told) → IsOn m b k t → Stepped n m b k (repeats_told n q f c k) t []
repeats_step n m b q f c k t (inl a) =
    let tells = tells_repeats q f c in
    unchanged n m b k (repeats_told n q f c k) t (repeated_parts n c.number q tells) (ap (λ z. k.text ++ z) (repeated_text n c.number q tells)) (repeated_own n m c.number b q tells) a refl
repeats_step n m b q f c k t (inr gone) =
    let tells = tells_repeats q f c in
    stays_gone n m b k (repeats_told n q f c k) t (repeated_parts n c.number q tells) (ap (λ z. k.text ++ z) (repeated_text n c.number q tells)) (repeated_own n m c.number b q tells)
    (record { counted = gone.counted; none = gone.none; empty = gone.empty })

pub at_step : (n : Origin) (m i : ℕ) (b q : Bool) (packet : PacketModel) (f : Header) (content : List ℕ) (c : Connection) (k : Known) (t : Told) → IsNumbered k.connections k.count → slice_get k.connections i ≡ Some c → IsOn m b k t
    → Stepped n m b k (after_in n i q packet f content c k) t (events_between (flow_at m b) (flow_at c.number q) (heading_at n m b) f content (acknowledged_in q f c) (side_in b c).track (due_of b c))
at_step n m i b q packet f content c k t numbered there on =
    let happened = events_between (flow_at m b) (flow_at c.number q) (heading_at n m b) f content (acknowledged_in q f c) (side_in b c).track (due_of b c) in
    let told = repeats_told n q f c k in
    let k' = taken_in n i q packet f content c told in
    two_steps n m b k told (settled_at n i q k') t [] happened (repeats_step n m b q f c k t on)
    (λ v behind. subst (Stepped n m b told (settled_at n i q k') v) (append-nil happened)
    (two_steps n m b told k' (settled_at n i q k') v happened [] (taken_step n m i b q packet f content c told v numbered there behind)
    (λ u on'. settled_step n m i b q k' u (numbered_taken n i q packet f content c told there numbered) on')))
