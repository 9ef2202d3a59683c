-- Any packet of a whole input, for a flow that has not begun.
use Rattle.std.proofs.Common.{◌≡◌, ◌∙◌, ap, sym, refl, subst, ℕ, ◌+◌, ◌==◌, inl, inr, Bool, true, false, cond, List, [], ◌++◌, length, append_assoc, append-nil, Option, Some, None}
use Rattle.std.specs.Prelude.{slice_get, slice_set}
use Rattle.xns_calls.specs.Read.{settled}
use Rattle.std.proofs.lemmas.Grind.{flat_map-append}
use Rattle.std.proofs.lemmas.Bool.{eqb-false, eqb-true}
use Rattle.xns_idp.specs.Packet.{PacketModel}
use Rattle.xns_spp.specs.Header.{is_system}
use Rattle.xns_spp.specs.declared.header.Header.{Header}
use Rattle.xns_dump.specs.Flows.{flow_of}
use Rattle.xns_dump.specs.declared.flows.flow.Flow.{Flow}
use Rattle.xns_calls.specs.Acknowledged.{acknowledged_in, due_of, given_in}
use Rattle.xns_calls.specs.Anew.{begins_anew}
use Rattle.xns_calls.specs.Capture.{Known, after_at, after_in, after_new_flow, after_place, after_sequenced, after_there, forgotten, heading_at, is_behind_in, new_connection, place_of, renewed, renewed_there, repeats_told, scene_in, settled_at, settled_there, taken_in, with_new, with_scene}
use Rattle.xns_calls.specs.Events.{Event, acknowledged_event, after_events, captured_event}
use Rattle.xns_calls.specs.Exchange.{Scene, behind_last, carried, first_track, seen_from_other}
use Rattle.xns_calls.specs.Input.{Part, known_connection, connection_of, ending_events, events_between, events_there, field_between, field_there, is_same, name_in, next_name, part_text, parts_text, text_in, texts_in}
use Rattle.xns_calls.specs.Numbers.{near}
use Rattle.xns_calls.specs.Over.{side_in}
use Rattle.xns_calls.specs.Repeats.{tells_repeats}
use Rattle.xns_calls.specs.Texts.{flow_line}
use Rattle.xns_calls.specs.declared.connection.Connection.{Connection}
use Rattle.xns_calls.proofs.AtLines.{both_at}
use Rattle.xns_calls.proofs.Whole.{after_append}
use Rattle.xns_calls.proofs.EndReads.{ends_say, other_ends_rest, own_ends_rest}
use Rattle.xns_calls.proofs.Fits.{Fits, fits_on}
use Rattle.xns_calls.proofs.Onwards.{Rests, other_settles, own_settles, settled_says}
use Rattle.xns_calls.proofs.Begun.{IsOn}
use Rattle.xns_calls.proofs.Happenings.{repeated_own, repeated_parts, repeated_text, settled_step, settled_text}
use Rattle.xns_calls.proofs.Renewals.{IsPlain, new_there, none_acknowledged, none_due, none_new}
use Rattle.xns_calls.proofs.Parts.{flow_at, joined_own, plain}
use Rattle.xns_calls.proofs.Numbered.{AllKeep, IsNumbered, keep_more, keep_set, numbered_more, numbered_renewed, numbered_taken, same_number}
use Rattle.xns_calls.proofs.Others.{get_last, get_same}
use Rattle.xns_calls.proofs.Places.{place_there}
use Rattle.xns_calls.specs.declared.origin.Origin.{Origin}
use Rattle.xns_calls.proofs.Unbegun.{Awaits, Met, taken_meets, waits_still}

-- ---- what is read then

-- what two flows read says nothing of a flow that has not begun
resting : (m i : ℕ) (b : Bool) (c c' : Connection) (k k' : Known) (x x' : Scene) → k'.connections ≡ slice_set k.connections i c' → AllKeep m b k.connections None → m ≡ c.number → (side_in b c').track ≡ x'.own.track
    → x.text ≡ k.text → x'.text ≡ k'.text → Rests c.number b x x' → Awaits m b k.text k' [] None
resting m i b c c' k k' x x' set all same track before after w = record {
  none = subst (λ cs. AllKeep m b cs None) (sym set) (keep_set m b k.connections i c' None all (λ is. track ∙ w.track));
  nothing = refl;
  later = refl;
  parts = w.parts;
  text = sym after ∙ w.text ∙ ap (λ z. z ++ parts_text w.parts) before;
  own = ap (λ g. texts_in (flow_at g b) w.parts) same ∙ w.own;
}

sides_rest : (n : Origin) (m i : ℕ) (b q : Bool) (c : Connection) (k : Known) → slice_get k.connections i ≡ Some c → AllKeep m b k.connections None → m ≡ c.number
    → Awaits m b k.text (settled_there n i q (Some c) k) [] None
sides_rest n m i true true c k there all same =
    let s = scene_in true c k in
    let s' = settled (heading_at n c.number true) (given_in true c) s in
    resting m i true c (with_scene true s' c) k (settled_there n i true (Some c) k) s s' refl all same refl refl refl (own_settles n c.number true (given_in true c) s (all i c there (sym same)))
sides_rest n m i false false c k there all same =
    let s = scene_in false c k in
    let s' = settled (heading_at n c.number false) (given_in false c) s in
    resting m i false c (with_scene false s' c) k (settled_there n i false (Some c) k) s s' refl all same refl refl refl (own_settles n c.number false (given_in false c) s (all i c there (sym same)))
sides_rest n m i true false c k there all same =
    let s = scene_in false c k in
    let s' = settled (heading_at n c.number false) (given_in false c) s in
    resting m i true c (with_scene false s' c) k (settled_there n i false (Some c) k) (seen_from_other s) (seen_from_other s') refl all same refl refl refl (other_settles n c.number false (given_in false c) s (all i c there (sym same)))
sides_rest n m i false true c k there all same =
    let s = scene_in true c k in
    let s' = settled (heading_at n c.number true) (given_in true c) s in
    resting m i false c (with_scene true s' c) k (settled_there n i true (Some c) k) (seen_from_other s) (seen_from_other s') refl all same refl refl refl (other_settles n c.number true (given_in true c) s (all i c there (sym same)))

-- nothing is said of a flow that has not begun
there_rests : (n : Origin) (m i : ℕ) (b q : Bool) (c : Connection) (k : Known) → slice_get k.connections i ≡ Some c → AllKeep m b k.connections None
    → Awaits m b k.text (settled_there n i q (Some c) k) [] None
there_rests n m i b q c k there all = by_number (m == c.number) refl
  where
    by_number : (p : Bool) → (m == c.number) ≡ p → Awaits m b k.text (settled_there n i q (Some c) k) [] None
    by_number true e = sides_rest n m i b q c k there all (eqb-true m c.number e)
    by_number false e =
        let v = settled_says n c.number q (given_in q c) (scene_in q c k) in record {
          none = keep_set m b k.connections i (with_scene q (settled (heading_at n c.number q) (given_in q c) (scene_in q c k)) c) None all
              (λ is. absurd (eqb-false m c.number e (sym is ∙ same_number q _ c)));
          nothing = refl;
          later = refl;
          parts = v.parts;
          text = settled_text n i q c k;
          own = v.far m b e;
        }

settled_waits : (n : Origin) (m i : ℕ) (b q : Bool) (k : Known) → AllKeep m b k.connections None → Awaits m b k.text (settled_at n i q k) [] None
unfolding settled_at
settled_waits n m i b q k all = by_connection (slice_get k.connections i) refl
  where
    by_connection : (o : Option Connection) → slice_get k.connections i ≡ o → Awaits m b k.text (settled_there n i q o k) [] None
    by_connection None there = waits_still m b k [] None all refl refl
    by_connection (Some c) there = there_rests n m i b q c k there all

joined_text : (a b c : List ℕ) (xs ys : List Part) → b ≡ a ++ parts_text xs → c ≡ b ++ parts_text ys → c ≡ a ++ parts_text (xs ++ ys)
joined_text a b c xs ys e f =
    f ∙ ap (λ z. z ++ parts_text ys) e ∙ append_assoc a (parts_text xs) (parts_text ys) ∙ ap (λ z. a ++ z) (sym (flat_map-append part_text xs ys))

met_settled : (n : Origin) (m i : ℕ) (b q : Bool) (before : List ℕ) (k : Known) (xs : List Event) (field : Option ℕ) → IsNumbered k.connections k.count → Met n m b before k xs field → Met n m b before (settled_at n i q k) xs field
met_settled n m i b q before k xs field numbered (inl w) =
    let v = settled_waits n m i b q k w.none in inl (record {
      none = v.none;
      nothing = w.nothing;
      later = w.later;
      parts = w.parts ++ v.parts;
      text = joined_text before k.text (settled_at n i q k).text w.parts v.parts w.text v.text;
      own = flat_map-append (text_in (flow_at m b)) w.parts v.parts ∙ ap (λ z. z ++ texts_in (flow_at m b) v.parts) w.own ∙ v.own;
    })
met_settled n m i b q before k xs field numbered (inr w) =
    let v = settled_step n m i b q k (after_events w.events w.start) numbered w.stands in
    let line = flow_line w.heading w.packet w.header in inr (record {
      first = w.first;
      has = w.has;
      start = w.start;
      track = w.track;
      events = w.events ++ v.events;
      are = subst (λ es. Fits es (plain (w.events ++ v.events))) (append-nil xs) (fits_on xs [] w.events v.events w.are v.are);
      at = both_at (heading_at n m b) w.events v.events w.at v.at;
      stands = subst (IsOn m b (settled_at n i q k)) (sym (after_append w.events v.events w.start)) v.stands;
      heading = w.heading;
      packet = w.packet;
      header = w.header;
      parts = w.parts ++ v.parts;
      text = joined_text before k.text (settled_at n i q k).text w.parts v.parts w.text v.text;
      own = joined_own (flow_at m b) w.parts v.parts line w.events v.events w.start w.own v.own;
    })

-- one step behind another
met_behind : (n : Origin) (m : ℕ) (b : Bool) (before : List ℕ) (k k' : Known) (xs ys : List Event) (field : Option ℕ) → Awaits m b before k xs None → Met n m b k.text k' ys field → Met n m b before k' (xs ++ ys) field
met_behind n m b before k k' xs ys field w (inl v) = inl (record {
  none = v.none;
  nothing = ap (λ z. z ++ ys) w.nothing ∙ v.nothing;
  later = v.later;
  parts = w.parts ++ v.parts;
  text = joined_text before k.text k'.text w.parts v.parts w.text v.text;
  own = flat_map-append (text_in (flow_at m b)) w.parts v.parts ∙ ap (λ z. z ++ texts_in (flow_at m b) v.parts) w.own ∙ v.own;
})
met_behind n m b before k k' xs ys field w (inr v) = inr (record {
  first = v.first;
  has = v.has;
  start = v.start;
  track = v.track;
  events = v.events;
  are = subst (λ es. Fits es (plain v.events)) (sym (ap (λ z. z ++ ys) w.nothing)) v.are;
  at = v.at;
  stands = v.stands;
  heading = v.heading;
  packet = v.packet;
  header = v.header;
  parts = w.parts ++ v.parts;
  text = joined_text before k.text k'.text w.parts v.parts w.text v.text;
  own = flat_map-append (text_in (flow_at m b)) w.parts v.parts ∙ ap (λ z. z ++ texts_in (flow_at m b) v.parts) w.own ∙ v.own;
})

-- ---- the line that tells of repeats

repeats_wait : (n : Origin) (m : ℕ) (b q : Bool) (f : Header) (c : Connection) (k : Known) → AllKeep m b k.connections None → Awaits m b k.text (repeats_told n q f c k) [] None
repeats_wait n m b q f c k all =
    let tells = tells_repeats q f c in record {
      none = all;
      nothing = refl;
      later = refl;
      parts = repeated_parts n c.number q tells;
      text = ap (λ z. k.text ++ z) (repeated_text n c.number q tells);
      own = repeated_own n m c.number b q tells;
    }

at_meets : (n : Origin) (m i : ℕ) (b q : Bool) (packet : PacketModel) (f : Header) (content : List ℕ) (c : Connection) (k : Known) → IsNumbered k.connections k.count → slice_get k.connections i ≡ Some c → AllKeep m b k.connections None
    → Met n m b k.text (after_in n i q packet f content c k) (events_between (flow_at m b) (flow_at c.number q) (heading_at n m b) f content (acknowledged_in q f c) (side_in b c).track (due_of b c)) (field_between (flow_at m b) (flow_at c.number q) f)
at_meets n m i b q packet f content c k numbered there all =
    let told = repeats_told n q f c k in
    let k' = taken_in n i q packet f content c told in
    met_behind n m b k.text told (settled_at n i q k') [] _ _ (repeats_wait n m b q f c k all)
    (met_settled n m i b q told.text k' _ _ (numbered_taken n i q packet f content c told there numbered) (taken_meets n m i b q packet f content c told there all))

-- ---- where its connection stands

fresh_meets : IsPlain → (n : Origin) (m i : ℕ) (b : Bool) (flow : Flow) (packet : PacketModel) (f : Header) (content : List ℕ) (number : ℕ) (k : Known) → IsNumbered k.connections k.count → slice_get k.connections i ≡ Some (new_connection number flow) → AllKeep m b k.connections None
    → Met n m b k.text (after_at n i flow packet f content k) (events_between (flow_at m b) (flow_at number false) (heading_at n m b) f content None None None) (field_between (flow_at m b) (flow_at number false) f)
fresh_meets plain_places n m i b flow packet f content number k numbered there all =
    let c = new_connection number flow in
    subst (λ k'. Met n m b k.text k' (events_between (flow_at m b) (flow_at number false) (heading_at n m b) f content None None None) (field_between (flow_at m b) (flow_at number false) f)) (sym (new_there plain_places n i flow packet f content number k there))
    (subst (λ o. Met n m b k.text (after_in n i false packet f content c k) (events_between (flow_at m b) (flow_at number false) (heading_at n m b) f content None None o) (field_between (flow_at m b) (flow_at number false) f)) (none_due b number flow)
    (subst (λ o. Met n m b k.text (after_in n i false packet f content c k) (events_between (flow_at m b) (flow_at number false) (heading_at n m b) f content None o (due_of b c)) (field_between (flow_at m b) (flow_at number false) f)) (none_new b number flow)
    (subst (λ o. Met n m b k.text (after_in n i false packet f content c k) (events_between (flow_at m b) (flow_at number false) (heading_at n m b) f content o (side_in b c).track (due_of b c)) (field_between (flow_at m b) (flow_at number false) f)) (none_acknowledged false f number flow)
    (at_meets n m i b false packet f content c k numbered there all))))

nothing_left : {A : Type 0} (p q : Bool) (x : A) → cond p (cond q x x) x ≡ x
nothing_left true true x = refl
nothing_left true false x = refl
nothing_left false q x = refl

no_events : (p q : Bool) (x : List Event) → x ≡ [] → cond p (cond q x [] ++ []) [] ≡ []
no_events true true x none = append-nil x ∙ none
no_events true false x none = refl
no_events false q x none = refl

new_meets : IsPlain → (n : Origin) (m : ℕ) (b : Bool) (flow : Flow) (packet : PacketModel) (f : Header) (content : List ℕ) (k : Known) → IsNumbered k.connections k.count → AllKeep m b k.connections None
    → Met n m b k.text (after_new_flow n flow packet f content k) (events_between (flow_at m b) (next_name k) (heading_at n m b) f content None None None) (field_between (flow_at m b) (next_name k) f)
new_meets plain_places n m b flow packet f content k numbered all = by_system (is_system f) refl
  where
    by_system : (p : Bool) → is_system f ≡ p
        → Met n m b k.text (cond p k (after_at n (length k.connections) flow packet f content (with_new flow k))) (events_between (flow_at m b) (next_name k) (heading_at n m b) f content None None None) (field_between (flow_at m b) (next_name k) f)
    by_system true e =
        let h = heading_at n m b in
        let items = captured_event h (near (first_track f.sequence).next f.sequence) (carried h None f content) in
        inl (waits_still m b k (events_between (flow_at m b) (next_name k) h f content None None None) (field_between (flow_at m b) (next_name k) f) all
        (no_events (m == k.count + 1) (is_same b false) (cond (is_system f) [] items) (ap (λ r. cond r [] items) e))
        (ap (λ r. cond (m == k.count + 1) (cond (is_same b false) (cond r None (Some f.sequence)) None) None) e ∙ nothing_left (m == k.count + 1) (is_same b false) None))
    by_system false e =
        fresh_meets plain_places n m (length k.connections) b flow packet f content (k.count + 1) (with_new flow k) (numbered_more k.connections k.count (new_connection (k.count + 1) flow) numbered refl) (get_last k.connections (new_connection (k.count + 1) flow))
        (keep_more m b k.connections (new_connection (k.count + 1) flow) None all (λ is. none_new b (k.count + 1) flow))

-- ---- a connection that begins anew

forget_waits : (n : Origin) (m i : ℕ) (b : Bool) (flow : Flow) (c : Connection) (k : Known) → slice_get k.connections i ≡ Some c → AllKeep m b k.connections None
    → Awaits m b k.text (forgotten n i flow c k) (ending_events (flow_at m b) (heading_at n m b) c) None
forget_waits n m i b flow c k there all = by_number (m == c.number) refl
  where
    still_none : AllKeep m b (forgotten n i flow c k).connections None
    still_none = keep_set m b k.connections i (new_connection (k.count + 1) flow) None all (λ is. none_new b (k.count + 1) flow)

    waits_by : (b : Bool) (s s' : Scene) → AllKeep c.number b (forgotten n i flow c k).connections None → (side_in b c).track ≡ None → s.text ≡ k.text → (forgotten n i flow c k).text ≡ s'.text
        → Rests c.number b s s' → Awaits c.number b k.text (forgotten n i flow c k) (acknowledged_event (heading_at n c.number b) (behind_last (side_in b c).track)) None
    waits_by b s s' still none before after w = record {
      none = still;
      nothing = ap (λ o. acknowledged_event (heading_at n c.number b) (behind_last o)) none;
      later = refl;
      parts = w.parts;
      text = after ∙ w.text ∙ ap (λ z. z ++ parts_text w.parts) before;
      own = w.own;
    }

    waits_near : (b : Bool) → AllKeep c.number b (forgotten n i flow c k).connections None → (side_in b c).track ≡ None
        → Awaits c.number b k.text (forgotten n i flow c k) (acknowledged_event (heading_at n c.number b) (behind_last (side_in b c).track)) None
    waits_near true still none = waits_by true _ _ still none refl refl (other_ends_rest n c.number false (scene_in false c k) none)
    waits_near false still none = waits_by false _ _ still none refl refl (own_ends_rest n c.number false (scene_in false c k) none)

    by_number : (p : Bool) → (m == c.number) ≡ p → Awaits m b k.text (forgotten n i flow c k) (cond p (acknowledged_event (heading_at n m b) (behind_last (side_in b c).track)) []) None
    by_number true e =
        let same : m ≡ c.number = eqb-true m c.number e in
        subst (λ g. Awaits g b k.text (forgotten n i flow c k) (acknowledged_event (heading_at n g b) (behind_last (side_in b c).track)) None) (sym same)
        (waits_near b (subst (λ g. AllKeep g b (forgotten n i flow c k).connections None) same still_none) (all i c there (sym same)))
    by_number false e =
        let w = ends_say n c.number false (scene_in false c k) in record {
          none = still_none;
          nothing = refl;
          later = refl;
          parts = w.parts;
          text = w.text;
          own = w.far m b e;
        }

place_meets : IsPlain → (n : Origin) (m i : ℕ) (b : Bool) (packet : PacketModel) (f : Header) (content : List ℕ) (c : Connection) (k : Known) → IsNumbered k.connections k.count → slice_get k.connections i ≡ Some c → AllKeep m b k.connections None
    → Met n m b k.text (after_at n i (flow_of packet f) packet f content (renewed n i (flow_of packet f) f k)) (events_there (flow_at m b) (heading_at n m b) (packet, f, content) (Some c) k)
    (field_there (flow_at m b) (packet, f, content) (Some c) k)
unfolding renewed after_at
place_meets plain_places n m i b packet f content c k numbered there all =
    subst (λ o. Met n m b k.text (after_at n i flow packet f content (renewed_there n i flow f o k)) (events_there (flow_at m b) (heading_at n m b) (packet, f, content) (Some c) k)
    (field_there (flow_at m b) (packet, f, content) (Some c) k)) (sym there)
    (by_anew (begins_anew f c))
  where
    flow : Flow
    flow = flow_of packet f

    by_anew : (p : Bool)
        → Met n m b k.text (after_at n i flow packet f content (cond p (forgotten n i flow c k) k))
        (cond p (ending_events (flow_at m b) (heading_at n m b) c ++ events_between (flow_at m b) (next_name k) (heading_at n m b) f content None None None)
        (events_between (flow_at m b) (name_in flow c) (heading_at n m b) f content (acknowledged_in (is_behind_in flow c) f c) (side_in b c).track (due_of b c)))
        (cond p (field_between (flow_at m b) (next_name k) f) (field_between (flow_at m b) (name_in flow c) f))
    by_anew true =
        let w = forget_waits n m i b flow c k there all in
        met_behind n m b k.text (forgotten n i flow c k) (after_at n i flow packet f content (forgotten n i flow c k)) (ending_events (flow_at m b) (heading_at n m b) c)
        (events_between (flow_at m b) (next_name k) (heading_at n m b) f content None None None) (field_between (flow_at m b) (next_name k) f) w
        (fresh_meets plain_places n m i b flow packet f content (k.count + 1) (forgotten n i flow c k) (numbered_renewed k.connections k.count i (new_connection (k.count + 1) flow) numbered refl) (get_same k.connections i c (new_connection (k.count + 1) flow) there) w.none)
    by_anew false = there_meets
      where
        there_meets : Met n m b k.text (after_at n i flow packet f content k) (events_between (flow_at m b) (name_in flow c) (heading_at n m b) f content (acknowledged_in (is_behind_in flow c) f c) (side_in b c).track (due_of b c)) (field_between (flow_at m b) (name_in flow c) f)
        there_meets =
            subst (λ o. Met n m b k.text (after_there n i flow packet f content o k) (events_between (flow_at m b) (name_in flow c) (heading_at n m b) f content (acknowledged_in (is_behind_in flow c) f c) (side_in b c).track (due_of b c)) (field_between (flow_at m b) (name_in flow c) f)) (sym there)
            (at_meets n m i b (is_behind_in flow c) packet f content c k numbered there all)

pub sequenced_meets : IsPlain → (n : Origin) (m : ℕ) (b : Bool) (packet : PacketModel) (f : Header) (content : List ℕ) (k : Known) → IsNumbered k.connections k.count → AllKeep m b k.connections None
    → Met n m b k.text (after_sequenced n packet f content k) (events_there (flow_at m b) (heading_at n m b) (packet, f, content) (connection_of packet f k.connections) k)
    (field_there (flow_at m b) (packet, f, content) (connection_of packet f k.connections) k)
unfolding after_sequenced
sequenced_meets plain_places n m b packet f content k numbered all = by_place (place_of (flow_of packet f) k.connections) refl
  where
    by_place : (o : Option ℕ) → place_of (flow_of packet f) k.connections ≡ o
        → Met n m b k.text (after_place n (flow_of packet f) packet f content o k) (events_there (flow_at m b) (heading_at n m b) (packet, f, content) (known_connection o k.connections) k)
        (field_there (flow_at m b) (packet, f, content) (known_connection o k.connections) k)
    by_place (Some i) at =
        let w = place_there (flow_of packet f) k.connections i at in
        subst (λ o. Met n m b k.text (after_at n i (flow_of packet f) packet f content (renewed n i (flow_of packet f) f k)) (events_there (flow_at m b) (heading_at n m b) (packet, f, content) o k)
        (field_there (flow_at m b) (packet, f, content) o k)) (sym w.1)
        (place_meets plain_places n m i b packet f content w.0 k numbered w.1 all)
    by_place None at = new_meets plain_places n m b (flow_of packet f) packet f content k numbered all
