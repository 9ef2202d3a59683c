-- The end of a whole input reads what a flow keeps.
use Rattle.std.proofs.Common.{◌≡◌, ◌∙◌, ap, sym, refl, subst, arith, inl, inr, ℕ, zero, suc, ◌+◌, ◌<◌, ◌≤◌, ◌==◌, Bool, true, false, List, [], ◌∷◌, ◌++◌, length, append-nil, Option, Some, None}
use Rattle.std.specs.Prelude.{nat_lt, slice_get, slice_set}
use Rattle.std.proofs.lemmas.Grind.{flat_map-append}
use Rattle.std.proofs.lemmas.Bool.{eqb-false, eqb-true, ltb-false, ltb-true}
use Rattle.std.proofs.lemmas.Option.{slice_get_within}
use Rattle.xns_spp.specs.Ends.{most_pending}
use Rattle.xns_spp.specs.declared.item.Item.{Item}
use Rattle.courier_messages.specs.Conversation.{conversation, ending, opening}
use Rattle.courier_messages.specs.Laws.{OneItemMore, SignsRunOn}
use Rattle.courier_messages.specs.Phases.{run, said}
use Rattle.courier_messages.specs.Text.{written}
use Rattle.xns_lines.specs.Lines.{lines_of}
use Rattle.xns_dump.specs.Laws.{FlowsAreToldApart}
use Rattle.xns_calls.specs.Naming.{Programs}
use Rattle.xns_calls.specs.Calls.{calls_text, end_count, known_of, known_with_end, nothing_known, text_of, text_with_end}
use Rattle.xns_calls.specs.Capture.{Known, after_end, ended_there, heading_at, scene_in, with_scene}
use Rattle.xns_calls.specs.Events.{Event, after_event, after_events, meanwhile}
use Rattle.xns_calls.specs.AtEnd.{both_ended}
use Rattle.xns_calls.specs.Exchange.{Scene, told_of}
use Rattle.xns_calls.specs.Input.{FlowName, Part, TellsConversation, events_in, first_field, part_text, parts_text, texts_in}
use Rattle.xns_calls.specs.Reading.{Told}
use Rattle.xns_calls.specs.Texts.{flow_line}
use Rattle.xns_calls.specs.Whole.{IsWhole, flow_heard, flow_text}
use Rattle.xns_calls.specs.declared.connection.Connection.{Connection}
use Rattle.xns_calls.specs.declared.heading.Heading.{Heading}
use Rattle.xns_calls.specs.declared.speech.Speech.TheVariants.{Hearing}
use Rattle.xns_calls.proofs.FirstLines.{lines_met}
use Rattle.xns_calls.proofs.AtLines.{AreAt, AreBetween, last_between, line_heading, told_between}
use Rattle.xns_calls.proofs.EndReads.{ended_scene, ends_say, flow_ends, flow_left, scene_seen, seen_by}
use Rattle.xns_calls.proofs.Fits.{fits_whole}
use Rattle.xns_calls.proofs.Known.{events_ordered}
use Rattle.xns_calls.proofs.Ordered.{IsOrdered}
use Rattle.xns_calls.proofs.Begun.{IsAt, IsGone, IsOn, still}
use Rattle.xns_calls.proofs.Happenings.{far_stays, flow_here, gone_set}
use Rattle.xns_calls.proofs.LastKept.{AreAcks, AreBelow}
use Rattle.xns_calls.proofs.Onwards.{Says}
use Rattle.xns_calls.proofs.Inputs.{from_front, numbered_from}
use Rattle.xns_calls.proofs.Parts.{flow_at, joined_own, plain, plain_whole}
use Rattle.xns_calls.proofs.Numbered.{AllKeep, IsNumbered, numbered_none, numbered_set}
use Rattle.xns_calls.proofs.Others.{get_same, get_set}
use Rattle.xns_calls.proofs.Steps.{early_of}
use Rattle.xns_calls.proofs.Places.{plain_places}
use Rattle.xns_calls.proofs.Whole.{after_append, first_of, whole_said}
use Rattle.xns_calls.proofs.WholeEnds.{acks_whole, whole_below}
use Rattle.xns_calls.specs.declared.origin.Origin.{Origin}
use Rattle.xns_calls.specs.Origins.{line_origin}

-- ---- the end of one connection

record EndStep (n : Origin) (m i : ℕ) (b : Bool) (k k' : Known) (t : Told) : Type 0 where
  events : List Event
  at : AreAt (heading_at n m b) events
  stands : IsOn m b k' (after_events events t)
  acks : (bound : ℕ) → AreBelow bound (early_of t) → AreAcks bound events
  parts : List Part
  text : k'.text ≡ k.text ++ parts_text parts
  own : texts_in (flow_at m b) parts ≡ flow_text events t
  done : (c : Connection) → slice_get k'.connections i ≡ Some c → c.number ≡ m → (after_events events t).track.early ≡ []
  keeps : t.track.early ≡ [] → (after_events events t).track.early ≡ []

-- nothing happens to it
step_far : (n : Origin) (m i : ℕ) (b : Bool) (k k' : Known) (t : Told) (parts : List Part) → k'.text ≡ k.text ++ parts_text parts → texts_in (flow_at m b) parts ≡ []
    → (a : IsAt m b k t) → slice_get k'.connections a.place ≡ slice_get k.connections a.place → ((c : Connection) → slice_get k'.connections i ≡ Some c → c.number ≡ m → ⊥) → EndStep n m i b k k' t
step_far n m i b k k' t parts text own a same not_here = record {
  events = meanwhile t.calls k'.text k'.is_refused ∷ [];
  at = tt;
  stands = inl (still m b k k' t a same);
  acks = λ bound below. tt;
  parts = parts;
  text = text;
  own = own;
  done = λ c there is. absurd (not_here c there is);
  keeps = λ none. none;
}

step_gone : (n : Origin) (m i : ℕ) (b : Bool) (k k' : Known) (t : Told) (parts : List Part) → k'.text ≡ k.text ++ parts_text parts → texts_in (flow_at m b) parts ≡ [] → IsGone m k' t → EndStep n m i b k k' t
step_gone n m i b k k' t parts text own gone = record {
  events = [];
  at = tt;
  stands = inr gone;
  acks = λ bound below. tt;
  parts = parts;
  text = text;
  own = own;
  done = λ c there is. gone.empty;
  keeps = λ none. none;
}

-- all that it keeps is read
near_end : (n : Origin) (i : ℕ) (b : Bool) (c : Connection) (k : Known) (t : Told) → slice_get k.connections i ≡ Some c → IsOrdered t → (scene_in b c k).own.track ≡ Some t.track → t ≡ told_of t.track (scene_in b c k)
    → EndStep n c.number i b k (ended_there n i (Some c) k) t
near_end n i b c k t there ordered track is =
    let w = flow_ends n b c k t track is ordered in
    let l = w.leads in
    let u = after_events w.events t in
    let c' = with_scene false (ended_scene n c k) c in
    let same : scene_in b c' (ended_there n i (Some c) k) ≡ seen_by b (ended_scene n c k) = scene_seen b c' (ended_there n i (Some c) k) in
    let empty : u.track.early ≡ [] = flow_left n b c k u.track l.track in record {
      events = w.events;
      at = l.at;
      stands = inl (record {
        place = i;
        connection = c';
        there = get_same k.connections i c c' there;
        number = refl;
        track = ap (λ (x : Scene). x.own.track) same ∙ l.track;
        is = l.is ∙ ap (λ (x : Scene). told_of u.track x) (sym same);
        ordered = events_ordered w.events t ordered;
      });
      acks = λ bound below. (w.acks bound below).0;
      parts = l.parts;
      text = l.text;
      own = l.own;
      done = λ d e number. empty;
      keeps = λ e. empty;
    }

there_end : (n : Origin) (m i : ℕ) (b : Bool) (c : Connection) (k : Known) (t : Told) → IsNumbered k.connections k.count → slice_get k.connections i ≡ Some c → IsOn m b k t → EndStep n m i b k (ended_there n i (Some c) k) t
there_end n m i b c k t numbered there on = by_number (m == c.number) refl on
  where
    s : Scene
    s = scene_in false c k

    c' : Connection
    c' = with_scene false (both_ended (heading_at n c.number false) s) c

    says : Says c.number s (both_ended (heading_at n c.number false) s)
    says = ends_say n c.number false s

    other_here : (m ≡ c.number → ⊥) → (d : Connection) → slice_get (slice_set k.connections i c') i ≡ Some d → d.number ≡ m → ⊥
    other_here other d e is =
        let some : Some c' ≡ Some d = sym (get_same k.connections i c c' there) ∙ e in
        let one : c' ≡ d = (cc) in other (sym is ∙ sym (ap (λ (x : Connection). x.number) one))

    by_number : (p : Bool) → (m == c.number) ≡ p → IsOn m b k t → EndStep n m i b k (ended_there n i (Some c) k) t
    by_number true e (inl a) =
        let here = flow_here m i b c k t numbered there a (eqb-true m c.number e) in
        subst (λ g. EndStep n g i b k (ended_there n i (Some c) k) t) (sym (eqb-true m c.number e)) (near_end n i b c k t there a.ordered here.0 here.1)
    by_number true e (inr gone) = absurd (gone.none i c there (sym (eqb-true m c.number e)))
    by_number false e (inl a) =
        step_far n m i b k (ended_there n i (Some c) k) t says.parts says.text (says.far m b e) a
        (far_stays m i b c c' k t there a (eqb-false m c.number e))
        (other_here (eqb-false m c.number e))
    by_number false e (inr gone) =
        step_gone n m i b k (ended_there n i (Some c) k) t says.parts says.text (says.far m b e)
        (record { counted = gone.counted; none = gone_set m i k c c' t gone there refl; empty = gone.empty })

end_step : (n : Origin) (m i : ℕ) (b : Bool) (k : Known) (t : Told) → IsNumbered k.connections k.count → IsOn m b k t → EndStep n m i b k (after_end n i k) t
unfolding after_end
end_step n m i b k t numbered on = by_connection (slice_get k.connections i) refl on
  where
    by_connection : (o : Option Connection) → slice_get k.connections i ≡ o → IsOn m b k t → EndStep n m i b k (ended_there n i o k) t
    by_connection None there (inl a) =
        step_far n m i b k k t [] (sym (append-nil k.text)) refl a refl (λ c e is. let wrong : None ≡ Some c = sym there ∙ e in (cc))
    by_connection None there (inr gone) = step_gone n m i b k k t [] (sym (append-nil k.text)) refl gone
    by_connection (Some c) there on = there_end n m i b c k t numbered there on

-- ---- all connections

set_length : (cs : List Connection) (i : ℕ) (c : Connection) → length (slice_set cs i c) ≡ length cs
set_length [] i c = refl
set_length (x ∷ cs) zero c = refl
set_length (x ∷ cs) (suc i) c = ap suc (set_length cs i c)

end_length : (n : Origin) (i : ℕ) (k : Known) → length (after_end n i k).connections ≡ length k.connections
unfolding after_end
end_length n i k = by_connection (slice_get k.connections i)
  where
    by_connection : (o : Option Connection) → length (ended_there n i o k).connections ≡ length k.connections
    by_connection None = refl
    by_connection (Some c) = set_length k.connections i _

end_numbered : (n : Origin) (i : ℕ) (k : Known) → IsNumbered k.connections k.count → IsNumbered (after_end n i k).connections (after_end n i k).count
unfolding after_end
end_numbered n i k w = by_connection (slice_get k.connections i) refl
  where
    by_connection : (o : Option Connection) → slice_get k.connections i ≡ o → IsNumbered (ended_there n i o k).connections (ended_there n i o k).count
    by_connection None there = w
    by_connection (Some c) there = numbered_set k.connections k.count i c _ w there refl

-- each connection below the place has been ended
record Goes (at_line : ℕ → Heading) (last : ℕ) (items : List Item) (m : ℕ) (b : Bool) (start : Told) (line text : List ℕ) (k : Known) (count part : ℕ) : Type 0 where
  events : List Event
  whole : IsWhole items (plain events)
  at : AreBetween at_line 1 (1 + last) events
  stands : IsOn m b k (after_events events start)
  numbered : IsNumbered k.connections k.count
  long : length k.connections ≡ count
  parts : List Part
  all : text ≡ parts_text parts
  own : texts_in (flow_at m b) parts ≡ line ++ flow_text events start
  done : (j : ℕ) (c : Connection) → slice_get k.connections j ≡ Some c → c.number ≡ m → j < part → (after_events events start).track.early ≡ []

end_others : (n : Origin) (i j : ℕ) (k : Known) → (j ≡ i → ⊥) → slice_get (after_end n i k).connections j ≡ slice_get k.connections j
unfolding after_end
end_others n i j k other = by_connection (slice_get k.connections i)
  where
    by_connection : (o : Option Connection) → slice_get (ended_there n i o k).connections j ≡ slice_get k.connections j
    by_connection None = refl
    by_connection (Some c) = get_set k.connections j i _ other

less : (j i : ℕ) → j < suc i → (j ≡ i → ⊥) → j < i
less j i lt other = by_order (nat_lt j i) refl
  where
    by_order : (p : Bool) → nat_lt j i ≡ p → j < i
    by_order true e = ltb-true j i e
    by_order false e = let le : i ≤ j = ltb-false j i e in absurd (other (omega (arith, lt, le)))

goes_one : (at_line : ℕ → Heading) (last : ℕ) (n : Origin) (items : List Item) (m : ℕ) (b : Bool) (start : Told) (line text : List ℕ) (before : Known) (count part : ℕ) → 1 ≤ last → at_line last ≡ heading_at n m b → start.track ≡ record { next = 0; early = []; speech = Hearing (opening []) }
    → Goes at_line last items m b start line text before count part
    → Goes at_line last items m b start line (text ++ (after_end n part (record before { text = [] })).text) (after_end n part (record before { text = [] })) count (suc part)
goes_one at_line last n items m b start line text before count part some is first w =
    let k : Known = record before { text = [] } in
    let k' = after_end n part k in
    let t = after_events w.events start in
    let front = meanwhile t.calls [] k.is_refused in
    let u = after_event front t in
    let v = end_step n m part b k u w.numbered (from_front m b before t w.stands) in
    let more = front ∷ v.events in
    let joined = after_append w.events more start in
    let P = flow_at m b in record {
      events = w.events ++ more;
      whole = acks_whole items w.events more w.whole (v.acks (length items) (whole_below items w.events start first (plain_whole items w.events w.whole)));
      at = last_between at_line last w.events more some (subst (λ h. AreAt h more) (sym is) v.at) w.at;
      stands = subst (IsOn m b k') (sym joined) v.stands;
      numbered = end_numbered n part k w.numbered;
      long = end_length n part k ∙ w.long;
      parts = w.parts ++ v.parts;
      all = ap (λ z. z ++ k'.text) w.all ∙ ap (λ z. parts_text w.parts ++ z) v.text ∙ sym (flat_map-append part_text w.parts v.parts);
      own = joined_own P w.parts v.parts line w.events more start w.own v.own;
      done = λ j c there is lt. ap (λ (x : Told). x.track.early) joined ∙ by_place v j c (w.done j c) there is lt (j == part) refl;
    }
  where
    by_place : {t : Told} (v : EndStep n m part b (record before { text = [] }) (after_end n part (record before { text = [] })) t)
        (j : ℕ) (c : Connection) → (slice_get before.connections j ≡ Some c → c.number ≡ m → j < part → t.track.early ≡ [])
        → slice_get (after_end n part (record before { text = [] })).connections j ≡ Some c → c.number ≡ m → j < suc part → (p : Bool) → (j == part) ≡ p
        → (after_events v.events t).track.early ≡ []
    by_place v j c old there is lt true e = v.done c (subst (λ i. slice_get (after_end n part (record before { text = [] })).connections i ≡ Some c) (eqb-true j part e) there) is
    by_place v j c old there is lt false e =
        let other = eqb-false j part e in
        v.keeps (old (sym (end_others n part j (record before { text = [] }) other) ∙ there) is (less j part lt other))

module _ (programs : Programs) where
  goes_on : (items : List Item) (m : ℕ) (b : Bool) (start : Told) (line : List ℕ) (lines : List (List ℕ)) → 1 ≤ length lines → start.track ≡ record { next = 0; early = []; speech = Hearing (opening []) }
      → Goes (line_heading programs m b) (length lines) items m b start line (text_of programs lines) (known_of programs lines) (end_count programs lines) 0 → (part : ℕ)
      → Goes (line_heading programs m b) (length lines) items m b start line (text_with_end programs lines part) (known_with_end programs lines part) (end_count programs lines) part
  goes_on items m b start line lines some first begun zero = begun
  goes_on items m b start line lines some first begun (suc part) =
      goes_one (line_heading programs m b) (length lines) (line_origin programs (length lines)) items m b start line (text_with_end programs lines part) (known_with_end programs lines part) (end_count programs lines) part some refl first
      (goes_on items m b start line lines some first begun part)

pub none_at_first : (m : ℕ) (b : Bool) → AllKeep m b [] None
none_at_first m b i c there is = (cc)

-- nothing is kept at the end
all_ended : (m : ℕ) (b : Bool) (k : Known) (t : Told) (count : ℕ) → length k.connections ≡ count → IsOn m b k t
    → ((j : ℕ) (c : Connection) → slice_get k.connections j ≡ Some c → c.number ≡ m → j < count → t.track.early ≡ []) → t.track.early ≡ []
all_ended m b k t count long (inl a) done = done a.place a.connection a.there a.number (subst (λ x. a.place < x) long (slice_get_within k.connections a.place a.connection a.there))
all_ended m b k t count long (inr gone) done = gone.empty

-- a flow that begins does so with a line
has_lines : (programs : Programs) (p : FlowName) (lines : List (List ℕ)) (field : ℕ) → first_field programs p lines ≡ Some field → 1 ≤ length lines
has_lines programs p [] field has = (cc)
has_lines programs p (line ∷ lines) field has = omega arith

-- ---- the whole

pub input_told : FlowsAreToldApart → (runs : SignsRunOn) (law : OneItemMore) → ((fed : List Item) → conversation fed ≡ said (opening []) (written fed)) → ((fed : List Item) → ending fed ≡ run (opening []) (written fed))
    → (programs : Programs) (input : List ℕ) (p : FlowName) (items : List Item) (field : ℕ) → first_field programs p (lines_of input) ≡ Some field → field < most_pending → IsWhole items (events_in programs p (lines_of input))
    → TellsConversation programs p items (lines_of input) (calls_text programs input)
input_told apart runs law messages ends programs input p items field has small whole =
    let lines = lines_of input in
    let w = lines_met programs (plain_places apart) 1 p.connection p.is_behind nothing_known numbered_none (none_at_first p.connection p.is_behind) lines field has in
    let line = flow_line w.heading w.packet w.header in
    let first = first_of field w.start small w.track in
    let begun : Goes (line_heading programs p.connection p.is_behind) (length lines) items p.connection p.is_behind w.start line (text_of programs lines) (known_of programs lines) (end_count programs lines) 0 = record {
      events = w.events;
      whole = fits_whole items (events_in programs p lines) (plain w.events) w.are whole;
      at = w.at;
      stands = w.stands;
      numbered = numbered_from programs 1 nothing_known lines numbered_none;
      long = refl;
      parts = w.parts;
      all = w.is;
      own = w.own;
      done = λ j c there is lt. absurd (omega (arith, lt));
    } in
    let v = goes_on programs items p.connection p.is_behind w.start line lines (has_lines programs p lines field has) first begun (end_count programs lines) in
    let left = all_ended p.connection p.is_behind (known_with_end programs lines (end_count programs lines)) (after_events v.events w.start) (end_count programs lines) v.long v.stands v.done in record {
      parts = v.parts;
      all = v.all;
      heading = w.heading;
      packet = w.packet;
      header = w.header;
      said = flow_text v.events w.start;
      own = v.own;
      told = flow_heard v.events w.start;
      at = told_between programs p (length lines) v.events w.start v.at;
      conversation = whole_said runs law messages ends items v.events field w.start small w.track (plain_whole items v.events v.whole) left;
    }
