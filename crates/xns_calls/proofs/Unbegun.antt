-- A packet at the place of its connection, for a flow of a whole input that has not begun: the flow begins with its first data packet.
use Rattle.std.proofs.Common.{◌≡◌, ◌∙◌, ap, sym, refl, subst, ℕ, ◌==◌, ◌⊎◌, inl, inr, Bool, true, false, cond, List, [], ◌∷◌, ◌++◌, length, drop, append_assoc, append-nil, Option, Some, None}
use Rattle.std.specs.Prelude.{nat_lt, not, slice_get}
use Rattle.std.proofs.lemmas.Bool.{eqb-false, eqb-true}
use Rattle.std.proofs.Math.Seq.{drop-length}
use Rattle.xns_spp.specs.Ends.{most_pending}
use Rattle.courier_messages.specs.Conversation.{opening}
use Rattle.xns_calls.specs.declared.speech.Speech.TheVariants.{Hearing, Waiting}
use Rattle.xns_idp.specs.Packet.{PacketModel}
use Rattle.xns_spp.specs.Header.{is_system}
use Rattle.xns_spp.specs.declared.header.Header.{Header}
use Rattle.xns_calls.specs.Acknowledged.{acknowledged_in, aheads_in, due_in, due_of, effective, if_begun, nearer, noted_beside}
use Rattle.xns_calls.specs.Capture.{Known, heading_at, scene_in, taken_in, with_scene}
use Rattle.xns_calls.specs.Events.{Event, acknowledged_event, after_events, captured_event}
use Rattle.xns_calls.specs.Exchange.{Scene, advance_other, after_content, after_data, after_packet, after_told, begin_track, begun, carried, first_track, new_number, of_other, other_reached, own_reached, reached, take_number, told_of}
use Rattle.xns_calls.specs.Input.{Part, begins, events_between, field_between, is_same, item_events, parts_text, said_texts, text_in, texts_in, told}
use Rattle.xns_calls.specs.Numbers.{near}
use Rattle.xns_calls.specs.Over.{side_in}
use Rattle.xns_calls.specs.Reading.{Told}
use Rattle.xns_calls.specs.Texts.{flow_line}
use Rattle.xns_calls.specs.Whole.{flow_text}
use Rattle.xns_calls.specs.declared.connection.Connection.{Connection}
use Rattle.xns_calls.specs.declared.due.Due.{Due}
use Rattle.xns_calls.specs.declared.heading.Heading.{Heading}
use Rattle.xns_calls.specs.declared.track.Track.{Track}
use Rattle.xns_calls.proofs.Adding.{number_adds}
use Rattle.xns_calls.proofs.AtLines.{AreAt, captured_at}
use Rattle.xns_calls.proofs.Fits.{Fits, fits}
use Rattle.xns_calls.proofs.Known.{events_ordered, new_ordered}
use Rattle.xns_calls.proofs.Ordered.{IsOrdered}
use Rattle.xns_calls.proofs.Begun.{IsOn, stands_own}
use Rattle.xns_calls.proofs.Happenings.{far_texts, in_text, near_events, side_track}
use Rattle.xns_calls.proofs.Parts.{reached_is, reached_said, reached_text, added, behind_text, captured_new, captured_plain, flow_at, other_text, own_text, packet_parts, packet_said, plain, said_text_of, scene_text, two_of, two_texts}
use Rattle.xns_calls.proofs.Numbered.{AllKeep, keep_set, scene_number}
use Rattle.xns_calls.proofs.Packets.{none_own, number_event, packet_other, reached_own}
use Rattle.xns_calls.specs.declared.origin.Origin.{Origin}

-- ---- a packet, for a flow that has not begun

-- what begins keeps nothing
pub first_early : (field : ℕ) → (first_track field).early ≡ []
first_early field = over (nat_lt field most_pending)
  where
    over : (p : Bool) → (cond {A = Track} p (record { next = 0; early = []; speech = Hearing (opening []) }) (record { next = field; early = []; speech = Waiting })).early ≡ []
    over true = refl
    over false = refl

begun_ordered : (field : ℕ) (t : Told) → t.track ≡ first_track field → IsOrdered t
begun_ordered field t is = new_ordered t (ap (λ (x : Track). x.early) is ∙ first_early field)

-- the flow does not begin
pub record Awaits (m : ℕ) (b : Bool) (before : List ℕ) (k : Known) (happened : List Event) (field : Option ℕ) : Type 0 where
  pub none : AllKeep m b k.connections None
  pub nothing : happened ≡ []
  pub later : field ≡ None
  pub parts : List Part
  pub text : k.text ≡ before ++ parts_text parts
  pub own : texts_in (flow_at m b) parts ≡ []

-- the flow begins
pub record Starts (n : Origin) (m : ℕ) (b : Bool) (before : List ℕ) (k : Known) (happened : List Event) (field : Option ℕ) : Type 0 where
  pub first : ℕ
  pub has : field ≡ Some first
  pub start : Told
  pub track : start.track ≡ first_track first
  pub events : List Event
  pub are : Fits happened (plain events)
  pub at : AreAt (heading_at n m b) events
  pub stands : IsOn m b k (after_events events start)
  pub heading : Heading
  pub packet : PacketModel
  pub header : Header
  pub parts : List Part
  pub text : k.text ≡ before ++ parts_text parts
  pub own : texts_in (flow_at m b) parts ≡ flow_line heading packet header ++ flow_text events start

abbrev pub Met : Origin → ℕ → Bool → List ℕ → Known → List Event → Option ℕ → Type 0
Met n m b before k happened field = Awaits m b before k happened field ⊎ Starts n m b before k happened field

pub waits_still : (m : ℕ) (b : Bool) (k : Known) (happened : List Event) (field : Option ℕ) → AllKeep m b k.connections None → happened ≡ [] → field ≡ None → Awaits m b k.text k happened field
waits_still m b k happened field none nothing later = record { none = none; nothing = nothing; later = later; parts = []; text = sym (append-nil k.text); own = refl }

pub track_own : (b : Bool) (f : Header) (c : Connection) (s : Scene) → (side_in b (with_scene b s (noted_beside b f c))).track ≡ s.own.track
track_own true f c s = refl
track_own false f c s = refl

pub track_behind : (q : Bool) (f : Header) (c : Connection) (s : Scene) → (side_in (not q) (with_scene q s (noted_beside q f c))).track ≡ s.other.track
track_behind true f c s = refl
track_behind false f c s = refl

-- nothing takes effect of it
none_due_of : (b : Bool) (c : Connection) → (side_in b c).track ≡ None → due_of b c ≡ None
none_due_of b c none = ap (λ o. if_begun o (effective (nearer (aheads_in b c)))) none

abbrev item_field : Header → Option ℕ
item_field f = cond (is_system f) None (Some f.sequence)

-- a system packet of its own
system_same : (h : Heading) (due : Due) (packet : PacketModel) (f : Header) (content : List ℕ) (s : Scene) → due.own ≡ None → is_system f ≡ true → after_packet h due packet f content s ≡ other_reached h due.other s
unfolding after_packet after_content
system_same h due packet f content s nothing e =
    let known = other_reached h due.other s in
    ap (λ p. own_reached h due.own (cond p known (after_data h due.acknowledged packet f content known))) e ∙ ap (λ o. own_reached h o known) nothing ∙ none_own h known

own_waits : (n : Origin) (i : ℕ) (b : Bool) (packet : PacketModel) (f : Header) (content : List ℕ) (c : Connection) (k : Known) → AllKeep c.number b k.connections None → (scene_in b c k).own.track ≡ None → is_system f ≡ true
    → Awaits c.number b k.text (taken_in n i b packet f content c k) (item_events (heading_at n c.number b) f content (acknowledged_in b f c) None ++ acknowledged_event (heading_at n c.number b) (due_of b c)) (item_field f)
own_waits n i b packet f content c k all none e =
    let m = c.number in
    let h = heading_at n m b in
    let s = scene_in b c k in
    let due = due_in b f c in
    let known = other_reached h due.other s in
    let new = after_packet h due packet f content s in
    let nothing : due.own ≡ None = none_due_of b c (sym (side_track b c k) ∙ none) in
    let same : new ≡ known = system_same h due packet f content s nothing e in record {
      none = keep_set m b k.connections i (with_scene b new (noted_beside b f c)) None all
          (λ is. track_own b f c new ∙ ap (λ (x : Scene). x.own.track) same ∙ reached_own h due.other s ∙ none);
      nothing = ap (λ p. cond p [] (captured_event h (near (first_track f.sequence).next f.sequence) (carried h due.acknowledged f content)) ++ acknowledged_event h due.own) e ∙ ap (acknowledged_event h) nothing;
      later = ap (λ p. cond p None (Some f.sequence)) e;
      parts = packet_parts n m b due packet f content s;
      text = in_text n i b packet f content c k;
      own = two_of (text_in (flow_at m b) (told n (flow_at m (not b)) (reached_said n m b due s))) (text_in (flow_at m b) (told n (flow_at m b) (packet_said n m b due packet f content s))) [] []
          (other_text n m b (reached_said n m b due s))
          (own_text n m b (packet_said n m b due packet f content s) ∙ sym (said_text_of n m b due packet f content s) ∙ ap (λ (x : Scene). drop (length known.text) x.text) same ∙ drop-length known.text);
    }

-- a data packet of its own, with which the flow begins
pub data_new : (h : Heading) (a : Option ℕ) (packet : PacketModel) (f : Header) (content : List ℕ) (s : Scene) → s.own.track ≡ None → after_data h a packet f content s ≡ take_number h f (carried h a f content) (begin_track h packet f None s)
unfolding after_data begun
data_new h a packet f content s none = ap (λ o. take_number h f (carried h a f content) (begin_track h packet f o s)) none

packet_new : (h : Heading) (due : Due) (packet : PacketModel) (f : Header) (content : List ℕ) (s : Scene) → due.own ≡ None → s.own.track ≡ None → is_system f ≡ false
    → after_packet h due packet f content s ≡ take_number h f (carried h due.acknowledged f content) (begin_track h packet f None (other_reached h due.other s))
unfolding after_packet after_content
packet_new h due packet f content s nothing none e =
    let known = other_reached h due.other s in
    ap (λ p. own_reached h due.own (cond p known (after_data h due.acknowledged packet f content known))) e ∙ ap (λ o. own_reached h o (after_data h due.acknowledged packet f content known)) nothing
    ∙ none_own h (after_data h due.acknowledged packet f content known) ∙ data_new h due.acknowledged packet f content known (reached_own h due.other s ∙ none)

own_starts : (n : Origin) (i : ℕ) (b : Bool) (packet : PacketModel) (f : Header) (content : List ℕ) (c : Connection) (k : Known) → slice_get k.connections i ≡ Some c → (scene_in b c k).own.track ≡ None → is_system f ≡ false
    → Starts n c.number b k.text (taken_in n i b packet f content c k) (item_events (heading_at n c.number b) f content (acknowledged_in b f c) None ++ acknowledged_event (heading_at n c.number b) (due_of b c)) (item_field f)
own_starts n i b packet f content c k there none e =
    let m = c.number in
    let h = heading_at n m b in
    let s = scene_in b c k in
    let due = due_in b f c in
    let nothing : due.own ≡ None = none_due_of b c (sym (side_track b c k) ∙ none) in
    let known = other_reached h due.other s in
    let new = after_packet h due packet f content s in
    let B : Scene = begin_track h packet f None known in
    let item = carried h due.acknowledged f content in
    let first = first_track f.sequence in
    let o = near first.next f.sequence in
    let events = captured_event h o item in
    let start = told_of first B in
    let u = after_events events start in
    let takes : new ≡ take_number h f item B = packet_new h due packet f content s nothing none e in
    let one : take_number h f item B ≡ after_told u B = number_event h f item B first o refl refl in
    let after : new ≡ after_told u B = takes ∙ one in
    let z = number_adds h (new_number B.own.track f.sequence) item B in
    let line = flow_line h packet f in
    let before = reached_said n m b due s in
    let parts = told n (flow_at m (not b)) before ∷ told n (flow_at m b) (begins packet f ∷ z.said) ∷ [] in record {
      first = f.sequence;
      has = ap (λ p. cond p None (Some f.sequence)) e;
      start = start;
      track = refl;
      events = events;
      are = fits (item_events h f content (acknowledged_in b f c) None ++ acknowledged_event h (due_of b c)) (plain events)
          (captured_plain h o item ∙ sym (append-nil events) ∙ sym (ap (λ a. events ++ acknowledged_event h a) nothing) ∙ sym (ap (λ p. cond p [] events ++ acknowledged_event h due.own) e));
      at = captured_at h o item;
      stands = inl (stands_own i b f c new k there u (events_ordered events start (begun_ordered f.sequence start refl)) (ap (λ (x : Scene). x.own.track) after) (sym (ap (λ (x : Scene). told_of u.track x) after)));
      heading = h;
      packet = packet;
      header = f;
      parts = parts;
      text = two_texts s.text known.text new.text (said_texts (of_other h) before) (line ++ said_texts h z.said) (reached_is n m b due s)
          (ap (λ (x : Scene). x.text) takes ∙ z.is ∙ append_assoc known.text line (said_texts h z.said))
          ∙ ap (λ x. x ++ parts_text parts) (scene_text b c k);
      own = two_of (text_in (flow_at m b) (told n (flow_at m (not b)) before)) (text_in (flow_at m b) (told n (flow_at m b) (begins packet f ∷ z.said))) [] (line ++ flow_text events start)
          (other_text n m b before)
          (own_text n m b (begins packet f ∷ z.said)
          ∙ ap (λ x. line ++ x) (sym (added h B.text (take_number h f item B).text z) ∙ ap (λ (x : Scene). drop (length B.text) x.text) one ∙ sym (captured_new h o item start)));
    }

own_meets : (n : Origin) (i : ℕ) (b : Bool) (packet : PacketModel) (f : Header) (content : List ℕ) (c : Connection) (k : Known) → slice_get k.connections i ≡ Some c → AllKeep c.number b k.connections None
    → (scene_in b c k).own.track ≡ None → Met n c.number b k.text (taken_in n i b packet f content c k) (item_events (heading_at n c.number b) f content (acknowledged_in b f c) None ++ acknowledged_event (heading_at n c.number b) (due_of b c)) (item_field f)
own_meets n i b packet f content c k there all none = by_system (is_system f) refl
  where
    by_system : (p : Bool) → is_system f ≡ p → Met n c.number b k.text (taken_in n i b packet f content c k) (item_events (heading_at n c.number b) f content (acknowledged_in b f c) None ++ acknowledged_event (heading_at n c.number b) (due_of b c)) (item_field f)
    by_system true e = inl (own_waits n i b packet f content c k all none e)
    by_system false e = inr (own_starts n i b packet f content c k there none e)

-- a packet of the flow behind
pub reached_same : (h : Heading) (number : Option ℕ) (s : Scene) → s.other.track ≡ None → other_reached h number s ≡ s
unfolding other_reached
reached_same h number s none = ap (λ o. advance_other h (reached o number) s) none

other_track : (q : Bool) (c : Connection) (k : Known) → (scene_in q c k).other.track ≡ (side_in (not q) c).track
other_track true c k = refl
other_track false c k = refl

behind_waits : (n : Origin) (i : ℕ) (q : Bool) (packet : PacketModel) (f : Header) (content : List ℕ) (c : Connection) (k : Known) → AllKeep c.number (not q) k.connections None → (scene_in q c k).other.track ≡ None
    → Awaits c.number (not q) k.text (taken_in n i q packet f content c k) (acknowledged_event (heading_at n c.number (not q)) (due_of (not q) c)) None
behind_waits n i q packet f content c k all none =
    let m = c.number in
    let h = heading_at n m q in
    let s = scene_in q c k in
    let due = due_in q f c in
    let new = after_packet h due packet f content s in
    let same : other_reached h due.other s ≡ s = reached_same h due.other s none in
    let P = flow_at m (not q) in record {
      none = keep_set m (not q) k.connections i (with_scene q new (noted_beside q f c)) None all
          (λ is. track_behind q f c new ∙ packet_other h due packet f content s ∙ ap (λ (x : Scene). x.other.track) same ∙ none);
      nothing = ap (acknowledged_event (heading_at n m (not q))) (none_due_of (not q) c (sym (other_track q c k) ∙ none));
      later = refl;
      parts = packet_parts n m q due packet f content s;
      text = in_text n i q packet f content c k;
      own = two_of (text_in P (told n P (reached_said n m q due s))) (text_in P (told n (flow_at m q) (packet_said n m q due packet f content s))) [] []
          (own_text n m (not q) (reached_said n m q due s) ∙ sym (reached_text n m q due s) ∙ ap (λ (x : Scene). drop (length s.text) x.text) same ∙ drop-length s.text)
          (behind_text n m q (packet_said n m q due packet f content s));
    }

abbrev near_field : Bool → Bool → Header → Option ℕ
near_field b q f = cond (is_same b q) (item_field f) None

near_meets : (n : Origin) (i : ℕ) (b q : Bool) (packet : PacketModel) (f : Header) (content : List ℕ) (c : Connection) (k : Known) → slice_get k.connections i ≡ Some c → AllKeep c.number b k.connections None
    → (scene_in b c k).own.track ≡ None → Met n c.number b k.text (taken_in n i q packet f content c k) (near_events n c.number b q f content (acknowledged_in q f c) None (due_of b c)) (near_field b q f)
near_meets n i true true packet f content c k there all none = own_meets n i true packet f content c k there all none
near_meets n i false false packet f content c k there all none = own_meets n i false packet f content c k there all none
near_meets n i true false packet f content c k there all none = inl (behind_waits n i false packet f content c k all none)
near_meets n i false true packet f content c k there all none = inl (behind_waits n i true packet f content c k all none)

far_waits : (n : Origin) (m i : ℕ) (b q : Bool) (packet : PacketModel) (f : Header) (content : List ℕ) (c : Connection) (k : Known) → (m == c.number) ≡ false → (m ≡ c.number → ⊥) → AllKeep m b k.connections None
    → Awaits m b k.text (taken_in n i q packet f content c k) [] None
far_waits n m i b q packet f content c k far other all =
    let s = scene_in q c k in
    let new = after_packet (heading_at n c.number q) (due_in q f c) packet f content s in record {
      none = keep_set m b k.connections i (with_scene q new (noted_beside q f c)) None all (λ is. absurd (other (sym is ∙ scene_number q new f c)));
      nothing = refl;
      later = refl;
      parts = packet_parts n c.number q (due_in q f c) packet f content s;
      text = in_text n i q packet f content c k;
      own = far_texts n m b q (due_in q f c) packet f content c.number s far;
    }

pub taken_meets : (n : Origin) (m i : ℕ) (b q : Bool) (packet : PacketModel) (f : Header) (content : List ℕ) (c : Connection) (k : Known) → slice_get k.connections i ≡ Some c → AllKeep m b k.connections None
    → Met n m b k.text (taken_in n i q packet f content c k) (events_between (flow_at m b) (flow_at c.number q) (heading_at n m b) f content (acknowledged_in q f c) (side_in b c).track (due_of b c)) (field_between (flow_at m b) (flow_at c.number q) f)
taken_meets n m i b q packet f content c k there all = by_number (m == c.number) refl
  where
    by_number : (p : Bool) → (m == c.number) ≡ p
        → Met n m b k.text (taken_in n i q packet f content c k) (cond p (near_events n m b q f content (acknowledged_in q f c) (side_in b c).track (due_of b c)) []) (cond p (near_field b q f) None)
    by_number true e =
        let same : m ≡ c.number = eqb-true m c.number e in
        let none : (side_in b c).track ≡ None = all i c there (sym same) in
        subst (λ o. Met n m b k.text (taken_in n i q packet f content c k) (near_events n m b q f content (acknowledged_in q f c) o (due_of b c)) (near_field b q f)) (sym none)
        (subst (λ g. Met n g b k.text (taken_in n i q packet f content c k) (near_events n g b q f content (acknowledged_in q f c) None (due_of b c)) (near_field b q f)) (sym same)
        (near_meets n i b q packet f content c k there (subst (λ g. AllKeep g b k.connections None) same all) (side_track b c k ∙ none)))
    by_number false e = inl (far_waits n m i b q packet f content c k e (eqb-false m c.number e) all)
