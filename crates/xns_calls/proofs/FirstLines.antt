-- The lines of a whole input, for a flow that has not begun: the flow begins with the line of its first data packet.
use Rattle.std.proofs.Common.{◌≡◌, ◌∙◌, ap, sym, refl, subst, ℕ, ◌+◌, inl, inr, Bool, List, [], ◌∷◌, ◌++◌, length, append-nil, Option, Some, None}
use Rattle.std.proofs.lemmas.Grind.{flat_map-append}
use Rattle.xns_idp.specs.Packet.{PacketModel}
use Rattle.xns_spp.specs.declared.header.Header.{Header}
use Rattle.xns_calls.specs.Naming.{Programs}
use Rattle.xns_calls.specs.Calls.{after_line, known_from, line_taken, text_from}
use Rattle.xns_calls.specs.Capture.{Known}
use Rattle.xns_calls.specs.Events.{Event, after_events}
use Rattle.xns_calls.specs.Exchange.{first_track}
use Rattle.xns_calls.specs.Input.{Arrival, FlowName, Part, arrival, connection_of, events_at, events_from, field_at, field_there, first_field_from, or_later, part_text, parts_text, text_in, texts_in}
use Rattle.xns_calls.specs.Reading.{Told}
use Rattle.xns_calls.specs.Texts.{flow_line}
use Rattle.xns_calls.specs.Whole.{flow_text}
use Rattle.xns_calls.specs.declared.connection.Connection.{Connection}
use Rattle.xns_calls.specs.declared.heading.Heading.{Heading}
use Rattle.xns_calls.proofs.AtLines.{AreBetween, line_between, line_heading}
use Rattle.xns_calls.proofs.Whole.{after_append}
use Rattle.xns_calls.proofs.Fits.{Fits, fits_on}
use Rattle.xns_calls.proofs.Begun.{IsOn}
use Rattle.xns_calls.proofs.Renewals.{IsPlain}
use Rattle.xns_calls.proofs.Inputs.{events_front, line_is, lines_ran, numbered_line}
use Rattle.xns_calls.proofs.Parts.{flow_at, joined_own, plain}
use Rattle.xns_calls.proofs.Numbered.{AllKeep, IsNumbered}
use Rattle.xns_calls.specs.declared.origin.Origin.{Origin}
use Rattle.xns_calls.specs.Origins.{line_origin}
use Rattle.xns_calls.proofs.Beginnings.{sequenced_meets}
use Rattle.xns_calls.proofs.Unbegun.{Met, waits_still}

-- ---- a line

module _ (programs : Programs) where
  line_meets : IsPlain → (n m : ℕ) (b : Bool) (k : Known) → IsNumbered k.connections k.count → AllKeep m b k.connections None → (line : List ℕ)
      → Met (line_origin programs n) m b k.text (after_line programs n line k) (events_at (flow_at m b) (line_origin programs n) (arrival line) k) (field_at (flow_at m b) (arrival line) k)
  line_meets plain_places n m b k numbered all line =
      line_is programs (λ k' o. Met (line_origin programs n) m b k.text k' (events_at (flow_at m b) (line_origin programs n) o k) (field_at (flow_at m b) o k)) n k
      (λ part quiet.
      inl (record { none = all; nothing = refl; later = refl; parts = part ∷ []; text = ap (λ z. k.text ++ z) (sym (append-nil (part_text part))); own = ap (λ z. z ++ []) (quiet (flow_at m b)) }))
      (inl (waits_still m b k [] None all refl refl))
      (λ x. sequenced_meets plain_places (line_origin programs n) m b x.0 x.1 x.2 k numbered all)
      line

-- ---- all lines

there_front : (p : FlowName) (a : Arrival) (o : Option Connection) (k : Known) → field_there p a o (record k { text = [] }) ≡ field_there p a o k
there_front p a None k = refl
there_front p a (Some c) k = refl

field_front : (p : FlowName) (o : Option Arrival) (k : Known) → field_at p o (record k { text = [] }) ≡ field_at p o k
field_front p None k = refl
field_front p (Some a) k = there_front p a (connection_of a.0 a.1 k.connections) k

front_meets : (p : FlowName) (n : Origin) (o : Option Arrival) (k k' : Known) → Met n p.connection p.is_behind [] k' (events_at p n o (record k { text = [] })) (field_at p o (record k { text = [] }))
    → Met n p.connection p.is_behind [] k' (events_at p n o k) (field_at p o k)
front_meets p n o k k' met =
    subst (λ x. Met n p.connection p.is_behind [] k' (events_at p n o k) x) (field_front p o k)
    (subst (λ x. Met n p.connection p.is_behind [] k' x (field_at p o (record k { text = [] }))) (events_front p n o k) met)

pub record Began (at_line : ℕ → Heading) (from behind m : ℕ) (b : Bool) (text : List ℕ) (k : Known) (happened : List Event) (first : ℕ) : Type 0 where
  pub start : Told
  pub track : start.track ≡ first_track first
  pub events : List Event
  pub are : Fits happened (plain events)
  pub at : AreBetween at_line from behind events
  pub stands : IsOn m b k (after_events events start)
  pub heading : Heading
  pub packet : PacketModel
  pub header : Header
  pub parts : List Part
  pub is : text ≡ parts_text parts
  pub own : texts_in (flow_at m b) parts ≡ flow_line heading packet header ++ flow_text events start

module _ (programs : Programs) where
  pub lines_awaited : IsPlain → (n m : ℕ) (b : Bool) (k : Known) → IsNumbered k.connections k.count → AllKeep m b k.connections None → (lines : List (List ℕ)) → first_field_from programs (flow_at m b) n k lines ≡ None
      → AllKeep m b (known_from programs n k lines).connections None
  lines_awaited plain_places n m b k numbered none [] e = none
  lines_awaited plain_places n m b k numbered none (line ∷ lines) e =
      by_meeting (front_meets (flow_at m b) (line_origin programs n) (arrival line) k (line_taken programs n line k) (line_meets programs plain_places n m b (record k { text = [] }) numbered none line)) (λ quiet is. lines_awaited plain_places (n + 1) m b (line_taken programs n line k) (numbered_line programs n k line numbered) quiet lines is)
    where
      next : Known
      next = line_taken programs n line k

      later : Option ℕ
      later = first_field_from programs (flow_at m b) (n + 1) next lines

      by_meeting : Met (line_origin programs n) m b [] next (events_at (flow_at m b) (line_origin programs n) (arrival line) k) (field_at (flow_at m b) (arrival line) k)
          → (AllKeep m b next.connections None → later ≡ None → AllKeep m b (known_from programs (n + 1) next lines).connections None)
          → AllKeep m b (known_from programs (n + 1) next lines).connections None
      by_meeting (inl w) more = more w.none (sym (ap (λ o. or_later o later) w.later) ∙ e)
      by_meeting (inr w) more = absurd (let wrong : Some w.first ≡ None = sym (ap (λ o. or_later o later) w.has) ∙ e in (cc))

  pub lines_met : IsPlain → (n m : ℕ) (b : Bool) (k : Known) → IsNumbered k.connections k.count → AllKeep m b k.connections None → (lines : List (List ℕ)) (first : ℕ) → first_field_from programs (flow_at m b) n k lines ≡ Some first
      → Began (line_heading programs m b) n (n + length lines) m b (text_from programs n k lines) (known_from programs n k lines) (events_from programs (flow_at m b) n k lines) first
  lines_met plain_places n m b k numbered none [] first e = (cc)
  lines_met plain_places n m b k numbered none (line ∷ lines) first e =
      by_meeting (front_meets (flow_at m b) (line_origin programs n) (arrival line) k (line_taken programs n line k) (line_meets programs plain_places n m b (record k { text = [] }) numbered none line)) (λ quiet is. lines_met plain_places (n + 1) m b (line_taken programs n line k) (numbered_line programs n k line numbered) quiet lines first is)
    where
      P : FlowName
      P = flow_at m b

      next : Known
      next = line_taken programs n line k

      later : Option ℕ
      later = first_field_from programs P (n + 1) next lines

      here : List Event
      here = events_at P (line_origin programs n) (arrival line) k

      rest : List Event
      rest = events_from programs P (n + 1) next lines

      after : List ℕ
      after = text_from programs (n + 1) next lines

      by_meeting : Met (line_origin programs n) m b [] next here (field_at P (arrival line) k) → (AllKeep m b next.connections None → later ≡ Some first → Began (line_heading programs m b) (n + 1) ((n + 1) + length lines) m b after (known_from programs (n + 1) next lines) rest first)
          → Began (line_heading programs m b) n (n + length (line ∷ lines)) m b (next.text ++ after) (known_from programs (n + 1) next lines) (here ++ rest) first
      by_meeting (inl w) more =
          let v = more w.none (sym (ap (λ o. or_later o later) w.later) ∙ e) in record {
            start = v.start;
            track = v.track;
            events = v.events;
            are = subst (λ es. Fits es (plain v.events)) (sym (ap (λ z. z ++ rest) w.nothing)) v.are;
            at = line_between (line_heading programs m b) n lines line [] v.events tt v.at;
            stands = v.stands;
            heading = v.heading;
            packet = v.packet;
            header = v.header;
            parts = w.parts ++ v.parts;
            is = ap (λ z. z ++ after) w.text ∙ ap (λ z. parts_text w.parts ++ z) v.is ∙ sym (flat_map-append part_text w.parts v.parts);
            own = flat_map-append (text_in P) w.parts v.parts ∙ ap (λ z. z ++ texts_in P v.parts) w.own ∙ v.own;
          }
      by_meeting (inr w) more =
          let some : Some w.first ≡ Some first = sym (ap (λ o. or_later o later) w.has) ∙ e in
          let same : w.first ≡ first = (cc) in
          let v = lines_ran programs plain_places (n + 1) m b next (after_events w.events w.start) (numbered_line programs n k line numbered) w.stands lines in
          let line_text = flow_line w.heading w.packet w.header in record {
            start = w.start;
            track = w.track ∙ ap first_track same;
            events = w.events ++ v.events;
            are = fits_on here rest w.events v.events w.are v.are;
            at = line_between (line_heading programs m b) n lines line w.events v.events w.at v.at;
            stands = subst (IsOn m b (known_from programs (n + 1) next lines)) (sym (after_append w.events v.events w.start)) v.stands;
            heading = w.heading;
            packet = w.packet;
            header = w.header;
            parts = w.parts ++ v.parts;
            is = ap (λ z. z ++ after) w.text ∙ ap (λ z. parts_text w.parts ++ z) v.is ∙ sym (flat_map-append part_text w.parts v.parts);
            own = joined_own P w.parts v.parts line_text w.events v.events w.start w.own v.own;
          }
