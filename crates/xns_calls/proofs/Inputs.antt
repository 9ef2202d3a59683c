-- A flow of a whole input is told by its events.
use Rattle.std.proofs.Common.{◌≡◌, ◌∙◌, ap, sym, refl, subst, inl, inr, ℕ, ◌+◌, ◌==◌, Bool, List, [], ◌∷◌, ◌++◌, length, append-nil, Option, Some, None, Result, Ok, Err}
use Rattle.std.proofs.lemmas.Grind.{flat_map-append}
use Rattle.hex.specs.Hex.{decode_of}
use Rattle.hex.specs.declared.error.FromHexError.{FromHexError}
use Rattle.xns_idp.specs.Packet.{PacketModel}
use Rattle.xns_idp.specs.Reading.{packet_of}
use Rattle.xns_idp.specs.declared.fault.IdpFault.{IdpFault}
use Rattle.xns_spp.specs.Header.{header_of}
use Rattle.xns_spp.specs.declared.header.Header.{Header}
use Rattle.xns_spp.specs.declared.spp_fault.SppFault.{SppFault}
use Rattle.xns_dump.specs.Dump.Line.{digits_of}
use Rattle.xns_calls.specs.Naming.{Programs}
use Rattle.xns_calls.specs.Calls.{after_body, after_bytes, after_digits, after_found, after_header, after_line, known_from, line_taken, refuse, text_from}
use Rattle.xns_calls.specs.Capture.{Known, after_sequenced, heading_at}
use Rattle.xns_calls.specs.Events.{Event, after_events, meanwhile, with_others}
use Rattle.xns_calls.specs.Input.{Arrival, FlowName, Part, arrival, bad_header, bad_hex, bad_packet, connection_of, events_at, events_from, events_there, in_bytes, in_packet, part_text, parts_text, text_in, texts_in, arrival_with_header}
use Rattle.xns_calls.specs.Reading.{Told}
use Rattle.xns_calls.specs.Whole.{flow_text}
use Rattle.xns_calls.specs.declared.connection.Connection.{Connection}
use Rattle.xns_calls.specs.declared.heading.Heading.{Heading}
use Rattle.xns_calls.proofs.Numbered.{IsNumbered, Stays, numbered_stays, sequenced_holds}
use Rattle.xns_calls.specs.declared.origin.Origin.{Origin}
use Rattle.xns_calls.specs.Origins.{line_origin}
use Rattle.xns_calls.proofs.AtLines.{AreBetween, line_between, line_heading}
use Rattle.xns_calls.proofs.Comparing.{by_both}
use Rattle.xns_calls.proofs.Whole.{after_append}
use Rattle.xns_calls.proofs.Parts.{flow_append, flow_at, plain}
use Rattle.xns_calls.proofs.Fits.{Fits, fits, fits_on}
use Rattle.xns_calls.proofs.Begun.{IsOn, Stepped, nothing_step, stays_gone, still, unchanged}
use Rattle.xns_calls.proofs.Renewals.{IsPlain, sequenced_step}

-- ---- a line

module _ (programs : Programs) where
  -- a line is refused, or does nothing, or brings a packet
  pub line_is : (P : Known → Option Arrival → Type 0) (n : ℕ) (k : Known) → ((part : Part) → ((p : FlowName) → text_in p part ≡ []) → P (refuse (part_text part) k) None) → P k None
      → ((a : Arrival) → P (after_sequenced (line_origin programs n) a.0 a.1 a.2 k) (Some a)) → (line : List ℕ) → P (after_line programs n line k) (arrival line)
  unfolding after_line after_bytes after_body arrival
  line_is P n k bad same takes line = by_digits (decode_of (digits_of line))
    where
      by_header : (packet : PacketModel) (r : Result (Header × List ℕ) SppFault) → P (after_header (line_origin programs n) packet r k) (arrival_with_header packet r)
      by_header packet (Ok found) = by_both P (found.0.target_id == 0) k (after_sequenced (line_origin programs n) packet found.0 found.1 k) None (Some (packet, found.0, found.1)) (λ e. same) (λ e. takes (packet, found.0, found.1))
      by_header packet (Err fault) = bad (bad_header (line_origin programs n) fault) (λ p. refl)

      by_packet : (r : Result (PacketModel × ℕ) IdpFault) → P (after_found (line_origin programs n) r k) (in_packet r)
      by_packet (Ok found) =
          by_both P (found.0.kind == 5) (after_header (line_origin programs n) found.0 (header_of found.0.body) k) k (arrival_with_header found.0 (header_of found.0.body)) None (λ e. by_header found.0 (header_of found.0.body)) (λ e. same)
      by_packet (Err fault) = bad (bad_packet (line_origin programs n) fault) (λ p. refl)

      by_digits : (r : Result (List ℕ) FromHexError) → P (after_digits programs n r k) (in_bytes r)
      by_digits (Ok bytes) = by_packet (packet_of bytes)
      by_digits (Err error) = bad (bad_hex n error) (λ p. refl)

  refused_step : (n : Origin) (m : ℕ) (b : Bool) (k : Known) (t : Told) (part : Part) → text_in (flow_at m b) part ≡ [] → IsOn m b k t → Stepped n m b k (refuse (part_text part) k) t []
  refused_step n m b k t part none (inl a) =
      unchanged n m b k (refuse (part_text part) k) t (part ∷ []) (ap (λ z. k.text ++ z) (sym (append-nil (part_text part)))) (ap (λ z. z ++ []) none) a refl
  refused_step n m b k t part none (inr gone) =
      stays_gone n m b k (refuse (part_text part) k) t (part ∷ []) (ap (λ z. k.text ++ z) (sym (append-nil (part_text part)))) (ap (λ z. z ++ []) none) (record { counted = gone.counted; none = gone.none; empty = gone.empty })

  line_step : IsPlain → (n m : ℕ) (b : Bool) (k : Known) (t : Told) → IsNumbered k.connections k.count → IsOn m b k t → (line : List ℕ) → Stepped (line_origin programs n) m b k (after_line programs n line k) t (events_at (flow_at m b) (line_origin programs n) (arrival line) k)
  line_step plain n m b k t numbered on line =
      line_is (λ k' o. Stepped (line_origin programs n) m b k k' t (events_at (flow_at m b) (line_origin programs n) o k)) n k
      (λ part none. refused_step (line_origin programs n) m b k t part (none (flow_at m b)) on)
      (nothing_step (line_origin programs n) m b k t on)
      (λ x. sequenced_step plain (line_origin programs n) m b x.0 x.1 x.2 k t numbered on)
      line

  -- what holds with each packet holds with each line
  line_holds : (P : List Connection → ℕ → Type 0) (stays : Stays P) (n : ℕ) (k : Known) (line : List ℕ) → P k.connections k.count → P (line_taken programs n line k).connections (line_taken programs n line k).count
  line_holds P stays n k line w =
      line_is (λ k' o. P k'.connections k'.count) n (record k { text = [] }) (λ part none. w) w
      (λ x. sequenced_holds P stays (line_origin programs n) x.0 x.1 x.2 (record k { text = [] }) w)
      line

  pub lines_hold : (P : List Connection → ℕ → Type 0) (stays : Stays P) (n : ℕ) (k : Known) (lines : List (List ℕ)) → P k.connections k.count
      → P (known_from programs n k lines).connections (known_from programs n k lines).count
  lines_hold P stays n k [] w = w
  lines_hold P stays n k (line ∷ lines) w = lines_hold P stays (n + 1) (line_taken programs n line k) lines (line_holds P stays n k line w)

  -- each line leaves each connection a number of its own
  pub numbered_line : (n : ℕ) (k : Known) (line : List ℕ) → IsNumbered k.connections k.count → IsNumbered (line_taken programs n line k).connections (line_taken programs n line k).count
  numbered_line n k line numbered = line_holds IsNumbered numbered_stays n k line numbered

  -- the connections of all lines
  pub numbered_from : (n : ℕ) (k : Known) (lines : List (List ℕ)) → IsNumbered k.connections k.count → IsNumbered (known_from programs n k lines).connections (known_from programs n k lines).count
  numbered_from n k lines numbered = lines_hold IsNumbered numbered_stays n k lines numbered

-- ---- all lines, once the flow has begun

pub record Ran (at_line : ℕ → Heading) (first behind m : ℕ) (b : Bool) (text : List ℕ) (k' : Known) (t : Told) (happened : List Event) : Type 0 where
  pub events : List Event
  pub are : Fits happened (plain events)
  pub at : AreBetween at_line first behind events
  pub stands : IsOn m b k' (after_events events t)
  pub parts : List Part
  pub is : text ≡ parts_text parts
  pub own : texts_in (flow_at m b) parts ≡ flow_text events t

-- the text before is nothing to what happens
there_front : (p : FlowName) (h : Heading) (a : Arrival) (o : Option Connection) (k : Known) → events_there p h a o (record k { text = [] }) ≡ events_there p h a o k
there_front p h a None k = refl
there_front p h a (Some c) k = refl

pub events_front : (p : FlowName) (n : Origin) (o : Option Arrival) (k : Known) → events_at p n o (record k { text = [] }) ≡ events_at p n o k
events_front p n None k = refl
events_front p n (Some a) k = there_front p (heading_at n p.connection p.is_behind) a (connection_of a.0 a.1 k.connections) k

pub from_front : (m : ℕ) (b : Bool) (k : Known) (t : Told) → IsOn m b k t → IsOn m b (record k { text = [] }) (with_others t.calls [] k.is_refused t)
from_front m b k t (inl a) = inl (still m b k (record k { text = [] }) t a refl)
from_front m b k t (inr gone) = inr (record { counted = gone.counted; none = gone.none; empty = gone.empty })

module _ (programs : Programs) where
  pub lines_ran : IsPlain → (n m : ℕ) (b : Bool) (k : Known) (t : Told) → IsNumbered k.connections k.count → IsOn m b k t → (lines : List (List ℕ)) → Ran (line_heading programs m b) n (n + length lines) m b (text_from programs n k lines) (known_from programs n k lines) t (events_from programs (flow_at m b) n k lines)
  lines_ran plain_places n m b k t numbered on [] = record { events = []; are = fits [] [] refl; at = tt; stands = on; parts = []; is = refl; own = refl }
  lines_ran plain_places n m b k t numbered on (line ∷ lines) =
      let start : Known = record k { text = [] } in
      let u : Told = with_others t.calls [] k.is_refused t in
      let w = line_step programs plain_places n m b start u numbered (from_front m b k t on) line in
      let next = line_taken programs n line k in
      let v = lines_ran plain_places (n + 1) m b next (after_events w.events u) (numbered_line programs n k line numbered) w.stands lines in
      let P = flow_at m b in record {
        events = meanwhile t.calls [] k.is_refused ∷ (w.events ++ v.events);
        are = fits_on (events_at P (line_origin programs n) (arrival line) k) (events_from programs P (n + 1) next lines) w.events v.events
            (subst (λ es. Fits es (plain w.events)) (events_front P (line_origin programs n) (arrival line) k) w.are) v.are;
        at = line_between (line_heading programs m b) n lines line w.events v.events w.at v.at;
        stands = subst (IsOn m b (known_from programs (n + 1) next lines)) (sym (after_append w.events v.events u)) v.stands;
        parts = w.parts ++ v.parts;
        is = ap (λ z. z ++ text_from programs (n + 1) next lines) w.text ∙ ap (λ z. parts_text w.parts ++ z) v.is ∙ sym (flat_map-append part_text w.parts v.parts);
        own = flat_map-append (text_in P) w.parts v.parts ∙ ap (λ z. z ++ texts_in P v.parts) w.own ∙ ap (λ z. flow_text w.events u ++ z) v.own ∙ sym (flow_append w.events v.events u);
      }
