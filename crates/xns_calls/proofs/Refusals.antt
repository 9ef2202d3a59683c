-- The flag is set exactly where the whole text has the word `refused`.
use Rattle.std.proofs.Common.{◌≡◌, refl, ℕ, zero, suc, length, ◌+◌, ◌==◌, Bool, true, false, List, [], ◌∷◌, Option, Some, None, Result, Ok, Err}
use Rattle.std.specs.Prelude.{slice_get}
use Rattle.hex.specs.Hex.{decode_of}
use Rattle.hex.specs.declared.error.FromHexError.{FromHexError}
use Rattle.xns_idp.specs.Packet.{PacketModel}
use Rattle.xns_idp.specs.Reading.{packet_of}
use Rattle.xns_idp.specs.declared.fault.IdpFault.{IdpFault}
use Rattle.xns_spp.specs.Header.{header_of, is_system}
use Rattle.xns_spp.specs.declared.header.Header.{Header}
use Rattle.xns_spp.specs.declared.spp_fault.SppFault.{SppFault}
use Rattle.xns_lines.specs.Lines.{lines_of}
use Rattle.xns_dump.specs.Dump.Line.{digits_of}
use Rattle.xns_dump.specs.Flows.{flow_of}
use Rattle.xns_dump.specs.Laws.{JoinedTextsSayRefused, OnlyRefusalsSayRefused, says_refused}
use Rattle.xns_captures.specs.Captures.{NumberedPacket, packets_of}
use Rattle.xns_calls.specs.Calls.{after_body, after_bytes, after_digits, after_found, after_header, after_line, calls_text, end_count, has_refusal, has_refused, known_from, known_with_end, line_taken, nothing_known, text_from, text_with_end}
use Rattle.xns_calls.specs.Anew.{begins_anew}
use Rattle.xns_calls.specs.Capture.{Known, after_at, after_end, after_in, after_place, after_sequenced, after_there, ended_there, forgotten, heading_at, is_behind_in, place_of, renewed, renewed_there, repeats_told, scene_in, settled_at, settled_there, taken_in, with_new}
use Rattle.xns_calls.specs.Repeats.{tells_repeats}
use Rattle.xns_calls.specs.declared.connection.Connection.{Connection}
use Rattle.xns_dump.specs.declared.flows.flow.Flow.{Flow}
use Rattle.xns_calls.specs.Acknowledged.{due_in, given_in}
use Rattle.xns_calls.specs.declared.origin.Origin.{Origin}
use Rattle.xns_calls.specs.Origins.{frame_origin, line_origin}
use Rattle.xns_calls.specs.Files.{calls_capture_text, has_file_refusal, known_behind, last_after, last_frame, packet_end_count, packet_taken, packets_known_with_end, packets_refused, packets_text_with_end, text_behind}
use Rattle.xns_calls.specs.declared.times.Times.{Times}
use Rattle.xns_calls.proofs.Flagged.{Says, both_say, none_said, packet_says, says_it, says_loud, says_on, says_quiet, settled_says}
use Rattle.xns_calls.proofs.Quiet.{cases, repeats_are, time_is}

abbrev SaysKnown : Bool → Known → Type 0
SaysKnown b k = Says b k.text k.is_refused

module _ (joined : JoinedTextsSayRefused) (only : OnlyRefusalsSayRefused) where
  -- ---- a line

  at_settled : (b : Bool) (n : Origin) (plain : n.programs ≡ None) (i : ℕ) (q : Bool) (k : Known) → SaysKnown b k → SaysKnown b (settled_at n i q k)
  unfolding settled_at
  at_settled b n plain i q k s = by_connection q (slice_get k.connections i)
    where
      by_connection : (q : Bool) (o : Option Connection) → SaysKnown b (settled_there n i q o k)
      by_connection q None = s
      by_connection true (Some c) = settled_says joined only b (heading_at n c.number true) plain (given_in true c) (scene_in true c k) s
      by_connection false (Some c) = settled_says joined only b (heading_at n c.number false) plain (given_in false c) (scene_in false c k) s

  there_says : (b : Bool) (n : Origin) (plain : n.programs ≡ None) (i : ℕ) (flow : Flow) (p : PacketModel) (f : Header) (content : List ℕ) (o : Option Connection) (k : Known) → SaysKnown b k → SaysKnown b (after_there n i flow p f content o k)
  there_says b n plain i flow p f content None k s = s
  there_says b n plain i flow p f content (Some c) k s = in_says (is_behind_in flow c)
    where
      told : Bool → Known
      told q = repeats_told n q f c k

      told_says : (q : Bool) → SaysKnown b (told q)
      told_says q = says_quiet joined only b k.text _ k.is_refused s (repeats_are joined only (heading_at n c.number q) (tells_repeats q f c))

      in_says : (q : Bool) → SaysKnown b (after_in n i q p f content c k)
      in_says true =
          at_settled b n plain i true (taken_in n i true p f content c (told true))
          (packet_says joined only b (heading_at n c.number true) plain (due_in true f c) p f content (scene_in true c (told true)) (told_says true))
      in_says false =
          at_settled b n plain i false (taken_in n i false p f content c (told false))
          (packet_says joined only b (heading_at n c.number false) plain (due_in false f c) p f content (scene_in false c (told false)) (told_says false))

  at_says : (b : Bool) (n : Origin) (plain : n.programs ≡ None) (i : ℕ) (flow : Flow) (p : PacketModel) (f : Header) (content : List ℕ) (k : Known) → SaysKnown b k → SaysKnown b (after_at n i flow p f content k)
  unfolding after_at
  at_says b n plain i flow p f content k s = there_says b n plain i flow p f content (slice_get k.connections i) k s

  renewed_says : (b : Bool) (n : Origin) (plain : n.programs ≡ None) (i : ℕ) (flow : Flow) (f : Header) (k : Known) → SaysKnown b k → SaysKnown b (renewed n i flow f k)
  unfolding renewed
  renewed_says b n plain i flow f k s = by_connection (slice_get k.connections i)
    where
      by_connection : (o : Option Connection) → SaysKnown b (renewed_there n i flow f o k)
      by_connection None = s
      by_connection (Some c) =
          cases (SaysKnown b) (begins_anew f c) (forgotten n i flow c k) k (both_say joined only b (heading_at n c.number false) plain (scene_in false c k) s) s

  place_says : (b : Bool) (n : Origin) (plain : n.programs ≡ None) (flow : Flow) (p : PacketModel) (f : Header) (content : List ℕ) (o : Option ℕ) (k : Known) → SaysKnown b k → SaysKnown b (after_place n flow p f content o k)
  place_says b n plain flow p f content (Some i) k s = at_says b n plain i flow p f content (renewed n i flow f k) (renewed_says b n plain i flow f k s)
  place_says b n plain flow p f content None k s =
      cases (SaysKnown b) (is_system f) k _ s (at_says b n plain _ flow p f content (with_new flow k) s)

  sequenced_says : (b : Bool) (n : Origin) (plain : n.programs ≡ None) (p : PacketModel) (f : Header) (content : List ℕ) (k : Known) → SaysKnown b k → SaysKnown b (after_sequenced n p f content k)
  unfolding after_sequenced
  sequenced_says b n plain p f content k s = place_says b n plain (flow_of p f) p f content (place_of (flow_of p f) k.connections) k s

  header_says : (b : Bool) (n : Origin) (plain : n.programs ≡ None) (p : PacketModel) (r : Result (Header × List ℕ) SppFault) (k : Known) → SaysKnown b k → SaysKnown b (after_header n p r k)
  header_says b n plain p (Ok found) k s = cases (SaysKnown b) (found.0.target_id == 0) k (after_sequenced n p found.0 found.1 k) s (sequenced_says b n plain p found.0 found.1 k s)
  header_says b n plain p (Err fault) k s = says_loud joined only b k.text _ k.is_refused s (joined.loud_behind _ _ (time_is joined only n.time) (only.header n.number fault))

  body_says : (b : Bool) (n : Origin) (plain : n.programs ≡ None) (p : PacketModel) (k : Known) → SaysKnown b k → SaysKnown b (after_body n p k)
  unfolding after_body
  body_says b n plain p k s = cases (SaysKnown b) (p.kind == 5) (after_header n p (header_of p.body) k) k (header_says b n plain p (header_of p.body) k s) s

  found_says : (b : Bool) (n : Origin) (plain : n.programs ≡ None) (r : Result (PacketModel × ℕ) IdpFault) (k : Known) → SaysKnown b k → SaysKnown b (after_found n r k)
  found_says b n plain (Ok found) k s = body_says b n plain found.0 k s
  found_says b n plain (Err fault) k s = says_loud joined only b k.text _ k.is_refused s (joined.loud_behind _ _ (time_is joined only n.time) (only.packet n.number fault))

  bytes_say : (b : Bool) (n : Origin) (plain : n.programs ≡ None) (bytes : List ℕ) (k : Known) → SaysKnown b k → SaysKnown b (after_bytes n bytes k)
  unfolding after_bytes
  bytes_say b n plain bytes k s = found_says b n plain (packet_of bytes) k s

  digits_say : (b : Bool) (n : ℕ) (r : Result (List ℕ) FromHexError) (k : Known) → SaysKnown b k → SaysKnown b (after_digits None n r k)
  digits_say b n (Ok bytes) k s = bytes_say b (line_origin None n) refl bytes k s
  digits_say b n (Err error) k s = says_loud joined only b k.text _ k.is_refused s (only.hex n error)

  line_says : (b : Bool) (n : ℕ) (line : List ℕ) (k : Known) → SaysKnown b k → SaysKnown b (after_line None n line k)
  unfolding after_line
  line_says b n line k s = digits_say b n (decode_of (digits_of line)) k s

  -- ---- the end

  part_end_says : (b : Bool) (n : Origin) (plain : n.programs ≡ None) (part : ℕ) (k : Known) → SaysKnown b k → SaysKnown b (after_end n part k)
  unfolding after_end
  part_end_says b n plain part k s = by_connection (slice_get k.connections part)
    where
      by_connection : (o : Option Connection) → SaysKnown b (ended_there n part o k)
      by_connection None = s
      by_connection (Some c) = both_say joined only b (heading_at n c.number false) plain (scene_in false c k) s

  -- ---- the whole

  lines_say : (n : ℕ) (k : Known) (lines : List (List ℕ)) → Says k.is_refused (text_from None n k lines) (known_from None n k lines).is_refused
  lines_say n k [] = none_said joined only k.is_refused
  lines_say n k (line ∷ lines) = says_on joined only (line_says k.is_refused n line (record k { text = [] }) (none_said joined only k.is_refused)) (lines_say (n + 1) (line_taken None n line k) lines)

  parts_end_say : (lines : List (List ℕ)) (part : ℕ) → Says false (text_with_end None lines part) (has_refused None lines part)
  parts_end_say lines zero = lines_say 1 nothing_known lines
  parts_end_say lines (suc part) =
      let k = known_with_end None lines part in
      says_on joined only (parts_end_say lines part) (part_end_says k.is_refused (line_origin None (length lines)) refl part (record k { text = [] }) (none_said joined only k.is_refused))

  packets_say : (times : Times) (k : Known) (packets : List NumberedPacket) → Says k.is_refused (text_behind None times k packets) (known_behind None times k packets).is_refused
  packets_say times k [] = none_said joined only k.is_refused
  packets_say times k (packet ∷ packets) =
      says_on joined only (bytes_say k.is_refused (frame_origin None times packet.0) refl packet.1 (record k { text = [] }) (none_said joined only k.is_refused)) (packets_say times (packet_taken None times packet k) packets)

  last_plain : (times : Times) (n : Origin) (packets : List NumberedPacket) → n.programs ≡ None → (last_after None times n packets).programs ≡ None
  last_plain times n [] plain = plain
  last_plain times n (packet ∷ packets) plain = last_plain times (frame_origin None times packet.0) packets refl

  file_ends_say : (times : Times) (packets : List NumberedPacket) (part : ℕ) → Says false (packets_text_with_end None times packets part) (packets_refused None times packets part)
  file_ends_say times packets zero = packets_say times nothing_known packets
  file_ends_say times packets (suc part) =
      let k = packets_known_with_end None times packets part in
      says_on joined only (file_ends_say times packets part) (part_end_says k.is_refused (last_frame None times packets) (last_plain times (line_origin None 0) packets refl) part (record k { text = [] }) (none_said joined only k.is_refused))

  pub text_says : (input : List ℕ) → says_refused (calls_text None input) ≡ has_refusal None input
  text_says input = says_it joined only (parts_end_say (lines_of input) (end_count None (lines_of input)))

  pub capture_says : (times : Times) (file : List ℕ) → says_refused (calls_capture_text None times file) ≡ has_file_refusal None times file
  capture_says times file = says_it joined only (file_ends_say times (packets_of file) (packet_end_count None times (packets_of file)))
