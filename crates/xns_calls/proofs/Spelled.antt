-- Lines that spell packets say what the packets say.
use Rattle.std.proofs.Common.{◌≡◌, ◌∙◌, ap, ap₂, sym, inl, inr, ◌⊎◌, ℕ, zero, suc, ◌+◌, ◌==◌, arith, cond, refl, true, List, [], ◌∷◌, ◌++◌, length, Result, Ok, Err}
use Rattle.std.proofs.lemmas.Bool.{false≢true, not-true}
use Rattle.hex.specs.Hex.{decode_of}
use Rattle.hex.specs.declared.error.FromHexError.{FromHexError}
use Rattle.xns_idp.specs.Packet.{PacketModel}
use Rattle.xns_idp.specs.Reading.{packet_of}
use Rattle.xns_idp.specs.declared.fault.IdpFault.{IdpFault}
use Rattle.xns_spp.specs.Header.{header_of}
use Rattle.xns_captures.specs.Captures.{NumberedPacket}
use Rattle.xns_dump.specs.Dump.Line.{digits_of}
use Rattle.xns_dump.specs.Spelled.{SpellFrom}
use Rattle.xns_calls.specs.Naming.{Programs}
use Rattle.xns_calls.specs.Calls.{end_count, has_refused, known_from, known_of, known_with_end, line_taken, nothing_known, text_from, text_with_end, after_body, after_bytes, after_digits, after_found, after_header, after_line}
use Rattle.xns_calls.specs.Capture.{Known, after_end}
use Rattle.xns_calls.specs.Files.{known_behind, last_after, last_frame, packet_end_count, packet_taken, packets_known, packets_known_with_end, packets_refused, packets_text_with_end, text_behind}
use Rattle.xns_calls.specs.Laws.{IsPassedOver, are_of_other_type, is_of_other_type}
use Rattle.xns_calls.specs.Origins.{line_origin}
use Rattle.xns_calls.specs.declared.origin.Origin.{Origin}
use Rattle.xns_calls.specs.declared.times.Times.TheVariants.{Hidden}

module _ (programs : Programs) where
  -- a line does what the packet does that it spells
  taken_same : (n : ℕ) (line : List ℕ) (packet : NumberedPacket) (k : Known) → packet.0.number ≡ n → decode_of (digits_of line) ≡ Ok packet.1 → packet_taken programs Hidden packet k ≡ line_taken programs n line k
  unfolding after_line
  taken_same n line packet k number e = rw (number, e) refl

  -- a line that spells a packet of another type changes nothing
  found_silent : (n : Origin) (r : Result (PacketModel × ℕ) IdpFault) (k : Known) → is_of_other_type r ≡ true → after_found n r k ≡ k
  unfolding after_body
  found_silent n (Ok found) k e = ap (λ b. cond b (after_header n found.0 (header_of found.0.body) k) k) (not-true (found.0.kind == 5) e)
  found_silent n (Err fault) k e = absurd (false≢true e)

  digits_silent : (n : ℕ) (r : Result (List ℕ) FromHexError) (k : Known) → are_of_other_type r ≡ true → after_digits programs n r k ≡ k
  unfolding after_bytes
  digits_silent n (Ok bytes) k e = found_silent (line_origin programs n) (packet_of bytes) k e
  digits_silent n (Err error) k e = absurd (false≢true e)

  taken_silent : (n : ℕ) (line : List ℕ) (k : Known) → IsPassedOver line → line_taken programs n line k ≡ record k { text = [] }
  unfolding after_line
  taken_silent n line k e = digits_silent n (decode_of (digits_of line)) (record k { text = [] }) e

  -- behind lines and the packets that they spell the same is known, and their text is the same
  same_behind : (n : ℕ) (k : Known) (lines : List (List ℕ)) (packets : List NumberedPacket) → SpellFrom IsPassedOver n lines packets
      → (known_behind programs Hidden k packets ≡ known_from programs n k lines) × (text_behind programs Hidden k packets ≡ text_from programs n k lines)
  same_behind n k [] [] h = (refl, refl)
  same_behind n k [] (packet ∷ packets) h = absurd h
  same_behind n k (line ∷ lines) [] h = absurd h
  same_behind n k (line ∷ lines) (packet ∷ packets) (inl h) =
      let taken = taken_same n line packet k h.0.0 h.0.1 in
      let rest = same_behind (n + 1) (line_taken programs n line k) lines packets h.1 in (
        ap (λ known. known_behind programs Hidden known packets) taken ∙ rest.0,
        ap (λ (known : Known). known.text ++ text_behind programs Hidden known packets) taken ∙ ap (λ text. (line_taken programs n line k).text ++ text) rest.1,
      )
  same_behind n k (line ∷ lines) (packet ∷ packets) (inr h) =
      let silent = sym (taken_silent n line k h.0) in
      let rest = same_behind (n + 1) (record k { text = [] }) lines (packet ∷ packets) h.1 in (
        rest.0 ∙ ap (λ known. known_from programs (n + 1) known lines) silent,
        rest.1 ∙ ap (λ (known : Known). known.text ++ text_from programs (n + 1) known lines) silent,
      )

  -- the last packet has the number of the last line
  last_same : (n : ℕ) (lines : List (List ℕ)) (packets : List NumberedPacket) → SpellFrom IsPassedOver (n + 1) lines packets
      → last_after programs Hidden (line_origin programs n) packets ≡ line_origin programs (n + length lines)
  last_same n [] [] h = ap (line_origin programs) (let e : n ≡ n + 0 = omega arith in e)
  last_same n [] (packet ∷ packets) h = absurd h
  last_same n (line ∷ lines) [] h = absurd h
  last_same n (line ∷ lines) (packet ∷ packets) (inl h) =
      ap (λ m. last_after programs Hidden (line_origin programs m) packets) h.0.0 ∙ last_same (n + 1) lines packets h.1
      ∙ ap (line_origin programs) (let e : (n + 1) + length lines ≡ n + length (line ∷ lines) = omega arith in e)
  last_same n (line ∷ lines) (packet ∷ packets) (inr h) =
      last_same (n + 1) lines (packet ∷ packets) h.1
      ∙ ap (line_origin programs) (let e : (n + 1) + length lines ≡ n + length (line ∷ lines) = omega arith in e)

  module _ (lines : List (List ℕ)) (packets : List NumberedPacket) (h : SpellFrom IsPassedOver 1 lines packets) where
    known_all : packets_known programs Hidden packets ≡ known_of programs lines
    known_all = (same_behind 1 nothing_known lines packets h).0

    last_all : last_frame programs Hidden packets ≡ line_origin programs (length lines)
    last_all = last_same 0 lines packets h ∙ ap (line_origin programs) (let e : 0 + length lines ≡ length lines = omega arith in e)

    known_end : (part : ℕ) → packets_known_with_end programs Hidden packets part ≡ known_with_end programs lines part
    known_end zero = known_all
    known_end (suc part) =
        ap₂ (λ n (k : Known). after_end n part (record k { text = [] })) last_all (known_end part)

    text_end : (part : ℕ) → packets_text_with_end programs Hidden packets part ≡ text_with_end programs lines part
    text_end zero = (same_behind 1 nothing_known lines packets h).1
    text_end (suc part) = ap₂ (λ text (k : Known). text ++ k.text) (text_end part) (known_end (suc part))

    ends : packet_end_count programs Hidden packets ≡ end_count programs lines
    ends = ap (λ (k : Known). length k.connections) known_all

    pub same_text : packets_text_with_end programs Hidden packets (packet_end_count programs Hidden packets) ≡ text_with_end programs lines (end_count programs lines)
    same_text = ap (packets_text_with_end programs Hidden packets) ends ∙ text_end (end_count programs lines)

    pub same_refused : packets_refused programs Hidden packets (packet_end_count programs Hidden packets) ≡ has_refused programs lines (end_count programs lines)
    same_refused = ap (packets_refused programs Hidden packets) ends ∙ ap (λ (k : Known). k.is_refused) (known_end (end_count programs lines))
