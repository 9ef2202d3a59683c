-- Lines that spell packets say what the packets say.
use Rattle.std.proofs.Common.{◌≡◌, ◌∙◌, ap, ap₂, sym, inl, inr, ℕ, ◌+◌, ◌||◌, ◌&&◌, cond, refl, false, is_ok, List, [], ◌∷◌, ◌++◌, append-nil, Result, Ok, Err}
use Rattle.std.proofs.lemmas.Bool.{true≢false}
use Rattle.std.specs.List.{list_any}
use Rattle.std.specs.Option.{option_to_list}
use Rattle.hex.specs.Hex.{decode_of}
use Rattle.hex.specs.declared.error.FromHexError.{FromHexError}
use Rattle.xns_captures.specs.Captures.{NumberedPacket}
use Rattle.xns_dump.specs.Dump.{items_of_line, text_from}
use Rattle.xns_dump.specs.Dump.Capture.{is_packet_refused, items_of_packet, packets_text_from}
use Rattle.xns_dump.specs.Dump.Line.{bytes_or_fault, digits_of, is_refused, is_said_refused, said_by, said_by_bytes, said_item, said_text, text_of_line}
use Rattle.xns_dump.specs.Flows.{DataPacket, item_number}
use Rattle.xns_dump.specs.Spelled.{AreHex, IsNoHex, SpellFrom, hex_text_from, is_hex}

-- a line says what the bytes say that it spells
said_same : (line bytes : List ℕ) → decode_of (digits_of line) ≡ Ok bytes → said_by line ≡ said_by_bytes bytes
unfolding said_by
said_same line bytes e = ap bytes_or_fault e

-- what is no hex spells no data packet
none_said : (r : Result (List ℕ) FromHexError) → is_ok r ≡ false → option_to_list (said_item (bytes_or_fault r)) ≡ []
none_said (Ok bytes) e = absurd (true≢false e)
none_said (Err error) e = refl

no_item : (line : List ℕ) → IsNoHex line → items_of_line line ≡ []
unfolding said_by
no_item line e = none_said (decode_of (digits_of line)) e

-- lines and packets with the same bytes have the same text
pub same_text : (n : ℕ) (earlier : List DataPacket) (lines : List (List ℕ)) (packets : List NumberedPacket) → SpellFrom IsNoHex n lines packets
    → packets_text_from earlier packets ≡ hex_text_from n earlier lines
same_text n earlier [] [] h = refl
same_text n earlier [] (packet ∷ packets) h = absurd h
same_text n earlier (line ∷ lines) [] h = absurd h
same_text n earlier (line ∷ lines) (packet ∷ packets) (inl h) =
    let said = said_same line packet.1 h.0.1 in
    rw (h.0.0, said, h.0.1) (ap (λ rest. said_text n (item_number earlier) (said_by_bytes packet.1) ++ rest)
    (same_text (n + 1) (earlier ++ items_of_packet packet) lines packets h.1))
same_text n earlier (line ∷ lines) (packet ∷ packets) (inr h) =
    same_text (n + 1) earlier lines (packet ∷ packets) h.1
    ∙ ap (λ items. hex_text_from (n + 1) items lines) (sym (ap (λ items. earlier ++ items) (no_item line h.0) ∙ append-nil earlier))
    ∙ ap (λ b. cond b (text_of_line n (item_number earlier) line) [] ++ hex_text_from (n + 1) (earlier ++ items_of_line line) lines) (sym h.0)

pub same_refused : (n : ℕ) (lines : List (List ℕ)) (packets : List NumberedPacket) → SpellFrom IsNoHex n lines packets
    → list_any is_packet_refused packets ≡ list_any (λ line. is_hex line && is_refused line) lines
same_refused n [] [] h = refl
same_refused n [] (packet ∷ packets) h = absurd h
same_refused n (line ∷ lines) [] h = absurd h
same_refused n (line ∷ lines) (packet ∷ packets) (inl h) =
    rw (said_same line packet.1 h.0.1, h.0.1)
    (ap (λ rest. is_said_refused (said_by_bytes packet.1) || rest) (same_refused (n + 1) lines packets h.1))
same_refused n (line ∷ lines) (packet ∷ packets) (inr h) =
    same_refused (n + 1) lines (packet ∷ packets) h.1
    ∙ ap (λ b. (b && is_refused line) || list_any (λ line. is_hex line && is_refused line) lines) (sym h.0)

-- where each line is hex, nothing is left out
pub all_text : (n : ℕ) (earlier : List DataPacket) (lines : List (List ℕ)) → AreHex lines → hex_text_from n earlier lines ≡ text_from n earlier lines
all_text n earlier [] h = refl
all_text n earlier (line ∷ lines) h =
    ap₂ (λ b rest. cond b (text_of_line n (item_number earlier) line) [] ++ rest) h.0 (all_text (n + 1) (earlier ++ items_of_line line) lines h.1)

pub all_refused : (lines : List (List ℕ)) → AreHex lines → list_any (λ line. is_hex line && is_refused line) lines ≡ list_any is_refused lines
all_refused [] h = refl
all_refused (line ∷ lines) h = ap₂ (λ b rest. (b && is_refused line) || rest) h.0 (all_refused lines h.1)
