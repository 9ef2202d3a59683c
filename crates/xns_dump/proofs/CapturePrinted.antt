-- A packet of a capture more is printed.
use Rattle.std.proofs.Common.{◌≡◌, ◌∙◌, ap, sym, arith, ℕ, ◌+◌, ◌<◌, ◌≤◌, ◌||◌, List, [], ◌∷◌, ◌++◌, length, length-append, append_assoc, append-nil, subst}
use Rattle.std.specs.List.{list_any}
use Rattle.std.specs.BTreeMap.{BTreeMap}
use Rattle.std.proofs.lemmas.Grind.{flat_map-append}
use Rattle.std.proofs.lemmas.List.Folds.{list_any-append}
use Rattle.std.proofs.Math.Bool.{or-false}
use Rattle.xns_captures.specs.Captures.{NumberedPacket}
use Rattle.xns_lines.specs.Printing.{IsBegun, IsPrinted}
use Rattle.xns_captures.specs.Reading.{most_frames}
use Rattle.xns_lines.specs.declared.page.Page.{Page}
use Rattle.xns_dump.specs.Dump.Capture.{is_packet_refused, items_among, items_of_packet, packet_text, packets_text, packets_text_from}
use Rattle.xns_dump.specs.Dump.Line.{said_by_bytes, said_item}
use Rattle.xns_dump.specs.Flows.{DataPacket, item_number}
use Rattle.xns_dump.specs.Flows.Numbers.{NumbersStandFor, numbering}
use Rattle.xns_dump.specs.declared.flows.flow.Flow.{Flow}
use Rattle.xns_dump.proofs.Numbered.{numbering_is}
use Rattle.xns_dump.proofs.Texts.{at_most_one}

items_among-last : (xs : List NumberedPacket) (packet : NumberedPacket) → items_among (xs ++ packet ∷ []) ≡ items_among xs ++ items_of_packet packet
items_among-last xs packet =
    flat_map-append items_of_packet xs (packet ∷ []) ∙ ap (λ t. items_among xs ++ t) (append-nil (items_of_packet packet))

-- a packet is one data packet at most
few_among : (xs : List NumberedPacket) → length (items_among xs) ≤ length xs
few_among [] = omega arith
few_among (x ∷ xs) =
    omega (arith, length-append (items_of_packet x) (items_among xs), at_most_one (said_item (said_by_bytes x.1)), few_among xs)

text_from-last : (earlier : List DataPacket) (xs : List NumberedPacket) (packet : NumberedPacket)
    → packets_text_from earlier (xs ++ packet ∷ []) ≡ packets_text_from earlier xs ++ packet_text (item_number (earlier ++ items_among xs)) packet
text_from-last earlier [] packet =
    append-nil (packet_text (item_number earlier) packet)
    ∙ ap (λ e. packet_text (item_number e) packet) (sym (append-nil earlier))
text_from-last earlier (x ∷ xs) packet =
    let said = packet_text (item_number earlier) x in
    let first = packets_text_from (earlier ++ items_of_packet x) xs in
    ap (λ t. said ++ t) (text_from-last (earlier ++ items_of_packet x) xs packet
    ∙ ap (λ e. first ++ packet_text (item_number e) packet) (append_assoc earlier (items_of_packet x) (items_among xs)))
    ∙ sym (append_assoc said first (packet_text (item_number (earlier ++ items_among (x ∷ xs))) packet))

pub packet_printed : (m m' : BTreeMap Flow ℕ) (page page' : Page) (packets : List NumberedPacket) (packet : NumberedPacket) → length packets < packet.0.number → packet.0.number ≤ most_frames
    → IsBegun (list_any is_packet_refused) page packets → NumbersStandFor m (items_among packets)
    → page'.is_refused ≡ (page.is_refused || is_packet_refused packet) → page'.text.line ≡ page.text.line ++ packet_text (numbering m) packet
    → (numbering m ≡ item_number (items_among packets) → NumbersStandFor m' (items_among packets ++ items_of_packet packet))
    → IsPrinted (λ xs. NumbersStandFor m' (items_among xs)) packets_text (list_any is_packet_refused) page' packets packet
packet_printed m m' page page' packets packet above few begun h refused text noted =
    let numbers : numbering m ≡ item_number (items_among packets) =
    numbering_is m (items_among packets) h (omega (arith, above, few, few_among packets)) in
    let said : page'.text.line ≡ packet_text (item_number (items_among packets)) packet =
    text ∙ ap (λ t. t ++ packet_text (numbering m) packet) begun.text ∙ ap (λ f. packet_text f packet) numbers in record {
      printed = subst (NumbersStandFor m') (sym (items_among-last packets packet)) (noted numbers);
      text = text_from-last [] packets packet ∙ ap (λ t. packets_text packets ++ t) (sym said);
      refused = refused ∙ ap (λ r. r || is_packet_refused packet) begun.refused
          ∙ ap (λ r. list_any is_packet_refused packets || r) (sym (or-false (is_packet_refused packet)))
          ∙ sym (list_any-append is_packet_refused packets (packet ∷ []));
    }
