-- A packet of a capture more, or a part of the end, is printed.
use Rattle.std.proofs.Common.{◌≡◌, ◌∙◌, ap, sym, refl, arith, subst, ℕ, suc, ◌+◌, List, [], ◌∷◌, ◌++◌, append-nil, append_assoc}
use Rattle.xns_lines.specs.Printing.{IsBegun, IsEndPrinted, IsPrinted}
use Rattle.xns_lines.specs.declared.page.Page.{Page}
use Rattle.xns_captures.specs.Captures.{NumberedPacket}
use Rattle.xns_calls.specs.Naming.{Programs}
use Rattle.xns_calls.specs.Calls.{after_bytes, nothing_known}
use Rattle.xns_calls.specs.Capture.{IsPlaced, Keeps, Known, after_end, known}
use Rattle.xns_calls.specs.Files.{HasPrintedPackets, known_behind, last_after, last_frame, packet_taken, packets_known, packets_known_with_end, packets_refused, packets_text, packets_text_with_end, text_behind}
use Rattle.xns_calls.specs.declared.capture.Capture.{Capture}
use Rattle.xns_calls.specs.declared.printer.CallsPrinter.{CallsPrinter}
use Rattle.xns_calls.proofs.Printed.{known_by}
use Rattle.xns_calls.specs.declared.origin.Origin.{Origin}
use Rattle.xns_calls.specs.Origins.{frame_origin, line_origin}
use Rattle.xns_calls.specs.declared.times.Times.{Times}

module _ (programs : Programs) where
  known-last : (times : Times) (k : Known) (packets : List NumberedPacket) (packet : NumberedPacket) → known_behind programs times k (packets ++ packet ∷ []) ≡ packet_taken programs times packet (known_behind programs times k packets)
  known-last times k [] packet = refl
  known-last times k (p ∷ packets) packet = known-last times (packet_taken programs times p k) packets packet

  text-last : (times : Times) (k : Known) (packets : List NumberedPacket) (packet : NumberedPacket)
      → text_behind programs times k (packets ++ packet ∷ []) ≡ text_behind programs times k packets ++ (packet_taken programs times packet (known_behind programs times k packets)).text
  text-last times k [] packet = append-nil (packet_taken programs times packet k).text
  text-last times k (p ∷ packets) packet =
      ap (λ t. (packet_taken programs times p k).text ++ t) (text-last times (packet_taken programs times p k) packets packet)
      ∙ sym (append_assoc (packet_taken programs times p k).text (text_behind programs times (packet_taken programs times p k) packets) (packet_taken programs times packet (known_behind programs times (packet_taken programs times p k) packets)).text)

  last-last : (times : Times) (n : Origin) (packets : List NumberedPacket) (packet : NumberedPacket) → last_after programs times n (packets ++ packet ∷ []) ≡ frame_origin programs times packet.0
  last-last times n [] packet = refl
  last-last times n (p ∷ packets) packet = last-last times (frame_origin programs times p.0) packets packet

  -- what is known as a packet begins
  begun_known : (times : Times) (capture : Capture) (page : Page) (packets : List NumberedPacket) (part : ℕ) → IsBegun (λ xs. packets_refused programs times xs part) page packets
      → Keeps capture (packets_known_with_end programs times packets part)
      → known_by capture page ≡ record (packets_known_with_end programs times packets part) { text = [] }
  begun_known times capture page packets part begun h =
      let k = packets_known_with_end programs times packets part in
      ap (λ cs. known cs capture.count page) h.connections
      ∙ ap (λ n. known k.connections n page) h.count
      ∙ ap (λ t. record { connections = k.connections; count = k.count; text = t; is_refused = page.is_refused }) begun.text
      ∙ ap (λ b. record { connections = k.connections; count = k.count; text = []; is_refused = b }) begun.refused

  pub packet_printed : (times : Times) (capture : Capture) (printer' : CallsPrinter) (page page' : Page) (packet : NumberedPacket) (packets : List NumberedPacket) (origin : Origin) → printer'.programs ≡ programs
      → origin ≡ frame_origin programs times packet.0
      → (IsPlaced capture → known_by printer'.capture page' ≡ after_bytes origin packet.1 (known_by capture page)) → (IsPlaced capture → IsPlaced printer'.capture)
      → printer'.last ≡ origin
      → IsBegun (λ xs. packets_refused programs times xs 0) page packets → Keeps capture (packets_known programs times packets)
      → IsPrinted (λ xs. HasPrintedPackets programs times printer' xs 0) (λ xs. packets_text_with_end programs times xs 0) (λ xs. packets_refused programs times xs 0) page' packets packet
  packet_printed times capture printer' page page' packet packets origin named is taken places counted begun h =
      let after : known_by printer'.capture page' ≡ packets_known programs times (packets ++ packet ∷ []) =
      taken h.places ∙ ap (λ n. after_bytes n packet.1 (known_by capture page)) is ∙ ap (after_bytes (frame_origin programs times packet.0) packet.1) (begun_known times capture page packets 0 begun h)
      ∙ sym (known-last times nothing_known packets packet) in record {
        printed = record {
          named = named;
          keeps = record { connections = ap (λ (k : Known). k.connections) after; count = ap (λ (k : Known). k.count) after; places = places h.places };
          last = counted ∙ is ∙ sym (last-last times (line_origin programs 0) packets packet);
        };
        text = text-last times nothing_known packets packet ∙ ap (λ (k : Known). packets_text programs times packets ++ k.text) (sym (known-last times nothing_known packets packet) ∙ sym after);
        refused = ap (λ (k : Known). k.is_refused) after;
      }

  pub packet_end_printed : (times : Times) (printer printer' : CallsPrinter) (page page' : Page) (packets : List NumberedPacket) (part : ℕ) → printer'.programs ≡ printer.programs
      → known_by printer'.capture page' ≡ after_end printer.last part (known_by printer.capture page) → (IsPlaced printer.capture → IsPlaced printer'.capture) → printer'.last ≡ printer.last
      → IsBegun (λ xs. packets_refused programs times xs part) page packets → HasPrintedPackets programs times printer packets part
      → IsEndPrinted (HasPrintedPackets programs times printer' packets) (packets_text_with_end programs times packets) (packets_refused programs times packets) page' part
  packet_end_printed times printer printer' page page' packets part same taken places counted begun h =
      let e : suc part ≡ part + 1 = omega arith in
      let after : known_by printer'.capture page' ≡ packets_known_with_end programs times packets (suc part) =
      taken ∙ ap (λ n. after_end n part (known_by printer.capture page)) h.last ∙ ap (after_end (last_frame programs times packets) part) (begun_known times printer.capture page packets part begun h.keeps) in
      let printed : HasPrintedPackets programs times printer' packets (suc part) = record {
        named = same ∙ h.named;
        keeps = record { connections = ap (λ (k : Known). k.connections) after; count = ap (λ (k : Known). k.count) after; places = places h.keeps.places };
        last = counted ∙ h.last;
      } in record {
        printed = subst (HasPrintedPackets programs times printer' packets) e printed;
        text = ap (packets_text_with_end programs times packets) (sym e) ∙ ap (λ (k : Known). packets_text_with_end programs times packets part ++ k.text) (sym after);
        refused = ap (λ (k : Known). k.is_refused) after ∙ ap (packets_refused programs times packets) e;
      }
