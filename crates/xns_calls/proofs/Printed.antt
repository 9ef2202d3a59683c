-- A line more, or a part of the end, is printed.
use Rattle.std.proofs.Common.{◌≡◌, ◌∙◌, ap, sym, arith, subst, ℕ, suc, ◌+◌, List, [], ◌∷◌, ◌++◌, length, length-append}
use Rattle.xns_lines.specs.Printing.{IsBegun, IsEndPrinted, IsPrinted}
use Rattle.xns_lines.specs.declared.page.Page.{Page}
use Rattle.xns_calls.specs.Naming.{Programs}
use Rattle.xns_calls.specs.Calls.{HasPrinted, after_line, has_refused, known_of, known_with_end, line_taken, text_of, text_with_end}
use Rattle.xns_calls.specs.Capture.{IsPlaced, Keeps, Known, after_end, known}
use Rattle.xns_calls.specs.declared.capture.Capture.{Capture}
use Rattle.xns_calls.specs.declared.printer.CallsPrinter.{CallsPrinter}
use Rattle.xns_calls.proofs.Behind.{known-last, text-last}
use Rattle.xns_calls.specs.Origins.{line_origin}

abbrev pub known_by : Capture → Page → Known
known_by capture page = known capture.connections.items capture.count page

module _ (programs : Programs) where
  -- what is known as a line begins
  begun_known : (capture : Capture) (page : Page) (lines : List (List ℕ)) (part : ℕ) → IsBegun (λ xs. has_refused programs xs part) page lines → Keeps capture (known_with_end programs lines part)
      → known_by capture page ≡ record (known_with_end programs lines part) { text = [] }
  begun_known capture page lines part begun h =
      let k = known_with_end programs lines part in
      ap (λ cs. known cs capture.count page) h.connections
      ∙ ap (λ n. known k.connections n page) h.count
      ∙ ap (λ t. record { connections = k.connections; count = k.count; text = t; is_refused = page.is_refused }) begun.text
      ∙ ap (λ b. record { connections = k.connections; count = k.count; text = []; is_refused = b }) begun.refused

  pub printed : (capture : Capture) (printer' : CallsPrinter) (page page' : Page) (line : List ℕ) (n : ℕ) (lines : List (List ℕ)) → printer'.programs ≡ programs
      → (IsPlaced capture → known_by printer'.capture page' ≡ after_line programs n line (known_by capture page)) → (IsPlaced capture → IsPlaced printer'.capture) → printer'.last ≡ line_origin programs n
      → n ≡ length lines + 1 → IsBegun (λ xs. has_refused programs xs 0) page lines → Keeps capture (known_of programs lines)
      → IsPrinted (λ xs. HasPrinted programs printer' xs 0) (λ xs. text_with_end programs xs 0) (λ xs. has_refused programs xs 0) page' lines line
  printed capture printer' page page' line n lines named taken places counted number begun h =
      let after : known_by printer'.capture page' ≡ known_of programs (lines ++ line ∷ []) =
      taken h.places ∙ ap (after_line programs n line) (begun_known capture page lines 0 begun h) ∙ ap (λ m. line_taken programs m line (known_of programs lines)) number ∙ sym (known-last programs lines line) in record {
        printed = record {
          named = named;
          keeps = record { connections = ap (λ (k : Known). k.connections) after; count = ap (λ (k : Known). k.count) after; places = places h.places };
          last = counted ∙ ap (line_origin programs) (number ∙ sym (length-append lines (line ∷ [])));
        };
        text = text-last programs lines line ∙ ap (λ (k : Known). text_of programs lines ++ k.text) (sym (known-last programs lines line) ∙ sym after);
        refused = ap (λ (k : Known). k.is_refused) after;
      }

  pub end_printed : (printer printer' : CallsPrinter) (page page' : Page) (lines : List (List ℕ)) (part : ℕ) → printer'.programs ≡ printer.programs
      → known_by printer'.capture page' ≡ after_end printer.last part (known_by printer.capture page) → (IsPlaced printer.capture → IsPlaced printer'.capture) → printer'.last ≡ printer.last
      → IsBegun (λ xs. has_refused programs xs part) page lines → HasPrinted programs printer lines part
      → IsEndPrinted (HasPrinted programs printer' lines) (text_with_end programs lines) (has_refused programs lines) page' part
  end_printed printer printer' page page' lines part same taken places counted begun h =
      let e : suc part ≡ part + 1 = omega arith in
      let after : known_by printer'.capture page' ≡ known_with_end programs lines (suc part) =
      taken ∙ ap (λ n. after_end n part (known_by printer.capture page)) h.last ∙ ap (after_end (line_origin programs (length lines)) part) (begun_known printer.capture page lines part begun h.keeps) in
      let printed : HasPrinted programs printer' lines (suc part) = record {
        named = same ∙ h.named;
        keeps = record { connections = ap (λ (k : Known). k.connections) after; count = ap (λ (k : Known). k.count) after; places = places h.keeps.places };
        last = counted ∙ h.last;
      } in record {
        printed = subst (HasPrinted programs printer' lines) e printed;
        text = ap (text_with_end programs lines) (sym e) ∙ ap (λ (k : Known). text_with_end programs lines part ++ k.text) (sym after);
        refused = ap (λ (k : Known). k.is_refused) after ∙ ap (has_refused programs lines) e;
      }
