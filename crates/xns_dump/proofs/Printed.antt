-- A line more is printed.
use Rattle.std.proofs.Common.{◌≡◌, ◌∙◌, ap, sym, arith, ℕ, ◌+◌, ◌≤◌, ◌||◌, List, [], ◌∷◌, ◌++◌, length, subst}
use Rattle.std.specs.List.{list_any}
use Rattle.std.specs.BTreeMap.{BTreeMap}
use Rattle.std.proofs.lemmas.List.Folds.{list_any-append}
use Rattle.std.proofs.Math.Bool.{or-false}
use Rattle.xns_lines.specs.Printing.{IsBegun, IsPrinted}
use Rattle.xns_lines.specs.declared.page.Page.{Page}
use Rattle.xns_dump.specs.Dump.{items_in, items_of_line, text_of}
use Rattle.xns_dump.specs.Dump.Line.{is_refused, text_of_line}
use Rattle.xns_dump.specs.Flows.{item_number}
use Rattle.xns_dump.specs.Flows.Numbers.{NumbersStandFor, numbering}
use Rattle.xns_dump.specs.declared.flows.flow.Flow.{Flow}
use Rattle.xns_dump.proofs.Numbered.{numbering_is}
use Rattle.xns_dump.proofs.Texts.{few_items, items_in-last, text-last}

pub printed : (m m' : BTreeMap Flow ℕ) (page page' : Page) (lines : List (List ℕ)) (line : List ℕ) (n : ℕ) → n ≡ length lines + 1 → n ≤ 65536
    → IsBegun (list_any is_refused) page lines → NumbersStandFor m (items_in lines)
    → page'.is_refused ≡ (page.is_refused || is_refused line) → page'.text.line ≡ page.text.line ++ text_of_line n (numbering m) line
    → (numbering m ≡ item_number (items_in lines) → NumbersStandFor m' (items_in lines ++ items_of_line line))
    → IsPrinted (λ xs. NumbersStandFor m' (items_in xs)) text_of (list_any is_refused) page' lines line
printed m m' page page' lines line n number few begun h refused text noted =
    let numbers : numbering m ≡ item_number (items_in lines) = numbering_is m (items_in lines) h (omega (arith, number, few, few_items lines)) in
    let said : page'.text.line ≡ text_of_line (length lines + 1) (item_number (items_in lines)) line =
    text ∙ ap (λ t. t ++ text_of_line n (numbering m) line) begun.text ∙ ap (λ f. text_of_line n f line) numbers ∙ ap (λ k. text_of_line k (item_number (items_in lines)) line) number in record {
      printed = subst (NumbersStandFor m') (sym (items_in-last lines line)) (noted numbers);
      text = text-last lines line ∙ ap (λ t. text_of lines ++ t) (sym said);
      refused = refused ∙ ap (λ r. r || is_refused line) begun.refused ∙ ap (λ r. list_any is_refused lines || r) (sym (or-false (is_refused line)))
          ∙ sym (list_any-append is_refused lines (line ∷ []));
    }
