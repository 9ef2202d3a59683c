-- What stands where nothing is read.
use Rattle.std.proofs.Common.{◌≡◌, ◌∙◌, ap, sym, refl, arith, ℕ, List, [], ◌++◌, Option, Some, None, inl, subst}
use Rattle.std.specs.Prelude.{IfSome}
use Rattle.xns_lines.proofs.Cuts.{closed-nothing, open-nothing}
use Rattle.xns_lines.proofs.Writes.{appends_nothing}
use Rattle.xns_lines.specs.Faults.{FaultyLines, HasWritten, IsJustified}
use Rattle.xns_lines.specs.Lines.{line_if_any, open_line, split_at_newlines}
use Rattle.xns_lines.specs.Printing.{EndCount, StopsIn, TextWithEnd}
use Rattle.xns_lines.specs.declared.fault.RunFault.{RunFault}
use Rattle.xns_lines.specs.declared.fault.RunFault.TheVariants.{NoMemory}

-- where nothing was read, no line is good, and none comes next
abbrev pub no_lines : (most : ℕ) (f : RunFault) → IsJustified most f [] [] [] → FaultyLines most f []
no_lines most f justified = record {
  good = [];
  next = [];
  joined = ap (λ l. l ++ line_if_any (open_line [])) closed-nothing ∙ ap line_if_any open-nothing;
  within = record { short = refl; few = omega arith };
  justified = justified;
}

-- a fault that may come before a line is read, and after which no text is written
pub stops_unread : (f : RunFault) (most : ℕ) (text_of : TextWithEnd (List ℕ)) (end_count : EndCount (List ℕ)) (input : List ℕ) (held : Option (List ℕ)) → text_of [] 0 ≡ []
    → IsJustified most f [] [] [] → HasWritten f held held [] → StopsIn most text_of end_count input (Some input) held held f
unfolding split_at_newlines
stops_unread f most text_of end_count input held none justified written = record {
  read = [];
  consumed = refl;
  front = ([], appends_nothing held, (text_of [] (end_count []), refl));
  stops = record {
    lines = no_lines most f justified;
    part = 0;
    few = omega arith;
    place = inl refl;
    is_left = subst (HasWritten f held held) (sym none) written;
  };
}

pub at_first : (most : ℕ) (text_of : TextWithEnd (List ℕ)) (end_count : EndCount (List ℕ)) (left held : Option (List ℕ)) → text_of [] 0 ≡ []
    → IfSome left (λ input. StopsIn most text_of end_count input left held held NoMemory)
at_first most text_of end_count None held none = tt
at_first most text_of end_count (Some input) held none = stops_unread NoMemory most text_of end_count input held none tt (appends_nothing held)
