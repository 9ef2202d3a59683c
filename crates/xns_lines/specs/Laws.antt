-- What the laws say of lines.
use Rattle.std.specs.Prelude.{◌≡◌, ◌≢◌, ◌++◌, List, [], ◌∷◌, ℕ, All, Option, IfSome}
use Rattle.std.specs.List.{flat_map}
use Rattle.xns_lines.specs.Lines.{closed_lines, open_line}
use Rattle.xns_lines.specs.Printing.{EndCount, StopsIn, TextWithEnd}
use Rattle.xns_lines.specs.declared.fault.RunFault.TheVariants.{NoMemory}

-- no byte 10 is among these
abbrev pub HasNoTen : List ℕ → Type 0
HasNoTen bytes = All (λ byte. byte ≢ 10) bytes

-- the lines that are over, each with its byte 10, and the line that is not, are the input; and no line has a byte 10
pub record LinesAreTheInput : Type 0 where
  pub whole : (input : List ℕ) → flat_map (λ line. line ++ 10 ∷ []) (closed_lines input) ++ open_line input ≡ input
  pub closed : (input : List ℕ) → All HasNoTen (closed_lines input)
  pub last : (input : List ℕ) → HasNoTen (open_line input)

-- where no lines have no text, a want of memory before anything is read or written stops in the input
abbrev pub NothingIsPrintedAtFirst : Type 0
NothingIsPrintedAtFirst = (most : ℕ) (text_of : TextWithEnd (List ℕ)) (end_count : EndCount (List ℕ)) (left held : Option (List ℕ)) → text_of [] 0 ≡ []
    → IfSome left (λ input. StopsIn most text_of end_count input left held held NoMemory)
