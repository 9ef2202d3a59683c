-- A program line by line. The form of the lines is this project's.
use Rattle.std.specs.Prelude.{ℕ, List, [], ◌∷◌, ◌++◌, codes}
use Rattle.std.specs.Fmt.{decimal}
use Rattle.std.specs.List.{flat_map}
use Rattle.courier_programs.specs.Meanings.{Components, ResolvedError, ResolvedProcedure, ResolvedModel}
use Rattle.call_texts.specs.Calls.{program_name}

-- names with commas between, and this in front of the first
abbrev pub names_text : List ℕ → Components → List ℕ
names_text front [] = []
names_text front (part ∷ parts) = front ++ part.0 ++ names_text (codes ", ") parts

abbrev pub components_line : Components → List ℕ
components_line parts = codes "[" ++ names_text [] parts ++ codes "]"

abbrev pub numbered_text : List ℕ → ℕ → List ℕ → List ℕ
numbered_text kind number name = kind ++ decimal number ++ codes " " ++ name ++ codes " "

abbrev pub results_end : Components → List ℕ
results_end parts = codes " returns " ++ components_line parts ++ codes "\n"

-- what the line of a procedure or an error begins with
unfoldable pub line_head : List ℕ → List ℕ → ℕ → List ℕ → List ℕ
line_head head kind number name = head ++ numbered_text kind number name

unfoldable pub procedure_line : List ℕ → ResolvedProcedure → List ℕ
procedure_line head q = line_head head (codes " procedure ") q.number q.name ++ components_line q.arguments.0 ++ results_end q.results.0

unfoldable pub error_line : List ℕ → ResolvedError → List ℕ
error_line head r = line_head head (codes " error ") r.number r.name ++ components_line r.arguments.0 ++ codes "\n"

-- the program, its procedures and its errors, each in a line, in the order of their declarations
unfoldable pub program_text : ResolvedModel → List ℕ
program_text p =
    program_name p ++ codes "\n" ++ flat_map (procedure_line (program_name p)) p.procedures ++ flat_map (error_line (program_name p)) p.errors
