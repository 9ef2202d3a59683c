-- Calls, returns and aborts by name (XSIS 038112, Courier). The form of the texts is this project's.
use Rattle.std.specs.Prelude.{◌≡◌, ℕ, List, ◌++◌, Option, Some, None, IsSomeAnd, Result, Ok, Err, codes, option_map}
use Rattle.std.specs.Global.{Vec}
use Rattle.std.specs.Fmt.{decimal}
use Rattle.courier_programs.specs.declared.program.Program.{Program}
use Rattle.courier_programs.specs.Declarations.{error_by, procedure_by}
use Rattle.courier_programs.specs.Meanings.{FieldsModel, ResolvedModel, resolved_model}
use Rattle.courier_programs.specs.Scopes.{program_by}
use Rattle.call_texts.specs.declared.unread.Unshown.{Unshown}
use Rattle.call_texts.specs.declared.unread.Unshown.TheVariants as unshown
use Rattle.call_texts.specs.Showing.{ShowingWants, UnreadModel, shown}

-- a text behind a front, or why there is none
abbrev pub text_with_front : List ℕ → Result (List ℕ) UnreadModel → Result (List ℕ) UnreadModel
text_with_front front (Ok text) = Ok (front ++ text)
text_with_front front (Err unread) = Err unread

-- a function answered that text, or why there is none, or that nothing is declared, unless memory ran out
abbrev pub ShowsDeclared : Result (Option (Vec ℕ)) Unshown → Option (Result (List ℕ) UnreadModel) → Type 0
ShowsDeclared (Ok (Some v)) text = text ≡ Some (Ok v.items)
ShowsDeclared (Ok None) text = text ≡ None
ShowsDeclared (Err (unshown.Unread u)) text = text ≡ Some (Err (u.place, u.reason))
ShowsDeclared (Err unshown.NoMemory) text = Unit {0}

-- the name of a program, with its number and version
abbrev pub program_name : ResolvedModel → List ℕ
program_name p = p.name ++ codes " " ++ decimal p.number ++ codes "." ++ decimal p.version

-- ---- calls and what came back

-- The text of what a program declares, found in the program and shown. None where there is no program, or the program does not
-- declare it.
abbrev pub declared_shown : {A : Type 0} → (ResolvedModel → Option A) → (ResolvedModel → A → Result (List ℕ) UnreadModel) → Option Program → Option (Result (List ℕ) UnreadModel)
declared_shown find show (Some p) = option_map (show (resolved_model p)) (find (resolved_model p))
declared_shown find show None = None

-- a return or an abort: a name and components
abbrev pub named_shown : List ℕ → FieldsModel → List ℕ → Result (List ℕ) UnreadModel
named_shown name fields words = text_with_front (name ++ codes " ") (shown fields words)

-- a call: the program, the procedure and the arguments, where they are declared
unfoldable pub call_shown : List Program → ℕ → ℕ → ℕ → List ℕ → Option (Result (List ℕ) UnreadModel)
call_shown programs program version procedure words = declared_shown (λ p. procedure_by p.procedures procedure)
    (λ p q. text_with_front (program_name p ++ codes " " ++ q.name ++ codes " ") (shown q.arguments words)) (program_by programs program version)

-- a return of a call: the procedure and the results
unfoldable pub return_shown : List Program → ℕ → ℕ → ℕ → List ℕ → Option (Result (List ℕ) UnreadModel)
return_shown programs program version procedure words = declared_shown (λ p. procedure_by p.procedures procedure)
    (λ p q. named_shown q.name q.results words) (program_by programs program version)

-- an abort of a call: the error and its arguments
unfoldable pub abort_shown : List Program → ℕ → ℕ → ℕ → List ℕ → Option (Result (List ℕ) UnreadModel)
abort_shown programs program version error words = declared_shown (λ p. error_by p.errors error)
    (λ p r. named_shown r.name r.arguments words) (program_by programs program version)

-- ---- memory

-- a call wants memory: it is declared, and showing its arguments wants memory
abbrev pub CallWants : List Program → ℕ → ℕ → ℕ → List ℕ → Type 0
CallWants programs program version procedure words = IsSomeAnd (program_by programs program version)
    (λ p. IsSomeAnd (procedure_by (resolved_model p).procedures procedure) (λ q. ShowingWants q.arguments words))

-- a return wants memory: its procedure is declared, and showing its results wants memory
abbrev pub ReturnWants : List Program → ℕ → ℕ → ℕ → List ℕ → Type 0
ReturnWants programs program version procedure words = IsSomeAnd (program_by programs program version)
    (λ p. IsSomeAnd (procedure_by (resolved_model p).procedures procedure) (λ q. ShowingWants q.results words))

-- an abort wants memory: its error is declared, and showing the error's arguments wants memory
abbrev pub AbortWants : List Program → ℕ → ℕ → ℕ → List ℕ → Type 0
AbortWants programs program version error words = IsSomeAnd (program_by programs program version)
    (λ p. IsSomeAnd (error_by (resolved_model p).errors error) (λ r. ShowingWants r.arguments words))
