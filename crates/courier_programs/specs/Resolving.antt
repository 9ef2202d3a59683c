-- A program whose names are resolved (XSIS 038112, Courier, Remote programs). That what a program depends upon is read before it
-- is this project's rule.
use Rattle.std.specs.Prelude.{ℕ, List, [], ◌∷◌, ◌++◌, Option, Some, Result, Ok, Err, Bool, true, false, if◌then◌else◌, is_some}
use Rattle.courier_notation.specs.Failing.{◌>>=◌}
use Rattle.courier_notation.specs.declared.declared.Dependency.{Dependency}
use Rattle.courier_notation.specs.declared.written.Reference.{Reference}
use Rattle.courier_notation.specs.ProgramModels.{DeclaredModel, ProgramModel}
use Rattle.courier_programs.specs.declared.name_reason.NameReason.TheVariants as reasons
use Rattle.courier_programs.specs.declared.program.Program.{Program}
use Rattle.courier_programs.specs.Meanings.{MeaningModel, ResolvedModel}
use Rattle.courier_programs.specs.Faults.{NameFault, steps}
use Rattle.courier_programs.specs.Scopes.{Env, name_text, program_by, dependency_of, look_up, last_name}
use Rattle.courier_programs.specs.Declarations.{declaration_step, env_at, most_type_parts}

-- a dependency, whose name differs from those before, and which was read
abbrev pub dependency_step : List (List ℕ) → List Program → List Dependency → Dependency → Result (List Dependency) NameFault
dependency_step names before earlier d =
    if is_some (dependency_of names earlier d.name) then Err (d.name, reasons.DoubledName) else
    if is_some (program_by before d.number d.version) then Ok (earlier ++ d ∷ []) else Err (d.name, reasons.NotRead)

abbrev pub is_error : Option MeaningModel → Bool
is_error (Some MeaningModel.error) = true
is_error _ = false

-- an error that is reported is one that is declared
unfoldable pub reported : Env → Unit {0} → Reference → Result (Unit {0}) NameFault
reported e _ r = look_up e r >>= λ found. if is_error found then Ok tt else Err (last_name r, reasons.UnknownName)

-- the errors that a declaration reports
abbrev pub reports_step : Env → Unit {0} → ℕ × DeclaredModel → Result (Unit {0}) NameFault
reports_step e _ (name, DeclaredModel.is_procedure arguments results errors number) = steps (reported e) tt errors
reports_step e _ _ = Ok tt

-- a program in which nothing is declared
abbrev pub empty_program : List (List ℕ) → ProgramModel → ResolvedModel
empty_program names w = record {
  name = name_text names w.name;
  number = w.number;
  version = w.version;
  meanings = [];
  procedures = [];
  errors = [];
}

-- the program, if the errors that its procedures report are declared
unfoldable pub with_reports : List (List ℕ) → List Program → List Dependency → ResolvedModel → ProgramModel → Result ResolvedModel NameFault
with_reports names before dependencies p w =
    steps (reports_step (env_at names before dependencies p.meanings w.name false)) tt w.declarations >>= λ _. Ok p

-- the program that is written, with these dependencies
unfoldable pub with_dependencies : List (List ℕ) → List Program → List Dependency → ProgramModel → Result ResolvedModel NameFault
with_dependencies names before dependencies w =
    steps (declaration_step names before dependencies) (empty_program names w, most_type_parts) w.declarations
    >>= λ st. with_reports names before dependencies st.0 w

-- The program that is written, behind those that were read before, or the first fault: dependencies, declarations, and the
-- errors that procedures report, each from left to right.
unfoldable pub resolved : List (List ℕ) → List Program → ProgramModel → Result ResolvedModel NameFault
resolved names before w =
    if is_some (program_by before w.number w.version) then Err (w.name, reasons.DoubledProgram) else
    (steps (dependency_step names before) [] w.dependencies >>= λ dependencies. with_dependencies names before dependencies w)
