-- What a declaration stands for (XSIS 038112, Courier, Remote programs). That a recursive type may be declared and not used, and
-- that a procedure's and an error's numbers differ, are this project's rules.
use Rattle.std.specs.Prelude.{ℕ, ◌-◌, ◌==◌, List, [], ◌∷◌, ◌++◌, Option, Some, None, Result, Ok, Err, Bool, true, false, if◌then◌else◌, is_some}
use Rattle.std.specs.List.{find}
use Rattle.courier_types.specs.Check.{shape_fault}
use Rattle.courier_types.specs.declared.shape_fault.ShapeFault.{ShapeFault}
use Rattle.courier_types.specs.declared.shape_fault.ShapeFault.TheVariants as shape_faults
use Rattle.courier_types.specs.Shape.{ShapeModel}
use Rattle.courier_notation.specs.Failing.{◌>>=◌}
use Rattle.courier_notation.specs.declared.declared.Constant.{Constant}
use Rattle.courier_notation.specs.declared.declared.Constant.TheVariants as constants
use Rattle.courier_notation.specs.declared.declared.Dependency.{Dependency}
use Rattle.courier_notation.specs.declared.limits.TheConstants.{MOST_DEPTH}
use Rattle.courier_notation.specs.Written.{TypeModel, fields_from}
use Rattle.courier_notation.specs.ProgramModels.{DeclaredModel, FieldList}
use Rattle.courier_texts.specs.Named.{NamedModel, shape_of, shapes_of}
use Rattle.courier_programs.specs.declared.declarations.Added.{Added}
use Rattle.courier_programs.specs.declared.declarations.Added.TheVariants as additions
use Rattle.courier_programs.specs.declared.limits.TheConstants.{MOST_TYPE_PARTS}
use Rattle.courier_programs.specs.declared.name_reason.NameReason.TheVariants as reasons
use Rattle.courier_programs.specs.declared.program.Program.{Program}
use Rattle.courier_programs.specs.Meanings.{Components, components_from, FieldsModel, ResolvedProcedure, ResolvedError, MeaningModel, MeaningList, meaning_of, ResolvedModel, meaning_model, resolved_procedure, resolved_error}
use Rattle.courier_programs.specs.Faults.{NameFault}
use Rattle.courier_programs.specs.Scopes.{Env, name_text, value_named, spent}
use Rattle.courier_programs.specs.Types.{type_meant, components_meant}

abbrev pub most_depth : ℕ
most_depth = MOST_DEPTH

abbrev pub most_type_parts : ℕ
most_type_parts = MOST_TYPE_PARTS

-- ---- whole types

-- the first fault of a shape is told at the name that is declared
abbrev pub fault_at_name : Env → Option ShapeFault → Result (Unit {0}) NameFault
fault_at_name e None = Ok tt
fault_at_name e (Some shape_faults.TooDeep) = Err (e.own, reasons.TooDeep)
fault_at_name e (Some _) = Err (e.own, reasons.NoWords)

abbrev pub sound : Env → ShapeModel → Result (Unit {0}) NameFault
sound e shape = fault_at_name e (shape_fault shape)

-- a type that stands by itself
unfoldable pub whole_type : Env → TypeModel → ℕ → Result (NamedModel × ℕ) NameFault
whole_type e type room = type_meant e most_depth type room >>= λ t. (sound e (shape_of t.0) >>= λ _. Ok t)

abbrev pub record_shape : Components → ShapeModel
record_shape parts = ShapeModel.fields (shapes_of (components_from parts))

-- the arguments or the results of a procedure, or the arguments of an error
unfoldable pub whole_fields : Env → FieldList → ℕ → Result (FieldsModel × ℕ) NameFault
whole_fields e groups room =
    spent e room 1 >>= λ left. (components_meant e (type_meant e most_depth) [] ([], left) (fields_from groups)
    >>= λ parts. (sound e (record_shape parts.0) >>= λ _. Ok ((parts.0, record_shape parts.0), parts.1)))

-- ---- declarations

pub data Addition : Type 0 where
  adds_meaning : MeaningModel → Addition
  adds_procedure : ResolvedProcedure → Addition
  adds_error : ResolvedError → Addition

abbrev pub addition_of : Added → Addition
addition_of (additions.Meaning m) = adds_meaning (meaning_model m)
addition_of (additions.Procedure p) = adds_procedure (resolved_procedure p)
addition_of (additions.Error r) = adds_error (resolved_error r)

-- a type that is recursive stands for none, and takes no room
abbrev pub settled : ℕ → Result (NamedModel × ℕ) NameFault → Result (Addition × ℕ) NameFault
settled room (Ok t) = Ok (adds_meaning (MeaningModel.type t.0 (room - t.1)), t.1)
settled room (Err (name, reasons.Recursive)) = Ok (adds_meaning MeaningModel.recursive, room)
settled room (Err fault) = Err fault

abbrev pub constant_value : Env → Constant → Result (Option ℕ) NameFault
constant_value e (constants.Number n) = Ok (Some n)
constant_value e (constants.Named r) = value_named e r
constant_value e constants.Other = Ok None

unfoldable pub constant_meant : Env → TypeModel → Constant → ℕ → Result (Addition × ℕ) NameFault
constant_meant e type constant room = whole_type e type room >>= λ t. (constant_value e constant >>= λ value. Ok (adds_meaning (MeaningModel.constant value), t.1))

-- the procedure of that number
abbrev pub procedure_by : List ResolvedProcedure → ℕ → Option ResolvedProcedure
procedure_by procedures number = find (λ p. p.number == number) procedures

-- the error of that number
abbrev pub error_by : List ResolvedError → ℕ → Option ResolvedError
error_by errors number = find (λ r. r.number == number) errors

abbrev pub own_text : Env → List ℕ
own_text e = name_text e.names e.own

-- a procedure or an error, if no other one has its number
abbrev pub numbered_once : Env → Bool → Addition → ℕ → Result (Addition × ℕ) NameFault
numbered_once e taken added room = if taken then Err (e.own, reasons.DoubledNumber) else Ok (added, room)

unfoldable pub procedure_meant : Env → List ResolvedProcedure → FieldList → FieldList → ℕ → ℕ → Result (Addition × ℕ) NameFault
procedure_meant e procedures arguments results number room =
    whole_fields e arguments room >>= λ a. (whole_fields e results a.1
    >>= λ r. numbered_once e (is_some (procedure_by procedures number)) (adds_procedure (record { name = own_text e; number = number; arguments = a.0; results = r.0 })) r.1)

unfoldable pub error_meant : Env → List ResolvedError → FieldList → ℕ → ℕ → Result (Addition × ℕ) NameFault
error_meant e errors arguments number room =
    whole_fields e arguments room
    >>= λ a. numbered_once e (is_some (error_by errors number)) (adds_error (record { name = own_text e; number = number; arguments = a.0 })) a.1

-- what a declaration adds to the program
unfoldable pub declaration_meant : Env → ResolvedModel → DeclaredModel → ℕ → Result (Addition × ℕ) NameFault
declaration_meant e p (DeclaredModel.is_type type) room = settled room (whole_type e type room)
declaration_meant e p (DeclaredModel.is_constant type constant) room = constant_meant e type constant room
declaration_meant e p (DeclaredModel.is_procedure arguments results errors number) room = procedure_meant e p.procedures arguments results number room
declaration_meant e p (DeclaredModel.is_error arguments number) room = error_meant e p.errors arguments number room

-- the program with what was declared
abbrev pub with_addition : ResolvedModel → List ℕ → Addition → ResolvedModel
with_addition p name (adds_meaning m) = record p { meanings = p.meanings ++ (name, m) ∷ [] }
with_addition p name (adds_procedure q) = record p { meanings = p.meanings ++ (name, MeaningModel.procedure) ∷ []; procedures = p.procedures ++ q ∷ [] }
with_addition p name (adds_error r) = record p { meanings = p.meanings ++ (name, MeaningModel.error) ∷ []; errors = p.errors ++ r ∷ [] }

abbrev pub is_type : DeclaredModel → Bool
is_type (DeclaredModel.is_type type) = true
is_type _ = false

-- what a declaration may refer to: what was declared before it
abbrev pub env_at : List (List ℕ) → List Program → List Dependency → MeaningList → ℕ → Bool → Env
env_at names before dependencies meanings own type = record {
  names = names;
  before = before;
  dependencies = dependencies;
  meanings = meanings;
  own = own;
  is_type = type;
}

-- what a declaration adds, if its name differs from those before
abbrev pub once_meant : Env → ResolvedModel → ℕ × DeclaredModel → ℕ → Result (Addition × ℕ) NameFault
once_meant e p d room = if is_some (meaning_of p.meanings (name_text e.names d.0)) then Err (d.0, reasons.DoubledName) else declaration_meant e p d.1 room

-- the program behind a declaration, and what is left of the room for parts
unfoldable pub declaration_step : List (List ℕ) → List Program → List Dependency → ResolvedModel × ℕ → ℕ × DeclaredModel → Result (ResolvedModel × ℕ) NameFault
declaration_step names before dependencies st d =
    once_meant (env_at names before dependencies st.0.meanings d.0 (is_type d.1)) st.0 d st.1
    >>= λ added. Ok (with_addition st.0 (name_text names d.0) added.0, added.1)
