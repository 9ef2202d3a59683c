-- Where resolving may be refused memory, which is this project's rule: where something may grow.
use Rattle.std.specs.Prelude.{◌≡◌, ◌⊎◌, ℕ, ◌<◌, ◌≤◌, List, [], ◌∷◌, length, None, IsOk, true, is_some, vec_len, vec_capacity}
use Rattle.std.specs.Global.{Vec}
use Rattle.courier_notation.specs.declared.declared.Dependency.{Dependency}
use Rattle.courier_notation.specs.ProgramModels.{DeclaredModel, ProgramModel}
use Rattle.courier_notation.specs.Written.{TypeModel, FieldModels, no_fields, field_and}
use Rattle.courier_programs.specs.declared.declarations.Added.{Added}
use Rattle.courier_programs.specs.declared.declarations.Added.TheVariants as additions
use Rattle.courier_programs.specs.declared.program.Program.{Program}
use Rattle.courier_programs.specs.Scopes.{Env, program_by, spent, name_text, type_named, word_of}
use Rattle.courier_programs.specs.Types.{maximum_of, tag_members, type_meant}

abbrev pub HasFields : FieldModels → Type 0
HasFields no_fields = ⊥
HasFields (field_and names type groups) = Unit {0}

-- the type stands for something, where it has room and does not stand too deep
abbrev pub StandsForType : Env → TypeModel → Type 0
StandsForType e type = (depth : ℕ) × (room : ℕ) × IsOk (type_meant e depth type room)

-- The type has members, elements, components or candidates, or is named. The number, the maximum, the enumeration of the
-- designators and the name in front of them are right. An element wants memory itself, or stands for something and is then held.
abbrev pub ResolvedTypeWants : Env → TypeModel → Type 0
ResolvedTypeWants e (TypeModel.enumeration members) = 0 < length members
ResolvedTypeWants e (TypeModel.array count element) = IsOk (word_of e count) × (ResolvedTypeWants e element ⊎ StandsForType e element)
ResolvedTypeWants e (TypeModel.sequence most element) = IsOk (maximum_of e most) × (ResolvedTypeWants e element ⊎ StandsForType e element)
ResolvedTypeWants e (TypeModel.fields groups) = HasFields groups
ResolvedTypeWants e (TypeModel.choice tag groups) = IsOk (tag_members e tag)
ResolvedTypeWants e (TypeModel.named r) = IsOk (type_named e r)
ResolvedTypeWants e _ = ⊥

-- what a declaration adds wants memory: a procedure or an error that there is room for, or a type or a constant whose type wants memory
abbrev pub AddedWants : Env → DeclaredModel → ℕ → Type 0
AddedWants e (DeclaredModel.is_type type) room = ResolvedTypeWants e type
AddedWants e (DeclaredModel.is_constant type constant) room = ResolvedTypeWants e type
AddedWants e _ room = IsOk (spent e room 1)

abbrev pub IsFullVec : {X : Type 0} → Vec X → Type 0
IsFullVec v = vec_capacity v ≤ vec_len v

-- a program has no room for what is added, a name among its names, and a procedure or an error among its own
abbrev pub AddingWants : Program → Added → Type 0
AddingWants p (additions.Meaning m) = IsFullVec p.meanings
AddingWants p (additions.Procedure q) = IsFullVec p.procedures ⊎ IsFullVec p.meanings
AddingWants p (additions.Error r) = IsFullVec p.errors ⊎ IsFullVec p.meanings

-- a program has a name, or declares something
abbrev pub DeclaringWants : List (List ℕ) → ProgramModel → Type 0
DeclaringWants names w = (0 < length (name_text names w.name)) ⊎ (0 < length w.declarations)

-- what a program depends upon first was read
abbrev pub FirstWasRead : List Program → List Dependency → Type 0
FirstWasRead before [] = Unit {0}
FirstWasRead before (d ∷ dependencies) = is_some (program_by before d.number d.version) ≡ true

-- no program before has the number and version, and what the program depends upon first was read
abbrev pub ResolvingWants : List Program → ProgramModel → Type 0
ResolvingWants before w = (program_by before w.number w.version ≡ None) × FirstWasRead before w.dependencies
