-- A program as a table of nodes. The form of the table is this project's.
use Rattle.std.specs.Prelude.{ℕ, ◌+◌, List, [], ◌∷◌, ◌++◌, length, map, Some}
use Rattle.std.specs.List.{flat_map}
use Rattle.courier_texts.specs.Named.{NamedModel, ComponentModels, no_components, component_and, VariantModels, no_variants, variant_and}
use Rattle.courier_programs.specs.Meanings.{ResolvedError, FieldsModel, MeaningModel, ResolvedProcedure, ResolvedModel, components_from}
use Rattle.program_tables.specs.declared.node.Node.{Node}
use Rattle.program_tables.specs.declared.node.NodeKind.{NodeKind}
use Rattle.program_tables.specs.declared.node.NodeKind.TheVariants as kinds

-- a node, without where its name lies in memory
pub record NodeModel : Type 0 where
  pub kind : NodeKind
  pub number : ℕ
  pub parts : ℕ
  pub name : List ℕ

abbrev pub table_node : NodeKind → ℕ → ℕ → List ℕ → NodeModel
table_node kind number parts name = record { kind = kind; number = number; parts = parts; name = name }

abbrev pub node_model : Node → NodeModel
node_model n = table_node n.kind n.number n.parts n.name.items

abbrev pub nodes_seen : List Node → List NodeModel
nodes_seen nodes = map node_model nodes

abbrev pub component_count : ComponentModels → ℕ
component_count no_components = 0
component_count (component_and name part parts) = component_count parts + 1

abbrev pub variant_count : VariantModels → ℕ
variant_count no_variants = 0
variant_count (variant_and name designator part parts) = variant_count parts + 1

abbrev pub member_node : List ℕ × ℕ → NodeModel
member_node m = table_node kinds.Member m.1 0 m.0

-- a type by this name, in front of its parts
unfoldable mutual
  pub type_nodes : List ℕ → NamedModel → List NodeModel
  type_nodes name (NamedModel.predefined type) = table_node (kinds.Predefined type) 0 0 name ∷ []
  type_nodes name (NamedModel.enumeration members) = table_node kinds.Enumeration 0 (length members) name ∷ map member_node members
  type_nodes name (NamedModel.array n element) = table_node kinds.Array n 1 name ∷ type_nodes [] element
  type_nodes name (NamedModel.sequence most element) = table_node kinds.Sequence most 1 name ∷ type_nodes [] element
  type_nodes name (NamedModel.components parts) = table_node kinds.Record 0 (component_count parts) name ∷ component_nodes parts
  type_nodes name (NamedModel.choice parts) = table_node kinds.Choice 0 (variant_count parts) name ∷ variant_nodes parts

  pub component_nodes : ComponentModels → List NodeModel
  component_nodes no_components = []
  component_nodes (component_and name part parts) = type_nodes name part ++ component_nodes parts

  pub variant_nodes : VariantModels → List NodeModel
  variant_nodes no_variants = []
  variant_nodes (variant_and name designator part parts) =
      (table_node kinds.Candidate designator 1 name ∷ type_nodes [] part) ++ variant_nodes parts

-- a record without a name
abbrev pub record_nodes : FieldsModel → List NodeModel
record_nodes fields = type_nodes [] (NamedModel.components (components_from fields.0))

-- a constant that is a number, or a type; other declarations have no node here
abbrev pub meaning_nodes : List ℕ × MeaningModel → List NodeModel
meaning_nodes (name, MeaningModel.constant (Some n)) = table_node kinds.Constant n 0 name ∷ []
meaning_nodes (name, MeaningModel.type named size) = type_nodes name named
meaning_nodes _ = []

abbrev pub procedure_nodes : ResolvedProcedure → List NodeModel
procedure_nodes p = (table_node kinds.Procedure p.number 2 p.name ∷ record_nodes p.arguments) ++ record_nodes p.results

abbrev pub error_nodes : ResolvedError → List NodeModel
error_nodes e = table_node kinds.Error e.number 1 e.name ∷ record_nodes e.arguments

-- a program's constants and types, then its procedures, then its errors, each in the order of their declarations
unfoldable pub program_nodes : ResolvedModel → List NodeModel
program_nodes p = flat_map meaning_nodes p.meanings ++ flat_map procedure_nodes p.procedures ++ flat_map error_nodes p.errors
