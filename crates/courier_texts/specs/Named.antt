-- Types with their names.
use Rattle.std.specs.Prelude.{ℕ, ◌<◌, List, [], ◌∷◌, length, map}
use Rattle.std.specs.Global.{Vec}
use Rattle.courier_types.specs.declared.predefined.Predefined.{Predefined}
use Rattle.courier_types.specs.Shape.{ShapeModel, ShapeModels, no_shapes, shape_and, MemberModels, no_members, member_and, predefined_shape}
use Rattle.courier_texts.specs.declared.named.Named.{Named, fold-Named}
use Rattle.courier_texts.specs.declared.named.Named.TheOpen.{Named-F}

-- a type with its names, without where it lies in memory
mutual
  pub data NamedModel : Type 0 where
    predefined : Predefined → NamedModel
    enumeration : List (List ℕ × ℕ) → NamedModel
    array : ℕ → NamedModel → NamedModel
    sequence : ℕ → NamedModel → NamedModel
    components : ComponentModels → NamedModel
    choice : VariantModels → NamedModel

  -- the components of a record, with their names
  pub data ComponentModels : Type 0 where
    no_components : ComponentModels
    component_and : List ℕ → NamedModel → ComponentModels → ComponentModels

  -- the candidates of a choice, with their names and designators
  pub data VariantModels : Type 0 where
    no_variants : VariantModels
    variant_and : List ℕ → ℕ → NamedModel → VariantModels → VariantModels

-- the members of an enumeration
abbrev pub members_seen : List (Vec ℕ × ℕ) → List (List ℕ × ℕ)
members_seen members = map (λ m. (m.0.items, m.1)) members

-- parts whose types are seen already
abbrev pub components_seen : List (Vec ℕ × NamedModel) → ComponentModels
components_seen [] = no_components
components_seen (c ∷ cs) = component_and c.0.items c.1 (components_seen cs)

abbrev pub variants_seen : List (Vec ℕ × (ℕ × NamedModel)) → VariantModels
variants_seen [] = no_variants
variants_seen (v ∷ vs) = variant_and v.0.items v.1.0 v.1.1 (variants_seen vs)

-- one level, where the types inside are seen already
abbrev pub named_level : Named-F NamedModel → NamedModel
named_level (Named-F.Predefined type) = NamedModel.predefined type
named_level (Named-F.Enumeration members) = NamedModel.enumeration (members_seen members.items)
named_level (Named-F.Array n element) = NamedModel.array n element.value
named_level (Named-F.Sequence most element) = NamedModel.sequence most element.value
named_level (Named-F.Record parts) = NamedModel.components (components_seen parts.items)
named_level (Named-F.Choice parts) = NamedModel.choice (variants_seen parts.items)

-- what a type stands for, wherever it lies in memory
abbrev pub named_model : Named → NamedModel
named_model = fold-Named NamedModel named_level

abbrev pub component_models : List (Vec ℕ × Named) → ComponentModels
component_models [] = no_components
component_models (c ∷ cs) = component_and c.0.items (named_model c.1) (component_models cs)

abbrev pub variant_models : List (Vec ℕ × (ℕ × Named)) → VariantModels
variant_models [] = no_variants
variant_models (v ∷ vs) = variant_and v.0.items v.1.0 (named_model v.1.1) (variant_models vs)

-- the type has members, elements, components or candidates
abbrev pub HasParts : NamedModel → Type 0
HasParts (NamedModel.enumeration members) = 0 < length members
HasParts (NamedModel.array n element) = Unit {0}
HasParts (NamedModel.sequence most element) = Unit {0}
HasParts (NamedModel.components no_components) = ⊥
HasParts (NamedModel.components (component_and name part parts)) = Unit {0}
HasParts (NamedModel.choice no_variants) = ⊥
HasParts (NamedModel.choice (variant_and name designator part parts)) = Unit {0}
HasParts _ = ⊥

-- the shape of a named shape, without its names
abbrev mutual
  pub shape_of : NamedModel → ShapeModel
  shape_of (NamedModel.predefined type) = predefined_shape type
  shape_of (NamedModel.enumeration members) = ShapeModel.enumeration (map (λ m. m.1) members)
  shape_of (NamedModel.array n element) = ShapeModel.array n (shape_of element)
  shape_of (NamedModel.sequence most element) = ShapeModel.sequence most (shape_of element)
  shape_of (NamedModel.components parts) = ShapeModel.fields (shapes_of parts)
  shape_of (NamedModel.choice parts) = ShapeModel.choice (members_of parts)

  pub shapes_of : ComponentModels → ShapeModels
  shapes_of no_components = no_shapes
  shapes_of (component_and name part parts) = shape_and (shape_of part) (shapes_of parts)

  pub members_of : VariantModels → MemberModels
  members_of no_variants = no_members
  members_of (variant_and name designator part parts) = member_and designator (shape_of part) (members_of parts)
