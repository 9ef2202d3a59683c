-- The shapes of parts, one after the other.
use Rattle.std.proofs.Common.{◌≡◌, ℕ, ◌≤◌, ◌<◌, List, [], ◌∷◌, length, take, map, Vec, Global, refl, sym, ap, ◌∙◌, rules, arith}
use Rattle.std.proofs.lemmas.List.{take_all}
use Rattle.courier_types.specs.declared.shape.Shape.{Shape, Enumeration as Words, the_lemmas}
use Rattle.courier_types.specs.Shape.{ShapeModel, shape_and, shapes_from, member_and, members_from, shape_model, shape_models, member_models}
use Rattle.courier_texts.specs.declared.named.Named.{Named, Enumeration, Record, Choice, the_lemmas as named_lemmas}
use Rattle.courier_texts.proofs.Printed.{named_record, named_choice}
use Rattle.courier_texts.specs.Named.{HasParts, NamedModel, named_model, members_seen, component_models, variant_models, shape_of, shapes_of, members_of}

-- the shape of a component
abbrev pub component_shape : Vec ℕ Global × Named → ShapeModel
component_shape part = shape_of (named_model part.1)

shapes_listed : (parts : List (Vec ℕ Global × Named)) → shapes_from (map component_shape parts) ≡ shapes_of (component_models parts)
shapes_listed [] = refl
shapes_listed (part ∷ parts) = ap (shape_and (component_shape part)) (shapes_listed parts)

pub all_shapes : (shapes : List Shape) (parts : List (Vec ℕ Global × Named)) (i : ℕ) → length parts ≤ i → map shape_model shapes ≡ map component_shape (take i parts) → shape_models shapes ≡ shapes_of (component_models parts)
all_shapes shapes parts i le so_far = ap shapes_from (so_far ∙ ap (map component_shape) (take_all i parts le)) ∙ shapes_listed parts

-- a member of the shape of a choice, of the shape and of the candidate
abbrev pub member_model : ℕ × Shape → ℕ × ShapeModel
member_model member = (member.0, shape_model member.1)

abbrev pub variant_member : Vec ℕ Global × (ℕ × Named) → ℕ × ShapeModel
variant_member part = (part.1.0, shape_of (named_model part.1.1))

members_listed : (parts : List (Vec ℕ Global × (ℕ × Named))) → members_from (map variant_member parts) ≡ members_of (variant_models parts)
members_listed [] = refl
members_listed (part ∷ parts) = ap (member_and part.1.0 (shape_of (named_model part.1.1))) (members_listed parts)

pub all_members : (members : List (ℕ × Shape)) (parts : List (Vec ℕ Global × (ℕ × Named))) (i : ℕ) → length parts ≤ i → map member_model members ≡ map variant_member (take i parts) → member_models members ≡ members_of (variant_models parts)
all_members members parts i le so_far = ap members_from (so_far ∙ ap (map variant_member) (take_all i parts le)) ∙ members_listed parts

-- ---- what shapes are seen as

pub words_seen : (members : List (Vec ℕ Global × ℕ)) → map (λ m. m.1) members ≡ map (λ m. m.1) (members_seen members)
words_seen [] = refl
words_seen (m ∷ ms) = ap (λ (ws : List ℕ). m.1 ∷ ws) (words_seen ms)

shape_words : (v : Vec ℕ Global) → shape_model (Words v) ≡ ShapeModel.enumeration v.items
shape_words v = search (rules, the_lemmas)

named_members : (v : Vec (Vec ℕ Global × ℕ) Global) → named_model (Enumeration v) ≡ NamedModel.enumeration (members_seen v.items)
named_members v = search (rules, named_lemmas)

-- the words of the members make the shape of their enumeration
pub enumeration_shape : (words : Vec ℕ Global) (members : Vec (Vec ℕ Global × ℕ) Global) → words.items ≡ map (λ m. m.1) members.items → shape_model (Words words) ≡ shape_of (named_model (Enumeration members))
enumeration_shape words members h =
    shape_words words ∙ ap ShapeModel.enumeration (h ∙ words_seen members.items) ∙ sym (ap shape_of (named_members members))

-- ---- a type with parts

pub has_components : (parts : List (Vec ℕ Global × Named)) → 0 < length parts → HasParts (NamedModel.components (component_models parts))
has_components [] h = absurd (omega arith)
has_components (p ∷ parts) h = tt

pub has_variants : (parts : List (Vec ℕ Global × (ℕ × Named))) → 0 < length parts → HasParts (NamedModel.choice (variant_models parts))
has_variants [] h = absurd (omega arith)
has_variants (p ∷ parts) h = tt

pub record_has_parts : (named : Named) (v : Vec (Vec ℕ Global × Named) Global) → named ≡ Record v → 0 < length v.items → HasParts (named_model named)
record_has_parts named v is some = rw (is, named_record v) (has_components v.items some)

pub choice_has_parts : (named : Named) (v : Vec (Vec ℕ Global × (ℕ × Named)) Global) → named ≡ Choice v → 0 < length v.items → HasParts (named_model named)
choice_has_parts named v is some = rw (is, named_choice v) (has_variants v.items some)
