-- Types that are made of parts, as they are seen.
use Rattle.std.proofs.Common.{◌≡◌, ℕ, List, [], ◌∷◌, Vec, Global, refl, ap, ◌∙◌}
use Rattle.courier_texts.specs.declared.named.Named.{Named, Record, Choice}
use Rattle.courier_texts.specs.Named.{NamedModel, component_and, variant_and, component_models, variant_models, named_model}
use Rattle.courier_texts.proofs.Printed.{named_choice, named_record}
use Rattle.courier_programs.specs.Meanings.{components_seen, components_from}
use Rattle.courier_programs.specs.Types.{candidates_seen, variants_from}

pub components_are : (xs : List (Vec ℕ Global × Named)) → component_models xs ≡ components_from (components_seen xs)
components_are [] = refl
components_are (x ∷ xs) = ap (component_and x.0.items (named_model x.1)) (components_are xs)

pub model_record : (v : Vec (Vec ℕ Global × Named) Global) → named_model (Record v) ≡ NamedModel.components (components_from (components_seen v.items))
model_record v = named_record v ∙ ap NamedModel.components (components_are v.items)

variants_are : (xs : List (Vec ℕ Global × (ℕ × Named))) → variant_models xs ≡ variants_from (candidates_seen xs)
variants_are [] = refl
variants_are (x ∷ xs) = ap (variant_and x.0.items x.1.0 (named_model x.1.1)) (variants_are xs)

pub model_choice : (v : Vec (Vec ℕ Global × (ℕ × Named)) Global) → named_model (Choice v) ≡ NamedModel.choice (variants_from (candidates_seen v.items))
model_choice v = named_choice v ∙ ap NamedModel.choice (variants_are v.items)
