-- Parts counted and appended.
use Rattle.std.proofs.Common.{◌≡◌, ◌≢◌, ℕ, zero, suc, List, [], ◌∷◌, ◌++◌, drop, Vec, Global, Result, Ok, Err, OnErr, map, length, refl, sym, ap, ◌∙◌, append_assoc, arith}
use Rattle.std.specs.List.{flat_map}
use Rattle.courier_texts.specs.declared.named.Named.{Named}
use Rattle.courier_texts.specs.Named.{NamedModel, component_models, variant_models}
use Rattle.courier_programs.specs.Meanings.{ResolvedModel}
use Rattle.program_tables.specs.Tables.{NodeModel, component_count, component_nodes, error_nodes, meaning_nodes, table_node, procedure_nodes, program_nodes, type_nodes, variant_count, variant_nodes}
use Rattle.program_tables.specs.declared.node.NodeKind.TheVariants as kinds

pub components_counted : (xs : List (Vec ℕ Global × Named)) → component_count (component_models xs) ≡ length xs
components_counted [] = refl
components_counted (x ∷ xs) = let rest = components_counted xs in omega (arith, rest)

pub variants_counted : (xs : List (Vec ℕ Global × (ℕ × Named))) → variant_count (variant_models xs) ≡ length xs
variants_counted [] = refl
variants_counted (x ∷ xs) = let rest = variants_counted xs in omega (arith, rest)

-- ---- a record or a choice, in front of its parts

pub on_err : {A E P : Type 0} (r : Result A E) → P → OnErr r P
on_err (Ok v) p = tt
on_err (Err e) p = p

-- a node, and its parts behind it
behind_node : (old mid new parts : List NodeModel) (first : NodeModel) → mid ≡ old ++ first ∷ [] → new ≡ mid ++ parts → new ≡ old ++ (first ∷ parts)
behind_node old mid new parts first put rest = rest ∙ ap (λ ns. ns ++ parts) put ∙ append_assoc old (first ∷ []) parts

pub record_there : (old mid new : List NodeModel) (name : List ℕ) (cs : List (Vec ℕ Global × Named)) → mid ≡ old ++ table_node kinds.Record 0 (length cs) name ∷ [] → new ≡ mid ++ component_nodes (component_models cs)
    → new ≡ old ++ type_nodes name (NamedModel.components (component_models cs))
unfolding type_nodes
record_there old mid new name cs put rest =
    behind_node old mid new (component_nodes (component_models cs)) (table_node kinds.Record 0 (length cs) name) put rest
    ∙ ap (λ n. old ++ (table_node kinds.Record 0 n name ∷ component_nodes (component_models cs))) (sym (components_counted cs))

pub choice_there : (old mid new : List NodeModel) (name : List ℕ) (vs : List (Vec ℕ Global × (ℕ × Named))) → mid ≡ old ++ table_node kinds.Choice 0 (length vs) name ∷ [] → new ≡ mid ++ variant_nodes (variant_models vs)
    → new ≡ old ++ type_nodes name (NamedModel.choice (variant_models vs))
unfolding type_nodes
choice_there old mid new name vs put rest =
    behind_node old mid new (variant_nodes (variant_models vs)) (table_node kinds.Choice 0 (length vs) name) put rest
    ∙ ap (λ n. old ++ (table_node kinds.Choice 0 n name ∷ variant_nodes (variant_models vs))) (sym (variants_counted vs))

-- ---- a program that has a node

pub type_is_there : (name : List ℕ) (type : NamedModel) → type_nodes name type ≢ []
unfolding type_nodes
type_is_there name (NamedModel.predefined type) = λ e. absurd cc
type_is_there name (NamedModel.enumeration members) = λ e. absurd cc
type_is_there name (NamedModel.array n element) = λ e. absurd cc
type_is_there name (NamedModel.sequence most element) = λ e. absurd cc
type_is_there name (NamedModel.components parts) = λ e. absurd cc
type_is_there name (NamedModel.choice parts) = λ e. absurd cc

both_empty : {A : Type 0} (xs ys : List A) → xs ++ ys ≡ [] → (xs ≡ []) × (ys ≡ [])
both_empty [] ys e = (refl, e)
both_empty (x ∷ xs) ys e = absurd cc

-- a program has nodes where its meanings, or its errors, have some
pub meanings_are_nodes : (p : ResolvedModel) → flat_map meaning_nodes p.meanings ≢ [] → program_nodes p ≢ []
unfolding program_nodes
meanings_are_nodes p some = λ e. some (both_empty _ _ (both_empty _ (flat_map error_nodes p.errors) e).0).0

pub errors_are_nodes : (p : ResolvedModel) → flat_map error_nodes p.errors ≢ [] → program_nodes p ≢ []
unfolding program_nodes
errors_are_nodes p some = λ e. some (both_empty (flat_map meaning_nodes p.meanings ++ flat_map procedure_nodes p.procedures) _ e).1

-- where one has a part, the parts of all are not empty
pub one_of_them : {A B C : Type 0} (f : B → List C) (g : A → B) (xs : List A) (i : ℕ) (x : A) (rest : List A) → drop i xs ≡ x ∷ rest → f (g x) ≢ [] → flat_map f (map g xs) ≢ []
one_of_them f g [] zero x rest here some = λ e. absurd cc
one_of_them f g [] (suc i) x rest here some = λ e. absurd cc
one_of_them f g (y ∷ ys) zero x rest here some = λ e.
    let same : y ≡ x = cc in
    some (sym (ap (λ z. f (g z)) same) ∙ (both_empty (f (g y)) (flat_map f (map g ys)) e).0)
one_of_them f g (y ∷ ys) (suc i) x rest here some = λ e. one_of_them f g ys i x rest here some (both_empty (f (g y)) (flat_map f (map g ys)) e).1
