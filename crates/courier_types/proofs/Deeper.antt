-- How deep parts are, as the loops find out.
use Rattle.std.proofs.Common.{◌≡◌, ℕ, ◌+◌, ◌-◌, ◌<◌, Bool, true, false, List, ◌∷◌, Vec, Global, length, drop, get_or, max, nat_lt, refl, ap, ◌∙◌, rules, arith}
use Rattle.std.specs.Prelude.{◌||◌}
use Rattle.courier_types.specs.declared.shape.Shape.{Shape, Choice}
use Rattle.courier_types.specs.Shape.{shape_model, shape_models, member_models}
use Rattle.courier_types.specs.Check.{depth, deepest, deepest_member}
use Rattle.courier_types.proofs.Loops.{model_choice, walk_on}

pub choice_depth : (v : Vec (ℕ × Shape) Global) → depth (shape_model (Choice v)) ≡ deepest_member (member_models v.items) + 1
choice_depth v = ap depth (model_choice v)

pub one_deeper : (limit below : ℕ) → (limit ≡ 0 → ⊥) → nat_lt (limit - 1) below ≡ nat_lt limit (below + 1)
one_deeper limit below some = grind arith

-- a list is as deep as its deepest item
pub record IsDeepest {X : Type 0} (deep : X → ℕ) (all : List X → ℕ) : Type 0 where
  pub first : (x : X) (xs : List X) → all (x ∷ xs) ≡ max (deep x) (all xs)

pub of_parts : IsDeepest (λ (part : Shape). depth (shape_model part)) (λ parts. deepest (shape_models parts))
of_parts = record { first = λ part parts. refl }

pub of_members : IsDeepest (λ (member : ℕ × Shape). depth (shape_model member.1)) (λ members. deepest_member (member_models members))
of_members = record { first = λ member members. refl }

over_either : (limit first others : ℕ) (found : Bool) → found ≡ nat_lt limit first → nat_lt limit (max first others) ≡ (found || nat_lt limit others)
over_either limit first others true h = search rules
over_either limit first others false h = search rules

-- an item was looked at, and is deeper than the limit or is not
pub looked_at : {X : Type 0} {deep : X → ℕ} {all : List X → ℕ} → IsDeepest deep all → (limit : ℕ) (xs : List X) (i : ℕ) (x : X) (found total : Bool)
    → x ≡ get_or xs i x → i < length xs → found ≡ nat_lt limit (deep x) → nat_lt limit (all (drop i xs)) ≡ total
    → (found || nat_lt limit (all (drop (i + 1) xs))) ≡ total
looked_at {X} {deep} {all} is limit xs i x found total here lt h so_far =
    let rest = drop (i + 1) xs in
    walk_on (λ (ys : List X). nat_lt limit (all ys)) xs i x (found || nat_lt limit (all rest)) total here lt
    (ap (λ (d : ℕ). nat_lt limit d) (is.first x rest) ∙ over_either limit (deep x) (all rest) found h) so_far
