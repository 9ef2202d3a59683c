-- The text of outcomes.
use Rattle.std.proofs.Common.{◌≡◌, ◌∙◌, ap, sym, arith, ℕ, ◌+◌, ◌<◌, List, [], ◌∷◌, ◌++◌, append_assoc, append-nil, add-zero, length, map, take, get_or}
use Rattle.std.proofs.lemmas.List.{length-map, length-take-le, map_more}
use Rattle.courier_calls.specs.declared.call.Seen.{Seen}
use Rattle.courier_calls.specs.Calls.{SeenModel, seen_model}
use Rattle.xns_sim.specs.Sim.Trace.{outcome_line, outcome_lines}

pub outcome_lines-append : (k : ℕ) (seen : List SeenModel) (last : SeenModel) → outcome_lines k (seen ++ last ∷ []) ≡ outcome_lines k seen ++ outcome_line (k + length seen) last
outcome_lines-append k [] last = append-nil (outcome_line k last) ∙ ap (λ n. outcome_line n last) (sym (add-zero k))
outcome_lines-append k (s ∷ seen) last =
    let e : (k + 1) + length seen ≡ k + length (s ∷ seen) = omega arith in
    ap (λ t. outcome_line k s ++ t) (outcome_lines-append (k + 1) seen last ∙ ap (λ n. outcome_lines (k + 1) seen ++ outcome_line n last) e)
    ∙ sym (append_assoc (outcome_line k s) (outcome_lines (k + 1) seen) (outcome_line (k + length (s ∷ seen)) last))

-- where i outcomes are written and the next one follows, i + 1 outcomes are written
pub outcome_more : (front before after : List ℕ) (seen : List Seen) (i : ℕ) (x : Seen) → i < length seen → x ≡ get_or seen i x
    → before ≡ front ++ outcome_lines 1 (map seen_model (take i seen)) → after ≡ before ++ outcome_line (i + 1) (seen_model x)
    → after ≡ front ++ outcome_lines 1 (map seen_model (take (i + 1) seen))
outcome_more front before after seen i x lt here so_far e =
    let at : i + 1 ≡ 1 + length (map seen_model (take i seen)) = omega (arith, length-map (take i seen) seen_model, length-take-le i seen (omega arith)) in
    e ∙ ap (λ t. t ++ outcome_line (i + 1) (seen_model x)) so_far
    ∙ append_assoc front (outcome_lines 1 (map seen_model (take i seen))) (outcome_line (i + 1) (seen_model x))
    ∙ ap (λ t. front ++ t)
    (ap (λ n. outcome_lines 1 (map seen_model (take i seen)) ++ outcome_line n (seen_model x)) at
    ∙ sym (outcome_lines-append 1 (map seen_model (take i seen)) (seen_model x))
    ∙ ap (λ s. outcome_lines 1 (map seen_model (take i seen) ++ s ∷ [])) (ap seen_model here)
    ∙ ap (outcome_lines 1) (sym (map_more seen_model seen i x lt)))
