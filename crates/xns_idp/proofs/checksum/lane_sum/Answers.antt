use Rattle.std.proofs.Common.{◌≡◌, ◌+◌, ◌*◌, ◌%◌, ℕ, List, refl, sym, ap, ◌∙◌, subst, arith, Fits, w32}
use Rattle.std.specs.Simd.Lanes.{Each2, Steps, fold_l, products, sum_l}
use Rattle.std.proofs.lemmas.Simd.{fold-sum, sum_fits}
use Rattle.xns_idp.proofs.Lanes.{weights, same_lanes, lanes_weigh, weigh_below, products_fit}
use Rattle.xns_idp.proofs.checksum.lane_sum.Goals as goal

pub overflow_mul-weighed : goal.overflow_mul-weighed
overflow_mul-weighed c =
    let xs = c.args.lanes in
    subst (λ (ys : List ℕ). Each2 (λ x w. Fits w32 (x * w)) ys weights) (sym (same_lanes _ (λ x. refl) xs)) (products_fit xs weights (weigh_below xs c.requires))

pub overflow_add-result : goal.overflow_add-result
overflow_add-result c =
    let xs = c.args.lanes in
    subst (λ (ys : List ℕ). Steps (λ s x. Fits w32 (s + x)) (λ s x. s + x) 0 (products ys weights)) (sym (same_lanes _ (λ x. refl) xs))
    (sum_fits w32 0 (products xs weights) (omega (arith, weigh_below xs c.requires)))

pub returns-clause-sum : goal.returns-clause-sum
returns-clause-sum c =
    let xs = c.args.lanes in
    let sum : fold_l (λ s x. s + x) 0 (products xs weights) ≡ sum_l (products xs weights) = omega (arith, fold-sum 0 (products xs weights)) in
    ap (λ (n : ℕ). n % 65535) (ap (λ (ys : List ℕ). fold_l (λ s x. s + x) 0 (products ys weights)) (same_lanes _ (λ x. refl) xs) ∙ sum) ∙ lanes_weigh xs c.fits-lanes.0
