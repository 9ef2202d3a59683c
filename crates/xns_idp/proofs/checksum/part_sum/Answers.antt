use Rattle.std.proofs.lemmas.Grind.{elements}
use Rattle.std.proofs.Common.{rules, refl, sym, ◌∙◌, ap, ◌+◌, ◌-◌, ◌%◌, ◌≡◌, ◌≤◌, ℕ, List, length, replicate, take, drop, subst, arith, Fits, w8, w16}
use Rattle.std.proofs.lemmas.List.{length-take}
use borrow.Rule.Slice.PartMut.{put_mid}
use Rattle.std.specs.Simd.Lanes.{Each1, Each2, zip2}
use Rattle.xns_idp.specs.Checksum.{words, sum_from}
use Rattle.std.proofs.lemmas.Simd.{chunk-fits, widens}
use Rattle.xns_idp.proofs.Lanes.{front_first, behind_zeros, front_fits, front_grows, add_block, none_left, no_block, same_lanes, lanes_fit, lanes_length, lanes_small, lanes_same}
use Rattle.xns_idp.proofs.checksum.part_sum.Goals as goal

pub loop-at-init : goal.loop-at-init
loop-at-init c =
    let bytes = c.args.bytes.now in
    let at = length bytes % 32 in
    let long : length (take at bytes) ≡ at = omega (arith, length-take at bytes) in
    let two : at % 2 ≡ 0 = omega (arith, c.requires.even) in
    let front = front_first _ at bytes two (omega arith) (behind_zeros at c.copy_from_slice.new.self (take at bytes) c.copy_from_slice.ensures.after long two (omega arith)) in
    record { within = omega arith; whole = omega arith; lanes = search rules; small = search rules; same = no_block _ (drop at bytes) ∙ ap (λ (n : ℕ). n % 65535) front }

pub overflow_cast-lanes : goal.overflow_cast-lanes
overflow_cast-lanes c = widens w8 w16 (omega arith) _ (chunk-fits w8 c.loop-at.at 32 c.args.bytes.now c.type_inv.bytes)

pub overflow_add-lanes : goal.overflow_add-lanes
overflow_add-lanes c =
    lanes_fit c.loop-at.at c.loop-at.lanes c.args.bytes.now _ c.type_inv.bytes (same_lanes _ (λ x. refl) (take 32 (drop c.loop-at.at c.args.bytes.now)))
    (omega (arith, c.loop-at-test.true, c.requires.short)) c.loop-at.invariant.small

pub loop-at-preserved : goal.loop-at-preserved
loop-at-preserved c =
    let at = c.loop-at.at in
    let bytes = c.args.bytes.now in
    let so_far = c.loop-at.invariant in
    record {
      within = omega (arith, c.loop-at-test.true);
      whole = omega (arith, c.loop-at-test.true, so_far.whole);
      lanes = lanes_length at c.loop-at.lanes bytes _ (same_lanes _ (λ x. refl) (take 32 (drop at bytes))) c.loop-at-test.true so_far.lanes;
      small = lanes_small at c.loop-at.lanes bytes _ c.type_inv.bytes (same_lanes _ (λ x. refl) (take 32 (drop at bytes))) so_far.small;
      same = lanes_same at _ _ c.loop-at.lanes bytes _ (same_lanes _ (λ x. refl) (take 32 (drop at bytes))) c.loop-at-test.true so_far.lanes so_far.same;
    }

pub overflow_add-front : goal.overflow_add-front
overflow_add-front c =
    let front : List ℕ = put_mid (32 - length c.args.bytes.now % 32) (32 - (32 - length c.args.bytes.now % 32)) (replicate 32 0) c.copy_from_slice.new.self in
    let fits : Each1 (Fits w8) front = search rules in
    let within : c.loop-at.at ≤ 2048 = omega (arith, c.loop-at.invariant.within, c.requires.short) in
    subst (λ (xs : List ℕ). Each2 (λ a b. Fits w16 (a + b)) xs c.loop-at.lanes) (sym (same_lanes _ (λ x. refl) front)) (front_fits c.loop-at.at front c.loop-at.lanes fits c.loop-at.invariant.small within)

pub lane_sum-requires : goal.lane_sum-requires
lane_sum-requires c =
    let front : List ℕ = put_mid (32 - length c.args.bytes.now % 32) (32 - (32 - length c.args.bytes.now % 32)) (replicate 32 0) c.copy_from_slice.new.self in
    let fits : Each1 (Fits w8) front = search rules in
    let within : c.loop-at.at ≤ 2048 = omega (arith, c.loop-at.invariant.within, c.requires.short) in
    subst (λ (xs : List ℕ). Each1 {A = ℕ} (λ x. x ≤ 16640) (zip2 (λ a b. a + b) xs c.loop-at.lanes)) (sym (same_lanes _ (λ x. refl) front)) (front_grows c.loop-at.at front c.loop-at.lanes fits c.loop-at.invariant.small within)

pub returns-clause-sum : goal.returns-clause-sum
returns-clause-sum c =
    let at = c.loop-at.at in
    let bytes = c.args.bytes.now in
    let front : List ℕ = put_mid (32 - length c.args.bytes.now % 32) (32 - (32 - length c.args.bytes.now % 32)) (replicate 32 0) c.copy_from_slice.new.self in
    let lanes = c.loop-at.lanes in
    let so_far = c.loop-at.invariant in
    c.lane_sum.ensures.sum
    ∙ ap (λ (xs : List ℕ). sum_from 0 (words (zip2 (λ a b. a + b) xs lanes)) % 65535) (same_lanes _ (λ x. refl) front)
    ∙ add_block 0 front lanes (omega arith) so_far.lanes
    ∙ sym (none_left _ at bytes (omega (arith, c.loop-at-test.false, so_far.whole, so_far.within)))
    ∙ so_far.same

pub overflow_cast-front : goal.overflow_cast-front
overflow_cast-front c = grind (arith, elements)
