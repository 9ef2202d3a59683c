use Rattle.std.proofs.Common.{◌≡◌, ◌+◌, ◌≤◌, ◌%◌, ℕ, List, [], ◌∷◌, take, drop, length, sym, ap, ◌∙◌, arith}
use Rattle.std.proofs.lemmas.List.{take-append-drop, length-take, length-drop}
use Rattle.xns_idp.specs.Checksum.{words, sum_from}
use Rattle.xns_idp.proofs.Lanes.{length_words, rounds}
use Rattle.xns_idp.proofs.Sums.{from_nothing, goes_on, sum_from-mod, sum_from-append, words-append, cycle_checksum-is}
use Rattle.xns_idp.proofs.checksum.cycle_sum.Goals as goal

-- the front, and then the chunks
first : (sum at : ℕ) (bytes front left : List ℕ) → at % 2 ≡ 0 → at ≤ length bytes → front ≡ take at bytes → left ≡ drop at bytes → sum ≡ sum_from 0 (words front) % 65535
    → sum_from sum (words left) % 65535 ≡ sum_from 0 (words bytes) % 65535
first sum at bytes front left two within ef el es =
    let even : length (take at bytes) % 2 ≡ 0 = omega (arith, length-take at bytes, two, within) in
    ap (λ (n : ℕ). sum_from n (words left) % 65535) (es ∙ ap (λ (xs : List ℕ). sum_from 0 (words xs) % 65535) ef)
    ∙ ap (λ (xs : List ℕ). sum_from (sum_from 0 (words (take at bytes)) % 65535) (words xs) % 65535) el
    ∙ goes_on 0 (take at bytes) (drop at bytes) even
    ∙ ap (λ (xs : List ℕ). sum_from 0 (words xs) % 65535) (take-append-drop at bytes)

-- a chunk, and then the rest
step : (sum part total : ℕ) (left chunk rest : List ℕ) → 2048 ≤ length left → chunk ≡ take 2048 left → rest ≡ drop 2048 left → part ≡ sum_from 0 (words chunk) % 65535
    → sum_from sum (words left) % 65535 ≡ total → sum_from ((sum + part) % 65535) (words rest) % 65535 ≡ total
step sum part total left chunk rest long ec er ep so_far =
    let whole : length (take 2048 left) ≡ 2048 = omega (arith, length-take 2048 left, long) in
    let ws = words (take 2048 left) in
    let round = rounds 64 sum ws (length_words 1024 (take 2048 left) whole) in
    let same : part ≡ sum_from 0 ws % 65535 = ep ∙ ap (λ (xs : List ℕ). sum_from 0 (words xs) % 65535) ec in
    sum_from-mod ((sum + part) % 65535) (sum_from sum ws) (words rest) (omega (arith, round, same))
    ∙ ap (λ (xs : List ℕ). sum_from (sum_from sum ws) (words xs) % 65535) er
    ∙ ap (λ (n : ℕ). n % 65535) (sym (sum_from-append sum ws (words (drop 2048 left))))
    ∙ ap (λ (v : List ℕ). sum_from sum v % 65535) (sym (words-append (take 2048 left) (drop 2048 left) (omega (arith, whole))) ∙ ap words (take-append-drop 2048 left))
    ∙ so_far

no_more : (sum : ℕ) (left : List ℕ) → length left ≡ 0 → sum_from sum (words left) ≡ sum
no_more sum [] e = from_nothing sum
no_more sum (x ∷ xs) e = absurd (omega (arith, e))

pub loop-left-init : goal.loop-left-init
loop-left-init c =
    let bytes = c.args.bytes.now in
    let at = length bytes % 2048 in
    record {
      small = c.part_sum-sum.ensures.below;
      whole = omega (arith, ap (λ (xs : List ℕ). length xs) c.split_at.ensures.back, length-drop at bytes);
      same = first c.part_sum-sum.result at bytes c.split_at.result.0.now c.split_at.result.1.now (omega (arith, c.requires)) (omega arith) c.split_at.ensures.front c.split_at.ensures.back c.part_sum-sum.ensures.sum;
    }

pub loop-left-preserved : goal.loop-left-preserved
loop-left-preserved c =
    let s = c.split_at-in-loop-left in
    let left = c.loop-left.left.now in
    record {
      small = omega arith;
      whole = omega (arith, c.loop-left.invariant.whole, c.loop-left-test.true, ap (λ (xs : List ℕ). length xs) s.ensures.back, length-drop 2048 left);
      same = step c.loop-left.sum c.part_sum.result _ left s.result.0.now s.result.1.now c.loop-left-test.true s.ensures.front s.ensures.back c.part_sum.ensures.sum c.loop-left.invariant.same;
    }

pub returns : goal.returns
returns c =
    let so_far = c.loop-left.invariant in
    let left = c.loop-left.left.now in
    omega (arith, so_far.small, no_more c.loop-left.sum left (omega (arith, so_far.whole, c.loop-left-test.false)), so_far.same, cycle_checksum-is (words c.args.bytes.now))
