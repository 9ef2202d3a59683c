use Rattle.std.proofs.Common.{◌≡◌, ◌∙◌, ap, arith, suc, ◌+◌, ◌<◌, ◌++◌, length, take, drop}
use Rattle.std.specs.Prelude.{slice_index_or, slice_set}
use Rattle.xns_calls.specs.Acknowledged.{nearer, one_nearer}
use Rattle.xns_calls.specs.declared.ahead.Ahead.{Ahead}
use Rattle.xns_calls.proofs.Delays.{one_more_nearer}
use Rattle.xns_calls.proofs.aheads.bring_nearer.Goals as goal

pub loop-ahead-preserved : goal.loop-ahead-preserved
loop-ahead-preserved c =
    let i = c.loop-ahead.ahead-index in
    let xs = c.args.kept.now in
    let none : Ahead = record { left = 0; number = 0 } in
    let next : suc i ≡ i + 1 = omega arith in
    let below : i < length xs = omega arith in
    ap (λ n. slice_set c.loop-ahead.kept i (record { left = n; number = (slice_index_or c.loop-ahead.kept i none).number })) c.saturating_sub-ahead.ensures
    ∙ ap (λ ys. slice_set ys i (one_nearer (slice_index_or ys i none))) c.loop-ahead.invariant
    ∙ one_more_nearer xs i none below
    ∙ ap (λ n. nearer (take n xs) ++ drop n xs) next
