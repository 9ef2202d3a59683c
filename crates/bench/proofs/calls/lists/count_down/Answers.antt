use Rattle.std.proofs.Common.{◌≡◌, ◌+◌, ◌-◌, arith}
use Rattle.bench.specs.Lists.{counted}
use Rattle.bench.proofs.Counts.{one_more, no_more}
use Rattle.bench.proofs.calls.lists.count_down.Goals as goal

pub loop-left-preserved : goal.loop-left-preserved
loop-left-preserved c =
    let n = c.loop-left.left in
    let some = c.loop-left-test.true in
    let k : n ≡ (n - 1) + 1 = omega (arith, some) in
    one_more c.loop-left.values.items c.push.new.self.items n (n - 1) (counted c.args.count) k c.in_ok-push.ensures.items c.loop-left.invariant

pub returns : goal.returns
returns c =
    let n = c.loop-left.left in
    let none = c.loop-left-test.false in
    let k : n ≡ 0 = omega (arith, none) in
    no_more c.loop-left.values.items n (counted c.args.count) k c.loop-left.invariant
