use Rattle.std.proofs.Common.{arith}
use Rattle.xns_lines.proofs.WordsInHex.{spread_done, spread_step}
use Rattle.xns_lines.proofs.digits.spread.Goals as goal

pub loop-i-preserved : goal.loop-i-preserved
loop-i-preserved c =
    spread_step c.args.digits.now c.loop-i.text _ c.loop-i.i _ _ (omega arith) (omega arith) (omega arith) (omega arith) c.copy_from_slice.ensures.after c.loop-i.invariant

pub returns : goal.returns
returns c = spread_done c.args.digits.now _ c.loop-i.i (omega arith) (omega arith) c.loop-i.invariant
