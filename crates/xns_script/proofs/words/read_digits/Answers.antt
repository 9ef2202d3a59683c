use Rattle.std.proofs.Common.{◌∙◌, arith}
use Rattle.xns_script.proofs.Numbers.{one_more, small, value_more}
use Rattle.xns_script.proofs.words.read_digits.Goals as goal

pub overflow_mul-number : goal.overflow_mul-number
overflow_mul-number c =
    omega (arith, small c.args.word.now c.loop-byte.byte-index c.loop-byte.number c.requires c.loop-byte.invariant.0 c.loop-byte.invariant.1)

pub overflow_add-number : goal.overflow_add-number
overflow_add-number c =
    omega (arith, small c.args.word.now c.loop-byte.byte-index c.loop-byte.number c.requires c.loop-byte.invariant.0 c.loop-byte.invariant.1, c.in-Some.ensures.0, c.in-Some.ensures.1, c.from.ensures)

pub loop-byte-preserved : goal.loop-byte-preserved
loop-byte-preserved c =
    let i = c.loop-byte.byte-index in (
      one_more c.args.word.now i (omega arith) c.loop-byte.invariant.0 c.in-Some.ensures.0,
      value_more c.args.word.now i c.loop-byte.number _ (omega arith) c.loop-byte.invariant.1 (c.from.ensures ∙ c.in-Some.ensures.1),
    )
