use Rattle.std.proofs.Common.{length, arith}
use Rattle.courier_types.specs.Value.{value_models}
use Rattle.courier_types.specs.Spelling.{values_spelling}
use Rattle.courier_types.proofs.Writes.{count_models, puts_behind, one_counted, one_written, others_short, keeps_on}
use Rattle.courier_types.proofs.writing.+write.Goals as goal

pub put_sequence-returns-clause-put : goal.put_sequence-returns-clause-put
put_sequence-returns-clause-put t c =
    rw (count_models c.args.values.now) (puts_behind c.put_values.result c.args.out.now c.put_word.new.out c.put_values.new.out (length c.args.values.now) (values_spelling (value_models c.args.values.now)) c.in_ok-put_word.ensures.put.0 c.in_ok-put_word.ensures.put.1 c.put_word.ensures.kept.2 c.put_values.ensures.put)

pub put_values-loop-value-preserved : goal.put_values-loop-value-preserved
put_values-loop-value-preserved t c = record {
  written = one_written _ _ _ _ _ _ c.value-item.is c.loop-value-test.true c.in_ok-put_value.ensures.put.0 c.loop-value.invariant.written;
  len = omega (arith, one_counted _ _ _ c.value-item.is c.loop-value-test.true, c.in_ok-put_value.ensures.put.1, c.loop-value.invariant.len);
  kept = keeps_on c.args.out.now c.loop-value.out c.put_value.new.out c.loop-value.invariant.kept c.put_value.ensures.kept;
  short = others_short _ _ _ c.value-item.is c.loop-value-test.true c.loop-value.invariant.short;
}

pub put_values-returns-in_err-put_value-clause-put : goal.put_values-returns-in_err-put_value-clause-put
put_values-returns-in_err-put_value-clause-put t c =
    rw c.from_residual.ensures (omega (arith, one_counted _ _ _ c.value-item.is c.loop-value-test.true, c.in_err-put_value.ensures.put, c.loop-value.invariant.len, c.loop-value.invariant.kept.2))

pub put_values-returns-in_err-put_value-clause-kept : goal.put_values-returns-in_err-put_value-clause-kept
put_values-returns-in_err-put_value-clause-kept t c =
    keeps_on c.args.out.now c.loop-value.out c.put_value.new.out c.loop-value.invariant.kept c.put_value.ensures.kept
