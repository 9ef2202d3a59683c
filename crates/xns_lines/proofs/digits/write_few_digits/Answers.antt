use Rattle.std.proofs.Common.{◌∙◌, ap, ℕ, ◌/◌, ◌%◌, slice_index, arith}
use Rattle.hex.specs.Hex.{lower_digits}
use Rattle.hex.proofs.Pairs.{encode_step, encode_done}
use Rattle.xns_lines.proofs.FewDigits.{pair_of}
use Rattle.xns_lines.proofs.digits.write_few_digits.Goals as goal

pub loop-i-preserved : goal.loop-i-preserved
loop-i-preserved c =
    let pair = pair_of c.from-pair.result (omega arith) in
    encode_step lower_digits c.args.bytes.now c.loop-i.digits c.loop-i.i _ _ (omega arith) (omega arith)
    (pair.0 ∙ ap (λ (n : ℕ). slice_index lower_digits (n / 16)) c.from-pair.ensures)
    (pair.1 ∙ ap (λ (n : ℕ). slice_index lower_digits (n % 16)) c.from-pair.ensures) c.loop-i.invariant

pub returns : goal.returns
returns c = encode_done lower_digits _ _ c.loop-i.i (omega arith) (omega arith) c.loop-i.invariant
