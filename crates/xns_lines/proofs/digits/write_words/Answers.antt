use Rattle.std.proofs.Common.{arith, ◌∙◌, ap}
use Rattle.hex.specs.Hex.{encode_lower}
use Rattle.xns_lines.proofs.WordsInHex.{word_written, words_written}
use Rattle.xns_lines.proofs.digits.write_words.Goals as goal

pub loop-i-preserved : goal.loop-i-preserved
loop-i-preserved c =
    word_written c.args.words.now c.loop-i.text c.write_few_digits.new.digits c.loop-i.i _ _ c.loop-i-test.true (omega arith) (omega arith) (omega arith) (c.write_few_digits.ensures ∙ ap encode_lower c.to_be_bytes.ensures) c.loop-i.invariant

pub returns : goal.returns
returns c = words_written c.args.words.now _ c.loop-i.i (omega arith) (omega arith) c.loop-i.invariant
