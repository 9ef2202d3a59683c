use Rattle.std.proofs.Common.{arith}
use Rattle.hex.specs.Hex.{decode_sized}
use Rattle.xns_script.specs.Word.{hex_word_of}
use Rattle.xns_script.proofs.Hexes.{word_err, word_ok}
use Rattle.xns_script.proofs.words.read_hex_word.Goals as goal

pub returns-in-Ok : goal.returns-in-Ok
unfolding hex_word_of
returns-in-Ok c = rw c.from_be_bytes.ensures (word_ok (decode_sized c.args.digits.now 2) c.in-Ok.field-0 c.decode_to_slice.new.out c.in-Ok.ensures.value (omega arith))

pub returns-in-Err : goal.returns-in-Err
unfolding hex_word_of
returns-in-Err c = word_err (decode_sized c.args.digits.now 2) c.in-Err.field-0 c.decode_to_slice.new.out c.in-Err.ensures.value
