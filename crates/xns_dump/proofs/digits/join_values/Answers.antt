use Rattle.std.proofs.Common.{arith, ◌∙◌}
use Rattle.hex.proofs.HexLemmas.{decode_of-even}
use Rattle.hex.proofs.Pairs.{decode_done}
use Rattle.xns_dump.proofs.Pairs.{joined_step}
use Rattle.xns_dump.proofs.digits.join_values.Goals as goal

pub loop-i-preserved : goal.loop-i-preserved
loop-i-preserved c = λ digits same has.
    joined_step digits c.args.values.now c.loop-i.bytes _ _ c.loop-i.i c.from_le_bytes-pair.result same has (omega arith) (omega arith)
    c.as_chunks.ensures.front c.from_le_bytes-pair.ensures (c.loop-i.invariant digits same has)

pub returns : goal.returns
returns c = λ digits same has.
    decode_of-even digits (omega arith) ∙ decode_done digits c.loop-i.bytes c.loop-i.i (omega arith) (omega arith) (c.loop-i.invariant digits same has)
