use Rattle.courier_messages.proofs.MessageWords.{reads_spelled}
use Rattle.courier_messages.proofs.reading.read_message.Goals as goal

pub returns-clause-spells : goal.returns-clause-spells
returns-clause-spells c = reads_spelled c.read_exactly.result c.args.bytes.now c.known_bytes.ensures c.read_exactly.ensures.exact
