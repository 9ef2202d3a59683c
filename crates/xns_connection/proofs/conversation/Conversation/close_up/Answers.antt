use Rattle.xns_connection.specs.Moving.{drained_out, replied}
use Rattle.xns_connection.proofs.Scenes.{then_at}
use Rattle.xns_connection.proofs.conversation.Conversation.close_up.Goals as goal

pub returns-clause-at : goal.returns-clause-at
returns-clause-at c = λ s stands. then_at replied (then_at drained_out (c.say_end.ensures.at s stands) c.drain_out.ensures.at) c.say_reply.ensures.at
