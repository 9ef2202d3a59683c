use Rattle.std.proofs.Common.{rules}
use Rattle.xns_connection.proofs.Scenes.{settled_at}
use Rattle.xns_connection.proofs.conversation.Conversation.settle.Goals as goal

pub returns-clause-settles : goal.returns-clause-settles
returns-clause-settles c = λ s stands.
    settled_at c.args.self.now c.converse-moved.new.self c.mark.new.self c.close_up.new.self s c.converse-moved.result (c.converse-moved.ensures.moves s stands)
    c.mark.ensures.good c.mark.ensures.given_up (λ starved. absurd (search rules)) c.close_up.ensures.at
