use Rattle.xns_connection.proofs.Steps.{same_history}
use Rattle.xns_connection.proofs.connection.Connection.new.Goals as goal

pub invariant_of-result-clause-stands : goal.invariant_of-result-clause-stands
invariant_of-result-clause-stands c = same_history _ _ c.new-conversation.ensures.endpoint c.requires.0
