use Rattle.xns_connection.proofs.connection.Connection.go_on.Goals as goal

pub invariant_of-self-clause-stands : goal.invariant_of-self-clause-stands
invariant_of-self-clause-stands c = c.settled.ensures.stands
