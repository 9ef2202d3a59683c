use Rattle.xns_calls.proofs.connection_key.ConnectionKey.of.Goals as goal

pub returns-then-gt-clause-formed : goal.returns-then-gt-clause-formed
returns-then-gt-clause-formed c = record { source = c.end_key_of-source.ensures.formed; target = c.end_key_of-target.ensures.formed }

pub returns-else-gt-clause-formed : goal.returns-else-gt-clause-formed
returns-else-gt-clause-formed c = record { source = c.end_key_of-source.ensures.formed; target = c.end_key_of-target.ensures.formed }
