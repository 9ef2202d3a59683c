use Rattle.xns_calls.proofs.Agreeing.{agree, wanted}
use Rattle.xns_calls.proofs.naming.name_abort.Goals as goal

pub returns-in-Some-Some-clause-exact : goal.returns-in-Some-Some-clause-exact
returns-in-Some-Some-clause-exact c = rw (c.in-Some-Some.is-0, c.in-Some-Some.is-1) (agree c.abort_text.result _ c.shown.result c.abort_text.ensures.exact c.shown.ensures.exact)

pub returns-in-Some-Some-clause-memory : goal.returns-in-Some-Some-clause-memory
returns-in-Some-Some-clause-memory c = rw (c.in-Some-Some.is-0, c.in-Some-Some.is-1) (wanted _ c.abort_text.result c.shown.result c.abort_text.ensures.memory c.shown.ensures.memory)
