use Rattle.xns_calls.proofs.Agreeing.{agree, wanted}
use Rattle.xns_calls.proofs.naming.name_call.Goals as goal

pub returns-in-Some-clause-exact : goal.returns-in-Some-clause-exact
returns-in-Some-clause-exact c = rw c.in-Some.is (agree c.call_text.result _ c.shown.result c.call_text.ensures.exact c.shown.ensures.exact)

pub returns-in-Some-clause-memory : goal.returns-in-Some-clause-memory
returns-in-Some-clause-memory c = rw c.in-Some.is (wanted _ c.call_text.result c.shown.result c.call_text.ensures.memory c.shown.ensures.memory)
