use Rattle.std.proofs.Common.{rules}
use Rattle.xns_calls.proofs.telling.answer.Goals as goal

pub returns-in-Some-clause-call : goal.returns-in-Some-clause-call
returns-in-Some-clause-call c = search rules

pub returns-in-Some-clause-left : goal.returns-in-Some-clause-left
returns-in-Some-clause-left c = search rules

pub returns-in_default-clause-call : goal.returns-in_default-clause-call
returns-in_default-clause-call c = search rules

pub returns-in_default-clause-left : goal.returns-in_default-clause-left
returns-in_default-clause-left c = search rules

pub returns-in_default-2-clause-call : goal.returns-in_default-2-clause-call
returns-in_default-2-clause-call c = search rules

pub returns-in_default-2-clause-left : goal.returns-in_default-2-clause-left
returns-in_default-2-clause-left c = search rules
