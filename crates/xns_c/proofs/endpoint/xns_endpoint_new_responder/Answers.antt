use Rattle.std.proofs.Common.{rules}
use Rattle.xns_c.proofs.endpoint.xns_endpoint_new_responder.Goals as goal

pub responder-requires-clause-window : goal.responder-requires-clause-window
responder-requires-clause-window c = search rules

pub returns-in-Err-clause-bad : goal.returns-in-Err-clause-bad
returns-in-Err-clause-bad c = search rules
