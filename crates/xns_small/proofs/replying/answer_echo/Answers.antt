use Rattle.std.proofs.Common.{rules}
use Rattle.xns_small.specs.Echo.{echo_reply}
use Rattle.xns_small.proofs.replying.answer_echo.Goals as goal

pub returns-clause-answer : goal.returns-clause-answer
unfolding echo_reply
returns-clause-answer c = search rules
