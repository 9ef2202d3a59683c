use Rattle.std.proofs.Common.{false, None}
use Rattle.courier_sessions.proofs.caller.WordCaller.new.Goals as goal

pub returns : goal.returns
returns c = λ i. record {
  phase = c.new.ensures i;
  out = c.in_ok-versions.ensures i;
  failed = false;
  transaction = 0;
  waiting = false;
  outcome = None;
}
