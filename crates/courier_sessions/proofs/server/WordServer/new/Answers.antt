use Rattle.std.proofs.Common.{false, None}
use Rattle.courier_sessions.proofs.server.WordServer.new.Goals as goal

pub returns : goal.returns
returns c = λ i. record {
  programs = c.args.programs.items;
  phase = c.new.ensures i;
  out = c.in_ok-versions.ensures i;
  failed = false;
  call = None;
  asked = None;
}
