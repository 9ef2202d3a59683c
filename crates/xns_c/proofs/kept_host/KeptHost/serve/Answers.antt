use Rattle.std.proofs.Common.{refl}
use Rattle.xns_c.proofs.kept_host.KeptHost.serve.Goals as goal

pub returns : goal.returns
returns c = record {
  answer = c.serve.result;
  told = c.host_told.ensures;
  serves = c.serve.ensures.serves;
  refused = c.serve.ensures.refused;
  kept = record { event = refl; packet = refl };
}
