use Rattle.std.proofs.Common.{ap, refl, rules, sym}
use Rattle.xns_c.specs.Hosts.{whether}
use Rattle.xns_c.proofs.kept_host.KeptHost.receive.Goals as goal

pub returns-else-receive : goal.returns-else-receive
returns-else-receive c = record {
  ours = c.receive.result;
  told = sym (ap whether c.if-receive.false);
  takes = c.receive.ensures.takes;
  kept = search rules;
}

pub returns-then-receive : goal.returns-then-receive
returns-then-receive c = record {
  ours = c.receive.result;
  told = sym (ap whether c.if-receive.true);
  takes = c.receive.ensures.takes;
  kept = record { event = refl; packet = refl };
}
