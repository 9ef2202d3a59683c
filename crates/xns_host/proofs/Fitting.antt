-- Where no setting is out of its range, each is in its range.
use Rattle.std.proofs.Common.{◌≡◌, ◌≤◌, None, arith}
use Rattle.xns_host.specs.Settings.{IsFit, most_connections, most_patience, most_strays, wrong_setting}
use Rattle.xns_host.specs.declared.settings.Settings.{Settings}

pub fit_of : (s : Settings) → wrong_setting s ≡ None → IsFit s
fit_of s none =
    let connections : (1 ≤ s.connections) × (s.connections ≤ most_connections) = (grind arith, grind arith) in
    let least : (1 ≤ s.least_wait) × (s.least_wait ≤ s.first_wait) = (grind arith, grind arith) in
    let patience : (1 ≤ s.patience) × (s.patience ≤ most_patience) = (grind arith, grind arith) in
    let strays : (1 ≤ s.strays) × (s.strays ≤ most_strays) = (grind arith, grind arith) in
    record {
      some_connections = connections.0;
      connections = connections.1;
      window = (grind arith, grind arith);
      backlog = (grind arith, grind arith);
      first_wait = grind arith;
      longest_wait = grind arith;
      some_least_wait = least.0;
      least_wait = least.1;
      tries = grind arith;
      some_patience = patience.0;
      patience = patience.1;
      some_strays = strays.0;
      strays = strays.1;
    }
