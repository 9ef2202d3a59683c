-- All of a host but its clock.
use Rattle.std.specs.Prelude.{ℕ, List}
use Rattle.xns_host.specs.Places.{Places}
use Rattle.xns_host.specs.Strays.{StrayQueue}
use Rattle.xns_host.specs.declared.register.Register.{Register}
use Rattle.xns_host.specs.declared.services.Services.{Services}
use Rattle.xns_host.specs.declared.settings.Settings.{Settings}

pub record Whole : Type 0 where
  pub network : ℕ
  pub host : List ℕ
  pub settings : Settings
  pub services : Services
  pub register : Register
  pub strays : StrayQueue
  pub places : Places
