use Rattle.std.proofs.Common.{inl, inr, rules}
use Rattle.xns_host.specs.Strays.{complains, forbears}
use Rattle.xns_host.proofs.strays.Strays.complain.Goals as goal

pub returns-in-Ok-Some : goal.returns-in-Ok-Some
returns-in-Ok-Some c = complains (search rules) (inl (search rules))

pub returns-in-Ok-None : goal.returns-in-Ok-None
returns-in-Ok-None c = forbears (search rules)

pub returns-in-Err : goal.returns-in-Err
returns-in-Err c = complains (search rules) (inr (search rules))
