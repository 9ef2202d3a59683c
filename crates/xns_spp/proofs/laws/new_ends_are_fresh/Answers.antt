use Rattle.std.proofs.Common.{refl}
use Rattle.xns_spp.specs.Growth.{IsFresh}
use Rattle.xns_spp.specs.State.{new_state}
use Rattle.xns_spp.specs.declared.ends.Ends.{Ends}
use Rattle.xns_spp.proofs.laws.new_ends_are_fresh.Goals as goal

fresh : (ends : Ends) → IsFresh (new_state ends)
fresh ends = record { accepted = refl; acknowledged = refl; sent = refl; allowed = refl; taken = refl; early = λ k. refl; handed = refl }

pub returns : goal.returns
returns c = record { initiator = λ own peer id window backlog. fresh _; responder = λ own peer id peer_id window backlog. fresh _ }
