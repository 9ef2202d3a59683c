use Rattle.std.proofs.Common.{OnErr, subst}
use Rattle.xns_spp.specs.Held.{StandsFor}
use Rattle.xns_spp.specs.Receiving.{NeedsMemory}
use Rattle.xns_spp.specs.State.{State}
use Rattle.xns_c.specs.KeptEndpoint.{KeptEndpoint}
use Rattle.xns_c.proofs.connection.Connection.receive.Goals as goal

pub returns-clause-memory : goal.returns-clause-memory
returns-clause-memory c =
    subst (λ (l : KeptEndpoint). OnErr c.receive.result ((s : State) → StandsFor l.endpoint s → NeedsMemory s c.args.bytes.now)) c.self.view_is c.receive.ensures.memory
