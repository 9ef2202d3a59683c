use Rattle.xns_world.proofs.ServeBounds.{settled}
use Rattle.xns_world.proofs.laws.serving.served_ends_settle.Goals as goal

pub returns : goal.returns
returns g c s v can fits items = settled g.S.Service.serving s v (c.server_laws_are_given.ensures s can) (record { fits = fits; items = items })
