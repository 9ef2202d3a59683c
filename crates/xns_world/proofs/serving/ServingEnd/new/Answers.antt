use Rattle.std.proofs.Common.{refl, ◌∙◌}
use Rattle.xns_world.proofs.ServingEnds.{served_first}
use Rattle.xns_world.proofs.serving.ServingEnd.new.Goals as goal

pub returns : goal.returns
returns g c =
    served_first g.S.Service.serving c.args.service _ _ c.in_ok-endpoint.ensures c.in_ok-server.ensures.stands c.new-2.ensures.items refl (c.new-4.ensures ∙ c.new-3.ensures.items) refl refl
