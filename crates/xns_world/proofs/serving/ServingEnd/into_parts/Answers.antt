use Rattle.xns_world.specs.ServeEnd.{server_history}
use Rattle.xns_world.proofs.serving.ServingEnd.into_parts.Goals as goal

pub returns-clause-service : goal.returns-clause-service
returns-clause-service g c s F P heard = c.into_service.ensures.stands (server_history s F P) heard.session
