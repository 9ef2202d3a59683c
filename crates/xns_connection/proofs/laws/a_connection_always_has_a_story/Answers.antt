use Rattle.xns_connection.proofs.Lives.{lived}
use Rattle.xns_connection.proofs.laws.a_connection_always_has_a_story.Goals as goal

pub returns : goal.returns
returns c = λ programs start conversation deeds lives. lived programs start lives
