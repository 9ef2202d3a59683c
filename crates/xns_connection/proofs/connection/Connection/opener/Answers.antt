use Rattle.std.proofs.Common.{◌∙◌, sym}
use Rattle.xns_connection.proofs.Ends.{named_opener}
use Rattle.xns_connection.proofs.connection.Connection.opener.Goals as goal

pub returns-in-Responder : goal.returns-in-Responder
returns-in-Responder c = named_opener c.args.self.now c.peer.result (sym c.role.ensures ∙ c.in-Responder.is) c.peer.ensures
