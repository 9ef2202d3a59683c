use Rattle.std.proofs.Common.{◌∙◌, sym}
use Rattle.xns_connection.proofs.Scenes.{none_drains}
use Rattle.xns_connection.proofs.conversation.Conversation.drain_out.Goals as goal

pub returns-then-waiting-eq0-clause-at : goal.returns-then-waiting-eq0-clause-at
returns-then-waiting-eq0-clause-at c = λ s stands. none_drains c.args.self.now s (sym (c.waiting.ensures s stands) ∙ c.if-waiting-eq0.true) stands
