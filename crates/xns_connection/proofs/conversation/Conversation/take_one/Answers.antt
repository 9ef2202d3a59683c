use Rattle.std.proofs.Common.{◌∙◌}
use Rattle.xns_connection.proofs.Tellings.{beside, same_drains}
use Rattle.xns_connection.proofs.conversation.Conversation.take_one.Goals as goal

pub returns-clause-drains : goal.returns-clause-drains
returns-clause-drains c =
    let t = c.args.self.now in
    let b = beside t.closing c.noted-self.result c.in-Some.item.stream c.noted-self.ensures in
    same_drains t.side t.closing c.noted-self.result b.end b.reply b.deaf ∙ c.requires
