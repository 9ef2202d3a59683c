use Rattle.std.proofs.Common.{◌∙◌, sym}
use Rattle.xns_connection.specs.Giving.{giving}
use Rattle.xns_spp.proofs.Steps.{on_err}
use Rattle.xns_connection.proofs.Single.{single_gives, single_wanted}
use Rattle.xns_connection.proofs.conversation.Conversation.single_packet.Goals as goal

pub returns-in_err-packet-clause-memory : goal.returns-in_err-packet-clause-memory
returns-in_err-packet-clause-memory c = on_err c.from_residual.result _ (λ s stands.
    single_wanted (giving c.args.self.now c.args.owed.now s) (c.in_err-packet.ensures.memory s stands))

pub returns-clause-at : goal.returns-clause-at
returns-clause-at c = λ s stands.
    single_gives c.args.self.now (record c.args.self.now { endpoint = c.flush_single.new.self }) c.args.owed.now c.has_more-owed.result s c.in-Some.packet c.requires c.has_more-owed.ensures.value
    (sym c.in-Some.is ∙ c.in_ok-packet.ensures.answer s stands) (c.in_ok-packet.ensures.stands s stands)
