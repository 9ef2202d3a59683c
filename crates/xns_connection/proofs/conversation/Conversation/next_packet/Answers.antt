use Rattle.xns_spp.proofs.Steps.{on_err}
use Rattle.xns_connection.specs.Giving.{at_first, giving, older}
use Rattle.xns_connection.proofs.Nexts.{next_at, next_short, next_wanted, none_older, older_wanted}
use Rattle.xns_connection.proofs.conversation.Conversation.next_packet.Goals as goal

pub returns-clause-at : goal.returns-clause-at
returns-clause-at c =
    next_at c.newer_packet.result c.args.self.now c.older_packet.new.self c.newer_packet.new.self c.args.owed.now c.older_packet.new.owed c.newer_packet.new.owed
    (none_older c.args.self.now _ c.args.owed.now _ c.in_default.is c.in_ok-packet.ensures.at) c.newer_packet.ensures.at

pub returns-clause-short : goal.returns-clause-short
returns-clause-short c =
    next_short c.newer_packet.result c.args.self.now c.older_packet.new.self c.newer_packet.new.self c.args.owed.now c.older_packet.new.owed c.newer_packet.new.owed
    (none_older c.args.self.now _ c.args.owed.now _ c.in_default.is c.in_ok-packet.ensures.at) c.newer_packet.ensures.short

pub returns-in_err-packet-clause-short : goal.returns-in_err-packet-clause-short
returns-in_err-packet-clause-short c =
    on_err c.from_residual.result _ (λ s stands. (giving c.args.self.now c.args.owed.now s, at_first, c.in_err-packet.ensures.stays s stands))

pub returns-clause-memory : goal.returns-clause-memory
returns-clause-memory c =
    next_wanted c.newer_packet.result c.args.self.now c.older_packet.new.self c.args.owed.now c.older_packet.new.owed
    (none_older c.args.self.now _ c.args.owed.now _ c.in_default.is c.in_ok-packet.ensures.at) c.newer_packet.ensures.memory

pub returns-in_err-packet-clause-memory : goal.returns-in_err-packet-clause-memory
returns-in_err-packet-clause-memory c = on_err c.from_residual.result _ (λ s stands.
    let y = older (giving c.args.self.now c.args.owed.now s) in
    older_wanted y.0 y.1 (c.in_err-packet.ensures.memory s stands))
