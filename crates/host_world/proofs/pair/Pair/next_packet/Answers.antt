use Rattle.std.proofs.Common.{◌≡◌, false}
use Rattle.xns_connection.specs.Connecting.{is_dead}
use Rattle.xns_connection.specs.Telling.{Rested}
use Rattle.xns_connection.specs.declared.connection.Connection.{Connection}
use Rattle.xns_connection.specs.Step.{GivesNext}
use Rattle.host_world.proofs.Paired.{at_side, one_waits, pair_gives_none, pair_gives_ok}
use Rattle.host_world.proofs.pair.Pair.next_packet.Goals as goal

pub returns-clause-gives : goal.returns-clause-gives
returns-clause-gives c =
    let k = c.a_connection_gives_what_it_made.ensures c.args.now c.next_packet.result c.at.result.now c.next_packet.new.self c.next_packet.ensures.step in
    pair_gives_ok c.args.self.now c.at.result.now c.next_packet.new.self c.args.side c.next_packet.result c.at.ensures.value k.gives

pub returns-clause-given_none : goal.returns-clause-given_none
returns-clause-given_none c =
    let k = c.a_connection_gives_what_it_made.ensures c.args.now c.next_packet.result c.at.result.now c.next_packet.new.self c.next_packet.ensures.step in
    pair_gives_none c.args.self.now c.at.result.now c.next_packet.new.self c.args.side c.next_packet.result c.at.ensures.value k.given_none

pub returns-clause-waits : goal.returns-clause-waits
returns-clause-waits c = one_waits c.args.self.now c.at.result.now c.next_packet.new.self c.args.side c.args.now c.at.ensures.value c.next_packet.ensures.step.steps

pub returns-clause-rested : goal.returns-clause-rested
returns-clause-rested c = λ alive is.
    let k = c.a_connection_gives_what_it_made.ensures c.args.now c.next_packet.result c.at.result.now c.next_packet.new.self c.next_packet.ensures.step in
    at_side (λ (x y : Connection). is_dead y.closed ≡ false → Rested x.conversation y.conversation) c.args.self.now c.at.result.now c.next_packet.new.self c.args.side c.at.ensures.value (λ z. k.rested z is) alive

pub returns-clause-none : goal.returns-clause-none
returns-clause-none c = λ is.
    let k = c.a_connection_gives_what_it_made.ensures c.args.now c.next_packet.result c.at.result.now c.next_packet.new.self c.next_packet.ensures.step in
    at_side (λ (x y : Connection). (y.owed.again ≡ false) × (y.owed.asks ≡ false) × (y.owed.word ≡ false)) c.args.self.now c.at.result.now c.next_packet.new.self c.args.side
    c.at.ensures.value (let n = k.none is in (n.0, n.1, n.2))

pub returns-clause-step : goal.returns-clause-step
returns-clause-step c = at_side (λ (x y : Connection). GivesNext c.args.now c.next_packet.result x y) c.args.self.now c.at.result.now c.next_packet.new.self c.args.side c.at.ensures.value c.next_packet.ensures.step
