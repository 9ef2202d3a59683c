use Rattle.std.proofs.Common.{refl, rules}
use Rattle.xns_connection.proofs.Dead.{dead_closed}
use Rattle.xns_connection.proofs.Moments.{steps_then}
use Rattle.xns_connection.proofs.Nexts.{given_history, next_alive, none_dead, so_on_err, unless_closed, waits_closed}
use Rattle.xns_connection.specs.Connecting.{is_dead}
use Rattle.xns_connection.specs.Moving.{conversation_scene}
use Rattle.xns_connection.specs.Step.{GivesNext}
use Rattle.xns_connection.proofs.Steps.{moved_steps}
use Rattle.xns_connection.proofs.connection.Connection.next_packet.Goals as goal

pub returns : goal.returns
returns c = let step : GivesNext c.args.now _ c.args.self.now _ = record {
  mid = c.move_owed.new.self;
  moved = c.move_owed.ensures.moved;
  gave = next_alive c.next_packet-packet.result (is_dead c.move_owed.new.self.closed) c.move_owed.new.self.conversation c.next_packet-packet.new.self
      c.move_owed.new.self.owed c.next_packet-packet.new.owed (search rules) c.next_packet-packet.ensures.at;
  short = c.next_packet-packet.ensures.short;
  wanted = c.next_packet-packet.ensures.memory;
  alive = so_on_err c.next_packet-packet.result (is_dead c.move_owed.new.self.closed) (search rules);
  beside = c.next_packet-packet.ensures.side;
  closed = refl;
  told = refl;
  waits = λ s stands. unless_closed c.next_packet-packet.new.self s c.move_owed.new.self.closed c.move_owed.new.self.wait c.wait_unless.new.wait c.args.now stands
      c.wait_unless.ensures.waits c.wait_unless.ensures.kept;
  steps = steps_then _ _ _ (moved_steps c.args.self.now.owed.moving c.args.now c.args.self.now c.move_owed.new.self c.move_owed.ensures.moved) c.wait_unless.ensures.steps;
} in record { step = step }

pub returns-then-is_dead : goal.returns-then-is_dead
returns-then-is_dead c = let step : GivesNext c.args.now _ c.args.self.now _ = record {
  mid = c.move_owed.new.self;
  moved = c.move_owed.ensures.moved;
  gave = λ s stands. none_dead (is_dead c.move_owed.new.self.closed) c.move_owed.new.self.conversation c.move_owed.new.self.owed s (search rules) stands;
  short = tt;
  wanted = tt;
  alive = tt;
  beside = (refl, refl);
  closed = refl;
  told = refl;
  waits = λ s stands. waits_closed c.move_owed.new.self.closed c.move_owed.new.self.wait (conversation_scene c.move_owed.new.self.conversation s) c.args.now (dead_closed c.move_owed.new.self.closed (search rules));
  steps = moved_steps c.args.self.now.owed.moving c.args.now c.args.self.now c.move_owed.new.self c.move_owed.ensures.moved;
} in record { step = step }

pub invariant_of-self-2-clause-stands : goal.invariant_of-self-2-clause-stands
invariant_of-self-2-clause-stands c =
    given_history c.next_packet-packet.result c.move_owed.new.self.conversation c.next_packet-packet.new.self c.move_owed.new.self.owed c.next_packet-packet.new.owed
    c.move_owed.new.self.stands c.next_packet-packet.ensures.at c.next_packet-packet.ensures.short
