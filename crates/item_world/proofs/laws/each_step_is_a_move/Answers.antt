use Rattle.item_world.proofs.Quiet.{step_moves, history, other_quiet, land_quiet, send_accepts, take_hands_up}
use Rattle.item_world.proofs.laws.each_step_is_a_move.Goals as goal

pub returns : goal.returns
returns c =
    let laws = c.end_laws_are_given.ensures in
    let keeps = c.each_step_keeps_the_order.ensures in
    record {
      each = step_moves laws keeps;
      history = history laws keeps;
      quiet = other_quiet laws;
      land = land_quiet laws;
      send = send_accepts laws;
      take = take_hands_up laws keeps;
    }
