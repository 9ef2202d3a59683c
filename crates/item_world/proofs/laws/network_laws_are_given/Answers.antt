use Rattle.item_world.proofs.Quiet.{flush_continues, receive_continues, handed_same}
use Rattle.item_world.proofs.Later.{later_itself, later_then, moved_later, flushes_later, landing_later}
use Rattle.item_world.proofs.Networks.{quiet}
use Rattle.item_world.proofs.Plays.{some_landing, no_landing, left_out, stay_away}
use Rattle.item_world.proofs.Sides.{same_end, same_other, land_there, lands_as}
use Rattle.item_world.proofs.laws.network_laws_are_given.Goals as goal
use Rattle.item_world.specs.Landing.{landing}

pub returns : goal.returns
returns c =
    let laws = c.end_laws_are_given.ensures in
    record {
      stays = record { flush = flush_continues laws; receive = receive_continues laws; handed = handed_same };
      goes_on = record { itself = later_itself; further = later_then; moved = moved_later; flush = flushes_later laws; land = landing_later laws };
      quiet = quiet;
      lands = lands_as;
      rest = record { left_out = left_out; away = stay_away };
      items = c.each_step_is_a_move.ensures;
      moves = record { here = same_end; there = same_other; land = land_there };
      reached = record { some = λ w k. some_landing (landing w k); none = λ w k. no_landing (landing w k) };
    }
