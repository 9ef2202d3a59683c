use Rattle.xns_spp.specs.Sending.{tick_answer, after_tick}
use Rattle.item_world.proofs.Quiet.{ok_then, tick_continues}
use Rattle.item_world.proofs.Plays.{goes_quietly}
use Rattle.item_world.proofs.play.Play.tick.Goals as goal
use Rattle.item_world.specs.World.{end_at}

pub returns : goal.returns
returns c =
    ok_then c.tick_end.result c.tick_end.ensures.stands (λ ticked laws w.
    let s = end_at w c.args.side in
    goes_quietly c.args.self.now w c.args.side c.at.result.now c.tick_end.new.endpoint c.tick_end.new.network (after_tick s) (tick_answer s) c.at.ensures.value (tick_continues laws s) (ticked laws w))
