use Rattle.xns_spp.specs.Sending.{flush_answer, after_flush}
use Rattle.item_world.proofs.Quiet.{ok_then, flush_continues}
use Rattle.item_world.proofs.Plays.{goes_quietly}
use Rattle.item_world.proofs.play.Play.flush.Goals as goal
use Rattle.item_world.specs.World.{end_at}

pub returns : goal.returns
returns c =
    ok_then c.flush_end.result c.flush_end.ensures.stands (λ flushed laws w.
    let s = end_at w c.args.side in
    goes_quietly c.args.self.now w c.args.side c.at.result.now c.flush_end.new.endpoint c.flush_end.new.network (after_flush s) (flush_answer s) c.at.ensures.value (flush_continues laws s) (flushed laws w))
