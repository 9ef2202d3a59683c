use Rattle.std.proofs.Common.{take, ◌++◌}
use Rattle.xns_lines.proofs.Writes.{appends_trans, rest_written}
use Rattle.xns_lines.proofs.writing.write_whole.Goals as goal

pub loop-rest-preserved : goal.loop-rest-preserved
loop-rest-preserved g c =
    let so_far = c.loop-rest.invariant in (
      so_far.0 ++ take c.in-Ok.count c.loop-rest.rest.now,
      appends_trans _ _ _ so_far.0 _ so_far.1 c.in-Ok.ensures.bytes,
      rest_written so_far.0 c.loop-rest.rest.now _ c.in-Ok.count so_far.2,
    )
