use Rattle.std.proofs.Common.{rules}
use Rattle.xns_sim.proofs.Played.{handed}
use Rattle.xns_sim.proofs.playing.append_play.Goals as goal

pub returns : goal.returns
returns c = record {
  front = c.append_trace.ensures.front;
  line = handed _ _ c.args.calls.now c.args.events.now c.in_ok-trace.trace c.args.text.now.line _ _ _ _ _ _ c.append_trace.result c.append_trace.ensures.line c.setup.ensures.value c.new.ensures
      c.in_ok-trace.ensures.trace (search rules) (search rules) c.as_slice.ensures.value c.total.ensures.value (search rules);
}
