use Rattle.std.proofs.Common.{◌∙◌, arith}
use Rattle.xns_sim.proofs.Outcomes.{outcome_more}
use Rattle.xns_sim.proofs.trace.append_outcomes.Goals as goal

pub loop-index-preserved : goal.loop-index-preserved
loop-index-preserved c = record {
  front = c.in_ok-append_outcome.ensures.front ∙ c.loop-index.invariant.front;
  line = outcome_more c.args.text.now.line c.loop-index.text.line c.append_outcome.new.text.line c.args.outcomes.now c.loop-index.index _ (omega arith) c.index-outcomes-index.is
      c.loop-index.invariant.line c.in_ok-append_outcome.ensures.line;
}
