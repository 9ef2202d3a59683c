use Rattle.std.proofs.Common.{◌≡◌, ◌++◌, map, take}
use Rattle.courier_calls.specs.Calls.{seen_model}
use Rattle.xns_sim.specs.Sim.Trace.{outcome_lines}
use Rattle.xns_sim.proofs.trace.append_outcomes.Given as goal

-- the front is as it was, and the outcomes so far are written
abbrev pub invariant-loop-index : goal.invariant-loop-index
invariant-loop-index l = record {
  front : l.text.front ≡ l.fn.text.front;
  line : l.text.line ≡ l.fn.text.line ++ outcome_lines 1 (map seen_model (take l.index l.outcomes));
}
