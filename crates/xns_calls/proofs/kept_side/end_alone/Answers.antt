use Rattle.xns_calls.proofs.Absent.{alone_wants, ended_alone}
use Rattle.xns_calls.proofs.Places.{on_ok_with}
use Rattle.xns_calls.proofs.Wanted.{on_err_with}
use Rattle.xns_calls.proofs.kept_side.end_alone.Goals as goal

pub returns-clause-scene : goal.returns-clause-scene
returns-clause-scene c = on_ok_with c.end_flows.result _ _ c.end_flows.ensures.scene
    (ended_alone c.args.heading.now c.args.own.now c.none-other.result c.end_flows.new.own c.end_flows.new.other c.args.page.now c.end_flows.new.page c.none-other.ensures)

pub returns-clause-memory : goal.returns-clause-memory
returns-clause-memory c = on_err_with c.end_flows.result _ _ c.end_flows.ensures.memory (alone_wants c.args.own.now c.none-other.result c.none-other.ensures)
