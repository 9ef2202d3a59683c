use Rattle.xns_dump.proofs.Numbered.{flow_eq, flow_exact}
use Rattle.xns_dump.proofs.laws.flows_are_told_apart.Goals as goal

pub returns : goal.returns
returns c = record { order = flow_eq; same = flow_exact }
