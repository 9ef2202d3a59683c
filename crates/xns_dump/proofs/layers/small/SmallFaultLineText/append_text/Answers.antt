use Rattle.std.proofs.Common.{codes}
use Rattle.xns_dump.specs.Layers.Small.{inner_fault_text}
use Rattle.xns_dump.proofs.Results.{adds_more}
use Rattle.xns_dump.proofs.layers.small.SmallFaultLineText.append_text.Goals as goal

pub returns : goal.returns
returns c = adds_more c.append_inner_fault.result c.args.report.now c.append.new.self c.append_inner_fault.new.report (codes " inner refused ") (inner_fault_text c.args.self.now) c.append.ensures.text.front c.in_ok-append.ensures.text.line c.append_inner_fault.ensures
