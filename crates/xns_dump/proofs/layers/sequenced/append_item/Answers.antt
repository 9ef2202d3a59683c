use Rattle.std.proofs.Common.{◌∙◌, sym}
use Rattle.std.proofs.lemmas.Result.{on_ok_weaker}
use Rattle.xns_dump.proofs.Numbered.{an_item, no_item}
use Rattle.xns_dump.proofs.layers.sequenced.append_item.Goals as goal

pub returns-in-Some-clause-line : goal.returns-in-Some-clause-line
returns-in-Some-clause-line c =
    on_ok_weaker c.append_line.result (λ said. λ numbers packet e.
    an_item c.args.number numbers packet c.args.report.now.line c.append_line.new.report.line c.in-Some.numbered (sym c.in-Some.is ∙ e) said)
    c.append_line.ensures.line

pub returns-in-None-clause-line : goal.returns-in-None-clause-line
returns-in-None-clause-line c = λ numbers packet e. no_item c.args.number numbers packet c.args.report.now.line (sym c.in-None.is ∙ e)
