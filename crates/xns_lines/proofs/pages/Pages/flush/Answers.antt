use Rattle.std.proofs.lemmas.Result.{IfErr-weaker, on_ok_weaker}
use Rattle.xns_lines.proofs.OnPages.{flushed, part_left}
use Rattle.xns_lines.proofs.pages.Pages.flush.Goals as goal

pub returns-clause-ok : goal.returns-clause-ok
returns-clause-ok g c =
    on_ok_weaker c.flush.result (λ ok. λ part before things h.
    flushed _ part c.args.self.now c.flush.new.self before _ _ things c.flush.ensures.text c.flush.ensures.refused ok h)
    c.flush.ensures.ok

pub returns-clause-err : goal.returns-clause-err
returns-clause-err g c =
    IfErr-weaker c.flush.result _ _ (λ fault failed.
    (failed.0, λ part before things h. (c.flush.ensures.text, part_left _ part c.args.self.now _ _ before things failed.1 h)))
    c.flush.ensures.fault
