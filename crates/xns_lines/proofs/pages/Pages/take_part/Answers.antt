use Rattle.std.proofs.Common.{◌+◌, arith}
use Rattle.std.proofs.lemmas.Result.{IfErr-weaker, on_ok_weaker}
use Rattle.xns_lines.proofs.pages.Pages.take_part.Goals as goal

pub returns-in_default-clause-err : goal.returns-in_default-clause-err
returns-in_default-clause-err g c = λ before things few h. (c.args.part, omega arith, c.in_default.ensures.err before _ things h)

pub returns-clause-ok : goal.returns-clause-ok
returns-clause-ok g c =
    on_ok_weaker c.flush_full.result (λ ok. λ before things few h. ok _ before things (c.in-Ok.ensures.ok before _ things few h)) c.flush_full.ensures.ok

pub returns-clause-err : goal.returns-clause-err
returns-clause-err g c =
    IfErr-weaker c.flush_full.result _ _ (λ fault failed. λ before things few h.
    rw failed.0 (c.args.part + 1, omega arith, failed.1 _ before things (c.in-Ok.ensures.ok before _ things few h)))
    c.flush_full.ensures.err
