use Rattle.std.proofs.lemmas.Result.{IfErr-weaker, on_ok_weaker}
use Rattle.xns_lines.proofs.pages.Pages.take.Goals as goal

pub returns-in_default-clause-err : goal.returns-in_default-clause-err
returns-in_default-clause-err g c = λ before things place h. c.in_default.ensures.err before _ things h

pub returns-clause-ok : goal.returns-clause-ok
returns-clause-ok g c =
    on_ok_weaker c.flush_full.result (λ ok. λ before things place h. ok 0 before _ (c.in-Ok.ensures.ok before _ things place h)) c.flush_full.ensures.ok

pub returns-clause-err : goal.returns-clause-err
returns-clause-err g c =
    IfErr-weaker c.flush_full.result _ _ (λ fault failed. λ before things place h.
    rw failed.0 (failed.1 0 before _ (c.in-Ok.ensures.ok before _ things place h)))
    c.flush_full.ensures.err

pub returns-clause-memory : goal.returns-clause-memory
returns-clause-memory g c =
    IfErr-weaker c.flush_full.result _ _ (λ fault failed. rw failed.0 tt) c.flush_full.ensures.err
