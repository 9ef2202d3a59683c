use Rattle.std.proofs.lemmas.Result.{IfErr-weaker, on_ok_weaker}
use Rattle.xns_captures.proofs.by_packet.PagesByPacketPacketTaker.pause.Goals as goal

pub returns-clause-ok : goal.returns-clause-ok
returns-clause-ok g c = on_ok_weaker c.flush.result (λ ok. ok 0) c.flush.ensures.ok

pub returns-clause-err : goal.returns-clause-err
returns-clause-err g c = IfErr-weaker c.flush.result _ _ (λ fault failed. (failed.0, failed.1 0)) c.flush.ensures.err

pub returns-clause-rests : goal.returns-clause-rests
returns-clause-rests g c = on_ok_weaker c.flush.result (λ ok. c.flush.ensures.text) c.flush.ensures.ok
