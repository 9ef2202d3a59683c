use Rattle.courier_calls.proofs.Sides.{reply_read}
use Rattle.courier_calls.proofs.Lawful.{keeps}
use Rattle.courier_calls.proofs.laws.answers_are_short.Goals as goal

pub returns : goal.returns
returns g c = λ s t d can words.
    (reply_read c.written_value_is_read.ensures g.S.Service.serving g.met.S.Service.lawful.table s t d
    (keeps (record { spelled = c.whole_value_is_spelled.ensures; fits = c.spelled_value_fits.ensures }) g.S.Service.serving g.S.Service.IsServiceState g.met.S.Service.lawful s can d words).well).0
