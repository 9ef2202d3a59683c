use Rattle.courier_calls.proofs.Answered.{all_answered}
use Rattle.courier_calls.proofs.laws.all_is_answered.Goals as goal

pub returns : goal.returns
returns g c = λ s can.
    all_answered c.written_value_is_read.ensures (record { spelled = c.whole_value_is_spelled.ensures; fits = c.spelled_value_fits.ensures }) c.a_front_is_heard.ensures c.calls_are_heard.ensures c.what_is_sent_is_heard.ensures c.a_part_says_less.ensures g.S.Service.serving g.S.Service.IsServiceState g.met.S.Service.lawful s can
