use Rattle.std.proofs.lemmas.List.Elements.{recursion_from_All}
use Rattle.courier_calls.specs.Calls.{IsFitting}
use Rattle.courier_calls.proofs.Both.{faces}
use Rattle.courier_calls.proofs.laws.both_sides_agree.Goals as goal

pub returns : goal.returns
returns g c = λ s can calls heard back fit p q.
    faces c.written_value_is_read.ensures (record { spelled = c.whole_value_is_spelled.ensures; fits = c.spelled_value_fits.ensures }) c.a_front_is_heard.ensures c.calls_are_heard.ensures g.S.Service.serving g.S.Service.IsServiceState g.met.S.Service.lawful s calls heard back can (recursion_from_All IsFitting calls fit) p q
