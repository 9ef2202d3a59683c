use Rattle.std.proofs.Common.{refl, rules}
use Rattle.xns_idp.specs.Packet.{packet_model}
use Rattle.xns_host.specs.Coming.{foreign}
use Rattle.xns_host.specs.Turn.{places_of, whole_of}
use Rattle.xns_host.proofs.Comings.{comes_echo, comes_refused, whole_at}
use Rattle.xns_host.proofs.Foreign.{other_not_ours}
use Rattle.xns_host.proofs.host.Host.take.Goals as goal

pub returns-in_default-clause-comes : goal.returns-in_default-clause-comes
returns-in_default-clause-comes c = λ taken read.
    foreign (other_not_ours (whole_of c.args.self.now) c.args.bytes.now (packet_model c.args.packet.now) taken read
    (λ kind. absurd (search rules)) (λ kind. absurd (search rules)) (λ kind. absurd (search rules)))

pub returns-in-2-clause-comes : goal.returns-in-2-clause-comes
returns-in-2-clause-comes c = λ taken read.
    comes_echo c.args.now c.args.via c.args.bytes.now (whole_of c.args.self.now) (whole_of c.echo.new.self) c.echo.result (packet_model c.args.packet.now) taken read
    (search rules) c.echo.ensures.asked c.echo.ensures.foreign c.echo.ensures.waits c.echo.ensures.unchanged c.echo.ensures.rest

pub returns-in-3-clause-comes : goal.returns-in-3-clause-comes
returns-in-3-clause-comes c = λ taken read.
    comes_refused c.args.now c.args.via c.args.bytes.now (whole_of c.args.self.now) (whole_of c.refused.new.self) c.refused.result (packet_model c.args.packet.now) taken
    read (search rules) (λ yes. c.refused.ensures.refuses (search rules) yes) c.refused.ensures.foreign c.refused.ensures.rest
    (whole_at c.args.self.now c.refused.new.self c.args.self.now.register c.args.self.now.strays (places_of c.refused.new.self)
    c.refused.ensures.set_up.0 c.refused.ensures.set_up.1 c.refused.ensures.register c.refused.ensures.strays refl)
