use Rattle.std.proofs.Common.{◌≡◌, ◌<◌}
use Rattle.xns_host.specs.Identifiers.{StaysInOrder}
use Rattle.xns_host.specs.Places.{ActsOneByOne}
use Rattle.xns_host.specs.Standing.{StaysSetUp}
use Rattle.xns_host.specs.Turn.{places_of}
use Rattle.xns_agenda.specs.Waiting.{last_time}
use Rattle.xns_host.proofs.Done.{SoFar}
use Rattle.xns_host.proofs.host.Host.act_all.Given as goal

abbrev pub invariant-loop : goal.invariant-loop
invariant-loop l = (l.self.strays ≡ l.fn.self.strays)
    × (l.now < last_time → SoFar l.now l.fn.self.guests.items l.self.guests.items l.counter) × StaysSetUp l.fn.self l.self
    × StaysInOrder l.fn.self.register.identifiers l.self.register.identifiers × ActsOneByOne l.now (places_of l.fn.self) (places_of l.self)
