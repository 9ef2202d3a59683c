use Rattle.std.proofs.Common.{◌≡◌}
use Rattle.std.specs.Prelude.{count_by}
use Rattle.std.specs.Option.{is_some}
use Rattle.xns_host.specs.Identifiers.{StaysInOrder}
use Rattle.xns_host.specs.Places.{AsksInVain}
use Rattle.xns_host.specs.Standing.{StaysSetUp}
use Rattle.xns_host.specs.Turn.{places_of}
use Rattle.xns_host.proofs.host.Host.next_event.Given as goal

abbrev pub invariant-loop-number : goal.invariant-loop-number
invariant-loop-number l = StaysSetUp l.fn.self l.self × StaysInOrder l.fn.self.register.identifiers l.self.register.identifiers
    × (l.self.strays ≡ l.fn.self.strays) × AsksInVain l.fn.self.clock.latest (places_of l.fn.self) (places_of l.self)

abbrev pub decreases-loop-number : goal.decreases-loop-number
decreases-loop-number l = count_by is_some l.self.agenda.events.tickets
