use Rattle.std.proofs.Common.{◌≡◌, []}
use Rattle.std.specs.Prelude.{count_by}
use Rattle.std.specs.Option.{is_some}
use Rattle.xns_host.specs.Identifiers.{StaysInOrder}
use Rattle.xns_host.specs.Standing.{StaysSetUpAt}
use Rattle.xns_host.specs.Turn.{places_of}
use Rattle.xns_host.proofs.Placed.{GoneFrom}
use Rattle.xns_host.proofs.host.Host.next_packet.Given as goal

abbrev pub invariant-loop-number : goal.invariant-loop-number
invariant-loop-number l = (l.fn.self.strays.waiting ≡ []) × StaysSetUpAt l.fn.now l.fn.self l.self
    × StaysInOrder l.fn.self.register.identifiers l.self.register.identifiers × (l.self.strays ≡ l.fn.self.strays)
    × GoneFrom l.now (places_of l.fn.self) (places_of l.self)

abbrev pub decreases-loop-number : goal.decreases-loop-number
decreases-loop-number l = count_by is_some l.self.agenda.packets.tickets
