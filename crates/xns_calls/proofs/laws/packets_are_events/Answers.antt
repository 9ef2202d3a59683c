use Rattle.xns_calls.proofs.Packets.{none_other, packet_events, packet_other, reached_event}
use Rattle.xns_calls.proofs.laws.packets_are_events.Goals as goal

pub returns : goal.returns
returns c = record { own = packet_events; behind = reached_event; only = packet_other; quiet = none_other }
