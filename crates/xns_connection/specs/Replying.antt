-- By which packets a peer says that it lacks an item that is out (XSIS 028112, Sequenced Packet Protocol, Connection Control).
use Rattle.std.specs.Prelude.{ℕ, ◌+◌, ◌%◌, Bool, not, ◌&&◌, if◌then◌else◌, List, Option, Some, None, Result, Ok, Err}
use Rattle.xns_spp.specs.Header.{is_system, wants_reply}
use Rattle.xns_spp.specs.Nearest.{field_round}
use Rattle.xns_spp.specs.Packet.{SppPacketModel, spp_packet_of}
use Rattle.xns_spp.specs.State.{State}
use Rattle.xns_spp.specs.Telling.{is_out}
use Rattle.xns_spp.specs.declared.dropped.Dropped.{Dropped}
use Rattle.xns_spp.specs.declared.header.Header.{Header}

-- a system packet that asks for no reply
abbrev pub is_reply : Header → Bool
is_reply h = is_system h && not (wants_reply h)

-- the number of an item that is not acknowledged, and out: so is the number behind it, or that is the next to go out
abbrev pub is_missing : State → (number : ℕ) → Bool
is_missing s number = is_out s number && is_out s ((number + 1) % field_round)

-- the allocation number of a reply whose acknowledge number is that of an item which is out, and not acknowledged
abbrev pub reply_of : State → Header → Option ℕ
reply_of s h = if is_reply h && is_missing s h.acknowledge then Some h.allocation else None

-- the allocation number of a reply that was read, if the packet is one
abbrev pub reply_in : State → Result SppPacketModel Dropped → Option ℕ
reply_in s (Err d) = None
reply_in s (Ok p) = reply_of s p.header

-- the allocation number of a reply that bytes spell, if they spell one
abbrev pub reply_by : State → List ℕ → Option ℕ
reply_by s b = reply_in s (spp_packet_of b)
