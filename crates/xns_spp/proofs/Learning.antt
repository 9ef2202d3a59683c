-- What an end learns of its peer.
use Rattle.std.proofs.Common.{◌≡◌, ℕ, Bool, true, List, refl, ap}
use Rattle.std.specs.Prelude.{Option, Some, None, Result, Ok, Err, if◌then◌else◌}
use Rattle.xns_spp.proofs.Deciding.{after_packet, after_bytes}
use Rattle.xns_spp.proofs.Heard.{not_zero}
use Rattle.xns_spp.specs.Ends.{IsEnds, is_open}
use Rattle.xns_spp.specs.Packet.{SppPacketModel, spp_packet_of}
use Rattle.xns_spp.specs.Receiving.{arrival_fault, after_receive}
use Rattle.xns_spp.specs.State.{State}
use Rattle.xns_spp.specs.declared.dropped.Dropped.{Dropped}
use Rattle.xns_spp.specs.declared.role.Role.TheVariants.{Responder}

packet_learns : (s : State) (p : SppPacketModel) (o : Option Dropped) → is_open s.ends ≡ true → (after_packet o s p).ends ≡ s.ends
packet_learns s p (Some d) there = refl
packet_learns s p None there = ap (λ (b : Bool). if b then s.ends else record s.ends { peer = p.source; peer_id = p.header.source_id }) there

bytes_learn : (s : State) (o : Result SppPacketModel Dropped) → is_open s.ends ≡ true → (after_bytes s o).ends ≡ s.ends
bytes_learn s (Err d) there = refl
bytes_learn s (Ok p) there = packet_learns s p (arrival_fault s p) there

pub open_stays : (s : State) (b : List ℕ) → is_open s.ends ≡ true → (after_receive s b).ends ≡ s.ends
open_stays s b there = bytes_learn s (spp_packet_of b) there

pub responder_stays : (s : State) (b : List ℕ) → IsEnds s.ends → s.ends.role ≡ Responder → (after_receive s b).ends ≡ s.ends
responder_stays s b fits is = open_stays s b (not_zero s.ends.peer_id (fits.peer_known is))
