-- The map that keeps a number for each flow.
use Rattle.std.specs.Prelude.{◌≡◌, ℕ, ◌<◌, nat_lt, List, [], ◌∷◌, Option, Some, None, if◌then◌else◌}
use Rattle.std.specs.BTreeMap.{BTreeMap, get}
use Rattle.std.specs.declared.cmp.Ordering.{Ordering}
use Rattle.xns_spp.specs.Numbers.{most_items}
use Rattle.xns_dump.specs.Flows.{DataPacket, fields_of, last_number, number_after}
use Rattle.xns_dump.specs.declared.flows.flow.Flow.{Flow}
use Rattle.xns_dump.specs.declared.flows.numbered.Numbered.{Numbered}
use Rattle.xns_dump.specs.contracts.flows.flow.FlowOrd.TheImpl as flow_ord

-- how the map orders flows
abbrev pub flow_cmp : Flow → Flow → Ordering
flow_cmp = (flow_ord.ghosts).cmp

-- the number near one that is kept, which is never more than a connection carries
abbrev pub number_near : Option ℕ → ℕ → ℕ
number_near None field = field
number_near (Some last) field = if nat_lt most_items last then field else number_after (Some last) field

-- the number of each next item, by the numbers that are kept
abbrev pub numbering : BTreeMap Flow ℕ → DataPacket → ℕ
numbering last packet = number_near (get flow_cmp last packet.0) packet.1

-- a data packet, if there is one, with its number
abbrev pub with_its_number : (DataPacket → ℕ) → Option DataPacket → Option Numbered
with_its_number number None = None
with_its_number number (Some packet) = Some (record { flow = packet.0; sequence = packet.1; item = number packet })

abbrev pub AreSequencesWords : List DataPacket → Type 0
AreSequencesWords [] = Unit {0}
AreSequencesWords (packet ∷ packets) = (packet.1 < 65536) × AreSequencesWords packets

-- the map has the number of the last item of each flow of these packets
pub record NumbersStandFor (last : BTreeMap Flow ℕ) (packets : List DataPacket) : Type 0 where
  pub numbers : (flow : Flow) → get flow_cmp last flow ≡ last_number (fields_of flow packets)
  pub words : AreSequencesWords packets
