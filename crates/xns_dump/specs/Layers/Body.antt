-- What the body of a packet says.
use Rattle.std.specs.Prelude.{ℕ, ◌==◌, Bool, true, false, if◌then◌else◌, List, Option, None, Result, Ok, Err}
use Rattle.xns_idp.specs.Packet.{PacketModel}
use Rattle.xns_small.specs.Echo.{EchoModel, echo_model, echo_of}
use Rattle.xns_small.specs.ErrorReport.{ErrorReportModel, error_report_model, error_of}
use Rattle.xns_small.specs.Exchange.{ExchangeModel, exchange_model, exchange_of}
use Rattle.xns_small.specs.declared.fault.SmallFault.{SmallFault}
use Rattle.xns_spp.specs.Header.{header_of}
use Rattle.xns_spp.specs.declared.header.Header.{Header}
use Rattle.xns_spp.specs.declared.spp_fault.SppFault.{SppFault}
use Rattle.xns_dump.specs.declared.layers.body.Body.{Body}
use Rattle.xns_dump.specs.declared.layers.body.Body.TheVariants.{Echo, Error, Exchange, Sequenced, NoHeader, Refused, Data}
use Rattle.xns_dump.specs.Flows.{DataPacket}
use Rattle.xns_dump.specs.Layers.Sequenced.{header_refusal, item_of, sequenced_text}
use Rattle.xns_dump.specs.Layers.Small.{echo_text, error_text, exchange_text, inner_refusal}
use Rattle.xns_dump.specs.Layers.Text.{data_line, line_of}

-- what the packet type makes of the body, why the body is not that, or data of another packet type
pub data BodyModel : Type 0 where
  echo : EchoModel → BodyModel
  error : ErrorReportModel → BodyModel
  exchange : ExchangeModel → BodyModel
  sequenced : Header → List ℕ → BodyModel
  no_header : SppFault → BodyModel
  refused : SmallFault → BodyModel
  other : List ℕ → BodyModel

-- a body without where it lies in memory
abbrev pub body_model : Body → BodyModel
body_model (Echo v) = BodyModel.echo (echo_model v)
body_model (Error v) = BodyModel.error (error_report_model v)
body_model (Exchange v) = BodyModel.exchange (exchange_model v)
body_model (Sequenced header content) = BodyModel.sequenced header content.now
body_model (NoHeader fault) = BodyModel.no_header fault
body_model (Refused fault) = BodyModel.refused fault
body_model (Data bytes) = BodyModel.other bytes.now

abbrev pub view_or_fault : {View : Type 0} → (View → BodyModel) → Result View SmallFault → BodyModel
view_or_fault body (Ok view) = body view
view_or_fault body (Err fault) = BodyModel.refused fault

abbrev pub header_or_fault : Result (Header × List ℕ) SppFault → BodyModel
header_or_fault (Ok found) = BodyModel.sequenced found.0 found.1
header_or_fault (Err fault) = BodyModel.no_header fault

-- the body read by the packet type (XSIS 028112, Internet Datagram Protocol, Packet Type)
unfoldable pub body_of : PacketModel → BodyModel
body_of packet =
    if packet.kind == 2 then view_or_fault BodyModel.echo (echo_of packet.body)
    else if packet.kind == 3 then view_or_fault BodyModel.error (error_of packet.body)
    else if packet.kind == 4 then view_or_fault BodyModel.exchange (exchange_of packet.body)
    else if packet.kind == 5 then header_or_fault (header_of packet.body)
    else BodyModel.other packet.body

-- ---- the text of a body

-- the lines of a body in a packet of line n, where `number` gives the numbers of items
abbrev pub body_text : ℕ → (DataPacket → ℕ) → PacketModel → BodyModel → List ℕ
body_text n number packet (BodyModel.echo v) = line_of n (echo_text v)
body_text n number packet (BodyModel.error v) = line_of n (error_text v)
body_text n number packet (BodyModel.exchange v) = line_of n (exchange_text v)
body_text n number packet (BodyModel.sequenced header content) = sequenced_text n number (item_of packet header) header content
body_text n number packet (BodyModel.no_header fault) = header_refusal n fault
body_text n number packet (BodyModel.refused fault) = inner_refusal n fault
body_text n number packet (BodyModel.other bytes) = data_line n bytes

-- whether the body is not what the packet type says
abbrev pub is_body_refused : BodyModel → Bool
is_body_refused (BodyModel.no_header fault) = true
is_body_refused (BodyModel.refused fault) = true
is_body_refused _ = false

-- the data packet of a flow that the packet is, if it is one
abbrev pub body_item : PacketModel → BodyModel → Option DataPacket
body_item packet (BodyModel.sequenced header content) = item_of packet header
body_item packet _ = None
