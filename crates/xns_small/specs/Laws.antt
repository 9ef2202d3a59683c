-- What the definitions imply: the statements of the laws, each under the name of its law.
use Rattle.std.specs.Prelude.{◌≡◌, ◌≤◌, ◌++◌, List, ℕ, length, Ok}
use Rattle.xns_idp.specs.Packet.{PacketModel, IsAddress, IsPacket, most_data}
use Rattle.xns_idp.specs.Reading.{packet_of}
use Rattle.xns_idp.specs.declared.address.Address.{Address}
use Rattle.xns_small.specs.Echo.{EchoModel, IsAnswered, IsReplyTo, echo_of, echo_reply, echo_spelling}
use Rattle.xns_small.specs.ErrorReport.{ErrorReportModel, IsErrorReport, error_of, error_spelling}
use Rattle.xns_small.specs.Exchange.{ExchangeModel, IsExchange, exchange_of, exchange_spelling}
use Rattle.xns_small.specs.declared.error_number.TheConstants as numbers

abbrev pub WrittenEchoIsReadAgain : Type 0
WrittenEchoIsReadAgain = (echo : EchoModel) → echo_of (echo_spelling echo) ≡ Ok echo

abbrev pub WrittenErrorIsReadAgain : Type 0
WrittenErrorIsReadAgain = (report : ErrorReportModel) → IsErrorReport report → error_of (error_spelling report) ≡ Ok report

abbrev pub WrittenExchangeIsReadAgain : Type 0
WrittenExchangeIsReadAgain = (exchange : ExchangeModel) → IsExchange exchange → exchange_of (exchange_spelling exchange) ≡ Ok exchange

abbrev pub AnAnsweredEchoCarriesTheRequest : Type 0
AnAnsweredEchoCarriesTheRequest = (own : Address) (request : PacketModel) (rest : List ℕ) → IsAddress own → IsPacket request →
    length request.body ≤ most_data → IsAnswered own request →
    (reply : PacketModel) × (packet_of (echo_reply own request ++ rest) ≡ Ok (reply, length (echo_reply own request)))
    × IsReplyTo own request reply

-- the error numbers (XSIS 028112, Error Protocol)
pub record ErrorNumbersAreTheStandards : Type 0 where
  pub unspecified : numbers.UNSPECIFIED ≡ 0
  pub bad_checksum : numbers.BAD_CHECKSUM ≡ 1
  pub no_such_socket : numbers.NO_SUCH_SOCKET ≡ 2
  pub no_resources : numbers.NO_RESOURCES ≡ 3
  pub unspecified_in_transit : numbers.UNSPECIFIED_IN_TRANSIT ≡ 512
  pub bad_checksum_in_transit : numbers.BAD_CHECKSUM_IN_TRANSIT ≡ 513
  pub host_unreachable : numbers.HOST_UNREACHABLE ≡ 514
  pub too_many_hops : numbers.TOO_MANY_HOPS ≡ 515
  pub packet_too_large : numbers.PACKET_TOO_LARGE ≡ 516
