-- What lines of Echo, Error and Packet Exchange say.
use Rattle.std.specs.Prelude.{ℕ, if◌then◌else◌, List, ◌++◌, codes}
use Rattle.std.specs.Int.{w32, to_be_bytes}
use Rattle.std.specs.Fmt.{decimal}
use Rattle.hex.specs.Hex.{encode_lower}
use Rattle.xns_small.specs.Echo.{EchoModel}
use Rattle.xns_small.specs.ErrorReport.{ErrorReportModel}
use Rattle.xns_small.specs.Exchange.{ExchangeModel}
use Rattle.xns_small.specs.declared.fault.SmallFault.{SmallFault}
use Rattle.xns_small.specs.declared.fault.SmallFault.TheVariants.{Short, EchoOperation}
use Rattle.xns_dump.specs.Layers.Text.{line_of}
use Rattle.xns_lines.specs.Text.{bytes_or_dash}

-- why a body is not what its packet type says
unfoldable pub inner_fault_text : SmallFault → List ℕ
inner_fault_text (Short have) = codes "Short " ++ decimal have
inner_fault_text (EchoOperation found) = codes "EchoOperation " ++ decimal found

abbrev pub inner_refusal_text : SmallFault → List ℕ
inner_refusal_text fault = codes " inner refused " ++ inner_fault_text fault

abbrev pub inner_refusal : ℕ → SmallFault → List ℕ
inner_refusal n fault = line_of n (inner_refusal_text fault)

-- a request or a reply, and its bytes (XSIS 028112, Echo Protocol)
unfoldable pub echo_text : EchoModel → List ℕ
echo_text echo = (if echo.reply then codes " echo reply " else codes " echo request ") ++ bytes_or_dash echo.body

-- the error number, the parameter, and what is quoted (XSIS 028112, Error Protocol)
unfoldable pub error_text : ErrorReportModel → List ℕ
error_text report = codes " error " ++ decimal report.number ++ codes " parameter " ++ decimal report.parameter ++ codes " quoted "
    ++ bytes_or_dash report.quoted

-- the identifier, the client type, and the bytes (XSIS 028112, Packet Exchange Protocol)
unfoldable pub exchange_fields : ExchangeModel → List ℕ
exchange_fields exchange =
    encode_lower (to_be_bytes w32 exchange.id) ++ codes " client " ++ decimal exchange.client ++ codes " body "
    ++ bytes_or_dash exchange.body

abbrev pub exchange_text : ExchangeModel → List ℕ
exchange_text exchange = codes " exchange id " ++ exchange_fields exchange
