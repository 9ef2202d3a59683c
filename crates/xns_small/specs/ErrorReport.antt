-- The Error protocol (XSIS 028112, Error Protocol).
use Rattle.std.specs.Prelude.{◌≡◌, ◌≢◌, ℕ, ◌<◌, ◌≤◌, ◌^◌, List, ◌++◌, length, drop, take, slice_index, Result}
use Rattle.std.specs.Int.{w16, to_be_bytes}
use Rattle.xns_idp.specs.Packet.{broadcast}
use Rattle.xns_idp.specs.Reading.{word_at, address_at}
use Rattle.xns_idp.specs.declared.address.Address.{Address}
use Rattle.xns_small.specs.Reading.{unless_short}
use Rattle.xns_small.specs.Sending.{sent_packet}
use Rattle.xns_small.specs.declared.error_report.ErrorReport.{ErrorReport}
use Rattle.xns_small.specs.declared.fault.SmallFault.{SmallFault}

-- an Error report without where the quoted bytes lie in memory
pub record ErrorReportModel : Type 0 where
  pub number : ℕ
  pub parameter : ℕ
  pub quoted : List ℕ

abbrev pub error_report_model : ErrorReport → ErrorReportModel
error_report_model v = record { number = v.number; parameter = v.parameter; quoted = v.quoted.now }

-- the error number, the error parameter, and then what is quoted of the offending packet
abbrev pub error_spelling : ErrorReportModel → List ℕ
error_spelling v = to_be_bytes w16 v.number ++ to_be_bytes w16 v.parameter ++ v.quoted

-- the bytes spell the report
abbrev pub SpellsError : ErrorReportModel → List ℕ → Type 0
SpellsError v bytes = bytes ≡ error_spelling v

-- the numbers of a report are within their types
pub record IsErrorReport (v : ErrorReportModel) : Type 0 where
  pub number : v.number < 2 ^ 16
  pub parameter : v.parameter < 2 ^ 16

-- the most bytes of the offending packet that are quoted: a header and twelve more
abbrev pub most_quoted : ℕ
most_quoted = 42

-- a report that quotes at most the first 42 bytes
abbrev pub with_front_quoted : ErrorReportModel → ErrorReportModel
with_front_quoted v = record v { quoted = take most_quoted v.quoted }

-- the report that stands in the places of the fields, or the first fault of the bytes
unfoldable pub error_of : List ℕ → Result ErrorReportModel SmallFault
error_of bytes = unless_short 4 bytes (record { number = word_at bytes 0; parameter = word_at bytes 2; quoted = drop 4 bytes })

-- ---- the complaint

-- a packet of which one may complain: it has a whole header, is no Error packet, and was not sent to the broadcast host
pub record MayBeComplainedOf (offending : List ℕ) : Type 0 where
  pub header : 30 ≤ length offending
  pub kind : slice_index offending 5 ≢ 3
  pub target : (address_at offending 6).host ≢ broadcast

-- an Error packet to the offending packet's source, by its place in the header, quoting its front
unfoldable pub complaint : Address → ℕ → ℕ → List ℕ → List ℕ
complaint own number parameter offending =
    sent_packet 3 own (address_at offending 18) (error_spelling
    (record { number = number; parameter = parameter; quoted = take most_quoted offending }))
