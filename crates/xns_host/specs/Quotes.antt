-- The sequenced packet that an Error packet quotes (XSIS 028112, Error Protocol).
use Rattle.std.specs.Prelude.{ℕ, Bool, not, ◌&&◌, ◌||◌, ◌==◌, nat_lt, List, length, if◌then◌else◌, Option, Some, None, Result, Ok, Err}
use Rattle.std.specs.Prelude.{slice_index_or}
use Rattle.std.specs.Option.{unwrap_or}
use Rattle.xns_idp.specs.Packet.{same_place}
use Rattle.xns_idp.specs.Reading.{word_at, address_at}
use Rattle.xns_idp.specs.declared.address.Address.{Address}
use Rattle.xns_idp.specs.declared.packet_type.TheConstants.{SEQUENCED_PACKET}
use Rattle.xns_small.specs.ErrorReport.{ErrorReportModel, error_of, most_quoted}
use Rattle.xns_small.specs.declared.error_number.TheConstants.{NO_RESOURCES, NO_SUCH_SOCKET}
use Rattle.xns_small.specs.declared.fault.SmallFault.{SmallFault}
use Rattle.xns_spp.specs.State.{State}
use Rattle.xns_spp.specs.Telling.{is_out, own_name, peer_name}
use Rattle.xns_spp.specs.declared.ends.Ends.{Ends}
use Rattle.xns_host.specs.declared.guest.Guest.{Guest}
use Rattle.xns_host.specs.declared.quote.Quote.{Quote}

-- what is quoted is too short, or of another packet type
abbrev pub is_unfit : List ℕ → Bool
is_unfit quoted = nat_lt (length quoted) most_quoted || not (slice_index_or quoted 5 0 == SEQUENCED_PACKET)

abbrev pub quote_in : (error : ℕ) → List ℕ → Option Quote
quote_in error quoted =
    if is_unfit quoted then None
    else Some (record {
      error = error;
      target = address_at quoted 6;
      source = address_at quoted 18;
      source_id = word_at quoted 32;
      target_id = word_at quoted 34;
      sequence = word_at quoted 36;
    })

-- only these error numbers say that nobody hears the packet: the destination has no such socket, or no resources for it
abbrev pub is_unheard : ℕ → Bool
is_unheard number = number == NO_SUCH_SOCKET || number == NO_RESOURCES

abbrev pub quote_of : Result ErrorReportModel SmallFault → Option Quote
quote_of (Err e) = None
quote_of (Ok report) = if is_unheard report.number then quote_in report.number report.quoted else None

-- what the body of an Error packet quotes whose number says that nobody hears the quoted packet
abbrev pub quoted_packet : List ℕ → Option Quote
quoted_packet body = quote_of (error_of body)

-- to whom the connection sends, and to which identifier: to its peer; before that has replied to whom it was opened, with the identifier 0
abbrev pub sends_to : Guest → Ends → Address × ℕ
sends_to g e = unwrap_or (peer_name e) (g.peer, 0)

-- the quoted packet went from the connection to its peer, lately
abbrev pub is_sent_by : Guest → State → Quote → Bool
is_sent_by g s q =
    same_place (own_name s.ends).0 q.source && (same_place (sends_to g s.ends).0 q.target && ((sends_to g s.ends).1 == q.target_id && is_out s q.sequence))
