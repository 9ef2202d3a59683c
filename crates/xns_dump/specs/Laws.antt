-- The statements of the laws, each under the name of its law: which texts have the word `refused`, and which flows are one.
use Rattle.std.specs.Prelude.{◌≡◌, ℕ, Bool, true, false, List, ◌++◌, codes}
use Rattle.std.specs.Fmt.{decimal}
use Rattle.std.specs.Ordering.{is_eq, nat_cmp, ordering_then}
use Rattle.hex.specs.declared.error.FromHexError.{FromHexError}
use Rattle.xns_idp.specs.declared.address.Address.{Address}
use Rattle.xns_idp.specs.declared.fault.IdpFault.{IdpFault}
use Rattle.xns_spp.specs.declared.spp_fault.SppFault.{SppFault}
use Rattle.xns_lines.specs.Lines.{lines_of}
use Rattle.xns_lines.specs.Text.{hex_word, words_text}
use Rattle.xns_dump.specs.Dump.{dump_text, has_refused_line}
use Rattle.xns_dump.specs.Dump.Capture.{dump_capture_text, has_refused_packet}
use Rattle.xns_dump.specs.Dump.Line.{has_word, hex_refusal, is_refused, text_of_line}
use Rattle.xns_dump.specs.Flows.{DataPacket, is_flow}
use Rattle.xns_dump.specs.Flows.Numbers.{flow_cmp}
use Rattle.xns_dump.specs.Flows.Places.{IsPlace, host_and_socket, place_cmp}
use Rattle.xns_dump.specs.Layers.Courier.{callee_text}
use Rattle.xns_dump.specs.Layers.Packets.{idp_refusal}
use Rattle.xns_dump.specs.Layers.Sequenced.{header_refusal}
use Rattle.xns_dump.specs.Layers.Text.{address_text}
use Rattle.xns_dump.specs.Spelled.{AreHex, IsNoHex, SpellsPackets, has_refused_hex, hex_text}
use Rattle.xns_dump.specs.declared.flows.flow.Flow.{Flow}
use Rattle.xns_dump.specs.declared.flows.place.Place.{Place}

abbrev pub says_refused : List ℕ → Bool
says_refused text = has_word (codes "refused") text

-- the word `refused` does not begin in the text, whatever follows
pub record SaysNoRefusal (text : List ℕ) : Type 0 where
  pub skips : (rest : List ℕ) → says_refused (text ++ rest) ≡ says_refused rest

-- the word `refused` stands in the text, whatever follows
pub record IsLoud (text : List ℕ) : Type 0 where
  pub says : (rest : List ℕ) → says_refused (text ++ rest) ≡ true

-- joined texts have the word where one of them has it, and it begins in none of those before that one
pub record JoinedTextsSayRefused : Type 0 where
  pub quiet : (xs ys : List ℕ) → SaysNoRefusal xs → SaysNoRefusal ys → SaysNoRefusal (xs ++ ys)
  pub loud_behind : (xs ys : List ℕ) → SaysNoRefusal xs → IsLoud ys → IsLoud (xs ++ ys)
  pub loud_before : (xs ys : List ℕ) → IsLoud xs → IsLoud (xs ++ ys)
  pub silent : (xs : List ℕ) → SaysNoRefusal xs → says_refused xs ≡ false
  pub said : (xs : List ℕ) → IsLoud xs → says_refused xs ≡ true

-- numbers, words, addresses and names of procedures do not begin the word; the lines of refusals have it
pub record OnlyRefusalsSayRefused : Type 0 where
  pub number : (n : ℕ) → SaysNoRefusal (decimal n)
  pub word : (w : ℕ) → SaysNoRefusal (hex_word w)
  pub words : (ws : List ℕ) → SaysNoRefusal (words_text ws)
  pub address : (a : Address) → SaysNoRefusal (address_text a)
  pub callee : (program version procedure : ℕ) → SaysNoRefusal (callee_text program version procedure)
  pub hex : (n : ℕ) (error : FromHexError) → IsLoud (hex_refusal n error)
  pub packet : (n : ℕ) (fault : IdpFault) → IsLoud (idp_refusal n fault)
  pub header : (n : ℕ) (fault : SppFault) → IsLoud (header_refusal n fault)

-- a line's text has the word exactly where the line is refused, whatever its number and those of items
abbrev pub RefusedLinesSaySo : Type 0
RefusedLinesSaySo = (n : ℕ) (number : DataPacket → ℕ) (line : List ℕ) → says_refused (text_of_line n number line) ≡ is_refused line

-- the order of flows holds two flows for equal exactly where they have the same ends, and both are then the same value
pub record FlowsAreToldApart : Type 0 where
  pub order : (a b : Flow) → is_eq (flow_cmp a b) ≡ is_flow a b
  pub same : (a b : Flow) → is_flow a b ≡ true → a ≡ b

-- places are ordered by host and socket as one number, and then by their identifiers
abbrev pub PlacesAreOrderedByNumbers : Type 0
PlacesAreOrderedByNumbers = (a b : Place) → IsPlace a → IsPlace b
    → ordering_then (nat_cmp (host_and_socket a) (host_and_socket b)) (nat_cmp a.identifier b.identifier) ≡ place_cmp a b

-- a capture prints what an input prints whose lines of hex spell its packets, but nothing of the lines among them that are no hex; where
-- each line is hex, it prints all that the input prints
pub record CapturesSayWhatLinesSay : Type 0 where
  pub text : (input file : List ℕ) → SpellsPackets IsNoHex input file → dump_capture_text file ≡ hex_text input
  pub refused : (input file : List ℕ) → SpellsPackets IsNoHex input file → has_refused_packet file ≡ has_refused_hex input
  pub all_text : (input : List ℕ) → AreHex (lines_of input) → hex_text input ≡ dump_text input
  pub all_refused : (input : List ℕ) → AreHex (lines_of input) → has_refused_hex input ≡ has_refused_line input
