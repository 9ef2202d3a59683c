-- The texts that several layers print.
use Rattle.std.specs.Prelude.{ℕ, List, ◌++◌, codes}
use Rattle.std.specs.Int.{w32, to_be_bytes}
use Rattle.std.specs.Fmt.{decimal}
use Rattle.hex.specs.Hex.{encode_lower}
use Rattle.xns_idp.specs.declared.address.Address.{Address}
use Rattle.xns_lines.specs.Text.{bytes_or_dash, hex_word, words_or_dash}

-- line n with this text
abbrev pub line_of : ℕ → List ℕ → List ℕ
line_of n text = decimal n ++ text ++ codes "\n"

-- data as words; bytes that are no message print so
abbrev pub data_words : List ℕ → List ℕ
data_words content = codes " words " ++ words_or_dash content

abbrev pub words_line : ℕ → List ℕ → List ℕ
words_line n content = line_of n (data_words content)

-- data as bytes
abbrev pub data_bytes : List ℕ → List ℕ
data_bytes content = codes " data " ++ bytes_or_dash content

abbrev pub data_line : ℕ → List ℕ → List ℕ
data_line n content = line_of n (data_bytes content)

-- network, host and socket in hex, joined by dots (XSIS 028112, Internet Datagram Protocol, Network Addresses)
unfoldable pub address_text : Address → List ℕ
address_text address =
    encode_lower (to_be_bytes w32 address.network) ++ codes "." ++ encode_lower address.host ++ codes "." ++ hex_word address.socket
