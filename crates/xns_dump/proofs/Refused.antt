-- A line's text has the word `refused` exactly where the line is refused.
use Rattle.std.proofs.Common.{◌≡◌, ◌∙◌, ap, sym, refl, arith, ℕ, zero, suc, ◌+◌, ◌/◌, ◌%◌, ◌<◌, ◌==◌, Bool, true, false, cond, List, [], ◌∷◌, ◌++◌, codes, length, append_assoc, append-nil, Option, Some, None, Result, Ok, Err}
use Rattle.std.specs.Prelude.{nat_lt, slice_index}
use Rattle.std.specs.List.{flat_map}
use Rattle.std.specs.Fmt.{decimal, digit_glyph, digits, digits_onto}
use Rattle.std.specs.Int.{w16, w32, to_be_bytes}
use Rattle.std.proofs.lemmas.Bool.Decides.{nat_tests}
use Rattle.hex.specs.Hex.{encode_lower, encode_with, lower_digits}
use Rattle.hex.specs.declared.error.FromHexError.{FromHexError}
use Rattle.hex.specs.declared.error.FromHexError.TheVariants as hex_error
use Rattle.courier_messages.specs.Message.{message_of}
use Rattle.courier_messages.specs.declared.fault.MessageFault.{MessageFault}
use Rattle.courier_messages.specs.declared.message.Message.{Message}
use Rattle.courier_messages.specs.declared.message.Message.TheVariants.{Call, Reject, Return, Abort}
use Rattle.xns_idp.specs.Packet.{PacketModel}
use Rattle.xns_idp.specs.declared.address.Address.{Address}
use Rattle.xns_idp.specs.declared.fault.IdpFault.{IdpFault}
use Rattle.xns_small.specs.Echo.{EchoModel}
use Rattle.xns_small.specs.ErrorReport.{ErrorReportModel}
use Rattle.xns_small.specs.Exchange.{ExchangeModel}
use Rattle.xns_small.specs.declared.fault.SmallFault.{SmallFault}
use Rattle.xns_spp.specs.Header.{is_system}
use Rattle.xns_spp.specs.declared.header.Header.{Header}
use Rattle.xns_spp.specs.declared.spp_fault.SppFault.{SppFault}
use Rattle.xns_spp.specs.declared.spp_fault.SppFault.TheVariants as spp
use Rattle.xns_dump.specs.Dump.Line.{Said, hex_refusal, hex_refusal_text, is_refused, is_said_refused, said_by, said_text, text_of_line}
use Rattle.xns_dump.specs.Flows.{DataPacket}
use Rattle.xns_dump.specs.Laws.{IsLoud, SaysNoRefusal, says_refused}
use Rattle.xns_dump.specs.Layers.Body.{BodyModel, body_text, is_body_refused}
use Rattle.xns_dump.specs.Layers.Courier.{callee_text, courier_text, message_text, report_message}
use Rattle.xns_dump.specs.Layers.Packets.{idp_line, idp_refusal, idp_refusal_text, kind_text, route_text, size_text, sum_text}
use Rattle.xns_dump.specs.Layers.Sequenced.{connection_text, content_text, header_refusal, header_text, item_of, item_text, number_text, sequence_text, sequenced_text}
use Rattle.xns_dump.specs.Layers.Small.{echo_text, error_text, exchange_fields, exchange_text, inner_refusal, inner_refusal_text}
use Rattle.xns_dump.specs.Layers.Text.{address_text, data_bytes, data_line, data_words, line_of, words_line}
use Rattle.xns_lines.specs.Text.{bytes_or_dash, hex_word, words_in_hex, words_or_dash, words_text}

pub both : (xs ys : List ℕ) → SaysNoRefusal xs → SaysNoRefusal ys → SaysNoRefusal (xs ++ ys)
both xs ys h k = record { skips = λ zs. ap says_refused (append_assoc xs ys zs) ∙ h.skips (ys ++ zs) ∙ k.skips zs }

pub either : (p : Bool) (xs ys : List ℕ) → SaysNoRefusal xs → SaysNoRefusal ys → SaysNoRefusal (cond p xs ys)
either true xs ys h k = h
either false xs ys h k = k

-- quiet bytes in front change nothing
before : (xs ys : List ℕ) (b : Bool) → SaysNoRefusal xs → says_refused ys ≡ b → says_refused (xs ++ ys) ≡ b
before xs ys b h k = h.skips ys ∙ k

pub alone : (xs : List ℕ) → SaysNoRefusal xs → says_refused xs ≡ false
alone xs h = ap says_refused (sym (append-nil xs)) ∙ h.skips []

pub loud : (xs ys : List ℕ) → SaysNoRefusal xs → IsLoud ys → IsLoud (xs ++ ys)
loud xs ys h k = record { says = λ zs. ap says_refused (append_assoc xs ys zs) ∙ h.skips (ys ++ zs) ∙ k.says zs }

pub longer : (xs ys : List ℕ) → IsLoud xs → IsLoud (xs ++ ys)
longer xs ys h = record { says = λ zs. ap says_refused (append_assoc xs ys zs) ∙ h.says (ys ++ zs) }

pub said : (xs : List ℕ) → IsLoud xs → says_refused xs ≡ true
said xs h = ap says_refused (sym (append-nil xs)) ∙ h.says []

-- ---- bytes

-- the word begins with letter 114
first : (b : ℕ) (xs : List ℕ) → (114 == b) ≡ false → SaysNoRefusal xs → SaysNoRefusal (b ∷ xs)
first b xs other h = record { skips = λ ys. rw other (h.skips ys) }

glyph : (d : ℕ) → d < 10 → (114 == digit_glyph false d) ≡ false
glyph d lt = let test : nat_lt d 10 ≡ true = grind (arith, nat_tests) in rw test (grind (arith, nat_tests))

onto : (k n : ℕ) (xs : List ℕ) → SaysNoRefusal xs → SaysNoRefusal (digits_onto k 10 false n xs)
onto zero n xs h = h
onto (suc k) n xs h =
    let digit : (114 == digit_glyph false (n % 10)) ≡ false = glyph (n % 10) (omega arith) in
    let more : SaysNoRefusal (digit_glyph false (n % 10) ∷ xs) = first (digit_glyph false (n % 10)) xs digit h in
    either (n / 10 == 0) (digit_glyph false (n % 10) ∷ xs) (digits_onto k 10 false (n / 10) (digit_glyph false (n % 10) ∷ xs)) more (onto k (n / 10) (digit_glyph false (n % 10) ∷ xs) more)

pub number : (n : ℕ) → SaysNoRefusal (decimal n)
unfolding digits
number n = onto 64 n [] (record { skips = λ ys. refl })

are_others : List ℕ → Bool
are_others [] = true
are_others (x ∷ xs) = cond (114 == x) false (are_others xs)

other_head : (p : Bool) (q : Bool) → cond p false q ≡ true → (p ≡ false) × (q ≡ true)
other_head true q e = (cc)
other_head false q e = (refl, e)

other_index : (xs : List ℕ) (i : ℕ) → are_others xs ≡ true → (114 == slice_index xs i) ≡ false
unfolding are_others
other_index [] i e = refl
other_index (x ∷ xs) zero e = (other_head (114 == x) (are_others xs) e).0
other_index (x ∷ xs) (suc i) e = other_index xs i (other_head (114 == x) (are_others xs) e).1

hex_digit : (i : ℕ) → (114 == slice_index lower_digits i) ≡ false
unfolding are_others
hex_digit i = other_index lower_digits i refl

hex : (bytes : List ℕ) → SaysNoRefusal (encode_lower bytes)
unfolding encode_with
hex [] = record { skips = λ ys. refl }
hex (b ∷ bytes) = first (slice_index lower_digits (b / 16)) (slice_index lower_digits (b % 16) ∷ encode_lower bytes) (hex_digit (b / 16))
    (first (slice_index lower_digits (b % 16)) (encode_lower bytes) (hex_digit (b % 16)) (hex bytes))

-- ---- texts

pub word : (w : ℕ) → SaysNoRefusal (hex_word w)
word w = hex (to_be_bytes w16 w)

bytes : (xs : List ℕ) → SaysNoRefusal (bytes_or_dash xs)
bytes [] = record { skips = λ ys. refl }
bytes (x ∷ xs) = hex (x ∷ xs)

spaced : (xs : List ℕ) → SaysNoRefusal (words_in_hex xs)
unfolding encode_with
spaced [] = hex []
spaced (a ∷ []) = hex (a ∷ [])
spaced (a ∷ b ∷ []) = hex (a ∷ b ∷ [])
spaced (a ∷ b ∷ c ∷ xs) = both (encode_lower (a ∷ b ∷ []) ++ codes " ") (words_in_hex (c ∷ xs)) (both (encode_lower (a ∷ b ∷ [])) (codes " ") (hex (a ∷ b ∷ [])) (record { skips = λ ys. refl })) (spaced (c ∷ xs))

words : (xs : List ℕ) → SaysNoRefusal (words_or_dash xs)
words [] = record { skips = λ ys. refl }
words (x ∷ xs) = spaced (x ∷ xs)

more_words : (xs : List ℕ) → SaysNoRefusal (flat_map (λ next. codes " " ++ hex_word next) xs)
more_words [] = record { skips = λ ys. refl }
more_words (x ∷ xs) = both (codes " " ++ hex_word x) (flat_map (λ next. codes " " ++ hex_word next) xs) (both (codes " ") (hex_word x) (record { skips = λ ys. refl }) (word x)) (more_words xs)

pub word_list : (xs : List ℕ) → SaysNoRefusal (words_text xs)
word_list [] = record { skips = λ ys. refl }
word_list (x ∷ xs) = both (hex_word x) (flat_map (λ next. codes " " ++ hex_word next) xs) (word x) (more_words xs)

pub address : (a : Address) → SaysNoRefusal (address_text a)
unfolding address_text
address a = both _ _ (both _ _ (both _ _ (both _ _ (hex (to_be_bytes w32 a.network)) (record { skips = λ ys. refl })) (hex a.host)) (record { skips = λ ys. refl })) (word a.socket)

quiet_line : (n : ℕ) (text : List ℕ) → SaysNoRefusal text → SaysNoRefusal (line_of n text)
quiet_line n text h = both _ _ (both _ _ (number n) h) (record { skips = λ ys. refl })

loud_line : (n : ℕ) (text : List ℕ) → IsLoud text → IsLoud (line_of n text)
loud_line n text h = longer _ _ (loud _ _ (number n) h)

data_is : (n : ℕ) (xs : List ℕ) → SaysNoRefusal (data_line n xs)
data_is n xs = quiet_line n (data_bytes xs) (both (codes " data ") _ (record { skips = λ ys. refl }) (bytes xs))

words_is : (n : ℕ) (xs : List ℕ) → SaysNoRefusal (words_line n xs)
words_is n xs = quiet_line n (data_words xs) (both (codes " words ") _ (record { skips = λ ys. refl }) (words xs))

-- ---- the internet packet

sum : (p : PacketModel) (field : ℕ) → SaysNoRefusal (sum_text p field)
unfolding sum_text
sum p field = either p.summed _ (codes "none") (word field) (record { skips = λ ys. refl })

size : (field : ℕ) (p : PacketModel) → SaysNoRefusal (size_text field p)
unfolding size_text
size field p = both _ _ (both _ _ (both (codes "length ") _ (record { skips = λ ys. refl }) (number (30 + length p.body))) (record { skips = λ ys. refl })) (sum p field)

kind : (p : PacketModel) → SaysNoRefusal (kind_text p)
unfolding kind_text
kind p = both _ _ (both _ _ (both (codes " control ") _ (record { skips = λ ys. refl }) (number p.control)) (record { skips = λ ys. refl })) (number p.kind)

route : (p : PacketModel) → SaysNoRefusal (route_text p)
unfolding route_text
route p = both _ _ (both _ _ (both (codes " to ") _ (record { skips = λ ys. refl }) (address p.target)) (record { skips = λ ys. refl })) (address p.source)

idp : (n field : ℕ) (p : PacketModel) → SaysNoRefusal (idp_line n field p)
unfolding idp_line
idp n field p = both _ _ (both _ _ (both _ _ (both _ _ (both _ _ (number n) (record { skips = λ ys. refl })) (size field p)) (kind p)) (route p)) (record { skips = λ ys. refl })

pub idp_loud : (n : ℕ) (fault : IdpFault) → IsLoud (idp_refusal n fault)
idp_loud n fault = loud_line n (idp_refusal_text fault) (longer (codes " idp refused ") _ (record { says = λ ys. refl }))

-- ---- Echo, Error and Packet Exchange

inner_loud : (n : ℕ) (fault : SmallFault) → IsLoud (inner_refusal n fault)
inner_loud n fault = loud_line n (inner_refusal_text fault) (longer (codes " inner refused ") _ (record { says = λ ys. refl }))

echo : (v : EchoModel) → SaysNoRefusal (echo_text v)
unfolding echo_text
echo v = both _ _ (either v.reply (codes " echo reply ") (codes " echo request ") (record { skips = λ ys. refl }) (record { skips = λ ys. refl })) (bytes v.body)

error : (v : ErrorReportModel) → SaysNoRefusal (error_text v)
unfolding error_text
error v = both _ _ (both _ _ (both _ _ (both _ _ (both (codes " error ") _ (record { skips = λ ys. refl }) (number v.number)) (record { skips = λ ys. refl })) (number v.parameter)) (record { skips = λ ys. refl })) (bytes v.quoted)

exchange_numbers : (v : ExchangeModel) → SaysNoRefusal (exchange_fields v)
unfolding exchange_fields
exchange_numbers v = both _ _ (both _ _ (both _ _ (both _ _ (hex (to_be_bytes w32 v.id)) (record { skips = λ ys. refl })) (number v.client)) (record { skips = λ ys. refl })) (bytes v.body)

exchange : (v : ExchangeModel) → SaysNoRefusal (exchange_text v)
exchange v = both (codes " exchange id ") _ (record { skips = λ ys. refl }) (exchange_numbers v)

-- ---- Courier

pub callee : (program version procedure : ℕ) → SaysNoRefusal (callee_text program version procedure)
unfolding callee_text
callee program version procedure = both _ _ (both _ _ (both (codes " program ") _ (record { skips = λ ys. refl }) (number program)) (both (codes " version ") _ (record { skips = λ ys. refl }) (number version))) (both (codes " procedure ") _ (record { skips = λ ys. refl }) (number procedure))

message : (m : Message) → SaysNoRefusal (message_text m)
unfolding message_text
message (Call transaction program version procedure ws) = both _ _ (both _ _ (both _ _ (both (codes " call ") _ (record { skips = λ ys. refl }) (number transaction)) (callee program version procedure)) (record { skips = λ ys. refl })) (word_list ws)
message (Reject transaction reason ws) = both _ _ (both _ _ (both _ _ (both _ _ (both (codes " reject ") _ (record { skips = λ ys. refl }) (number transaction)) (record { skips = λ ys. refl })) (number reason)) (record { skips = λ ys. refl })) (word_list ws)
message (Return transaction ws) = both _ _ (both _ _ (both (codes " return ") _ (record { skips = λ ys. refl }) (number transaction)) (record { skips = λ ys. refl })) (word_list ws)
message (Abort transaction error ws) = both _ _ (both _ _ (both _ _ (both _ _ (both (codes " abort ") _ (record { skips = λ ys. refl }) (number transaction)) (record { skips = λ ys. refl })) (number error)) (record { skips = λ ys. refl })) (word_list ws)

report : (n : ℕ) (content : List ℕ) (r : Result Message MessageFault) → SaysNoRefusal (report_message n content r)
report n content (Ok m) = quiet_line n (message_text m) (message m)
report n content (Err fault) = words_is n content

courier : (n : ℕ) (content : List ℕ) → SaysNoRefusal (courier_text n content)
unfolding courier_text
courier n content = report n content (message_of content)

-- ---- the sequenced packet

connection : (f : Header) → SaysNoRefusal (connection_text f)
unfolding connection_text
connection f = both _ _ (both _ _ (both _ _ (both _ _ (both _ _ (both _ _ (hex (f.control ∷ [])) (record { skips = λ ys. refl })) (number f.stream)) (record { skips = λ ys. refl })) (word f.source_id)) (record { skips = λ ys. refl })) (word f.target_id)

sequence : (f : Header) → SaysNoRefusal (sequence_text f)
unfolding sequence_text
sequence f = both _ _ (both _ _ (both _ _ (both _ _ (both (codes " seq ") _ (record { skips = λ ys. refl }) (number f.sequence)) (record { skips = λ ys. refl })) (number f.acknowledge)) (record { skips = λ ys. refl })) (number f.allocation)

header : (f : Header) → SaysNoRefusal (header_text f)
unfolding header_text
header f = both _ _ (both (codes " spp control ") _ (record { skips = λ ys. refl }) (connection f)) (sequence f)

item : (n : ℕ) (numbers : DataPacket → ℕ) (o : Option DataPacket) → SaysNoRefusal (item_text n numbers o)
item n numbers None = record { skips = λ ys. refl }
item n numbers (Some packet) = quiet_line n (number_text (numbers packet)) (both (codes " item ") _ (record { skips = λ ys. refl }) (number (numbers packet)))

content : (n : ℕ) (f : Header) (xs : List ℕ) → SaysNoRefusal (content_text n f xs)
unfolding content_text
content n f xs = either (is_system f) [] _ (record { skips = λ ys. refl }) (either _ _ _ (data_is n xs) (either _ _ _ (courier n xs) (words_is n xs)))

pub header_loud : (n : ℕ) (fault : SppFault) → IsLoud (header_refusal n fault)
header_loud n (spp.Short have) = inner_loud n _

sequenced : (n : ℕ) (numbers : DataPacket → ℕ) (o : Option DataPacket) (f : Header) (xs : List ℕ) → SaysNoRefusal (sequenced_text n numbers o f xs)
unfolding sequenced_text
sequenced n numbers o f xs = both _ _ (both _ _ (quiet_line n (header_text f) (header f)) (item n numbers o)) (content n f xs)

-- ---- a line

body_is : (n : ℕ) (numbers : DataPacket → ℕ) (p : PacketModel) (b : BodyModel) → says_refused (body_text n numbers p b) ≡ is_body_refused b
body_is n numbers p (BodyModel.echo v) = alone _ (quiet_line n (echo_text v) (echo v))
body_is n numbers p (BodyModel.error v) = alone _ (quiet_line n (error_text v) (error v))
body_is n numbers p (BodyModel.exchange v) = alone _ (quiet_line n (exchange_text v) (exchange v))
body_is n numbers p (BodyModel.sequenced f xs) = alone _ (sequenced n numbers (item_of p f) f xs)
body_is n numbers p (BodyModel.no_header fault) = said _ (header_loud n fault)
body_is n numbers p (BodyModel.refused fault) = said _ (inner_loud n fault)
body_is n numbers p (BodyModel.other xs) = alone _ (data_is n xs)

hex_loud_text : (error : FromHexError) → IsLoud (hex_refusal_text error)
unfolding hex_refusal_text
hex_loud_text (hex_error.InvalidHexCharacter digit place) = longer (codes " hex refused Digit ") _ (record { says = λ ys. refl })
hex_loud_text hex_error.OddLength = record { says = λ ys. refl }
hex_loud_text hex_error.InvalidStringLength = record { says = λ ys. refl }
hex_loud_text hex_error.OutOfMemory = record { says = λ ys. refl }

pub hex_loud : (n : ℕ) (error : FromHexError) → IsLoud (hex_refusal n error)
hex_loud n error = loud_line n (hex_refusal_text error) (hex_loud_text error)

said_is : (n : ℕ) (numbers : DataPacket → ℕ) (s : Said) → says_refused (said_text n numbers s) ≡ is_said_refused s
said_is n numbers (Said.no_bytes error) = said _ (hex_loud n error)
said_is n numbers (Said.no_packet fault) = said _ (idp_loud n fault)
said_is n numbers (Said.packet field p b) = before (idp_line n field p) _ (is_body_refused b) (idp n field p) (body_is n numbers p b)

pub line_is : (n : ℕ) (numbers : DataPacket → ℕ) (line : List ℕ) → says_refused (text_of_line n numbers line) ≡ is_refused line
line_is n numbers line = said_is n numbers (said_by line)
