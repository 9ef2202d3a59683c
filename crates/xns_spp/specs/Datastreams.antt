-- The datastream types of the closing exchange (XSIS 028112, Sequenced Packet Protocol, Termination).
use Rattle.std.specs.Prelude.{ℕ}

-- the item asks for an end of the connection
abbrev pub end_stream : ℕ
end_stream = 254

-- the item answers one that asks for an end
abbrev pub end_reply_stream : ℕ
end_reply_stream = 255
