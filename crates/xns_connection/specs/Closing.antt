-- The closing exchange of a connection (XSIS 028112, Sequenced Packet Protocol, Termination).
use Rattle.std.specs.Prelude.{◌≡◌, ℕ, List, [], ◌∷◌, ◌++◌, Bool, true, false, ◌&&◌, ◌||◌, ◌==◌, if◌then◌else◌}
use Rattle.std.specs.List.{list_any}
use Rattle.xns_spp.specs.Datastreams.{end_reply_stream, end_stream}
use Rattle.xns_spp.specs.declared.item.Item.{Item}
use Rattle.xns_connection.specs.Story.{is_called, is_stopped, wants_answer}
use Rattle.xns_connection.specs.declared.closing.Closing.{Closing}
use Rattle.xns_connection.specs.declared.side.Side.{Side}

abbrev pub closing_item : ℕ → Item
closing_item stream = record { stream = stream; attention = false; last = true; body = [] }

abbrev pub put_if : Bool → ℕ → List Item
put_if sent stream = if sent then closing_item stream ∷ [] else []

-- what was put out behind all that the side says
abbrev pub closing_items : Closing → List Item
closing_items c = put_if c.end_sent end_stream ++ put_if c.reply_sent end_reply_stream

-- what comes is looked at for the closing exchange alone: at a side that is called once End is put out, and at one that calls, whose last
-- answer may still come, once EndReply is
abbrev pub drains : Side → Closing → Bool
drains side c = is_stopped side || ((c.end_sent && is_called side) || (c.reply_sent || c.deaf))

-- the program wants an end, or the peer asked for one
abbrev pub wants_end : Closing → Bool
wants_end c = c.wanted || c.reply_wanted

-- a word of the peer is wanted, also where nothing waits for the peer: a call of the side's own wants its answer, or an end is wanted
abbrev pub wants_word : Side → Closing → Bool
wants_word side c = wants_answer side || wants_end c

-- what is known of closing after an item of this datastream that came; an EndReply that nobody asked for counts as End and EndReply
abbrev pub after_end_words : Closing → ℕ → Closing
after_end_words c stream =
    if stream == end_stream then record c { reply_wanted = true }
    else if stream == end_reply_stream then record c { reply_wanted = true; reply_heard = true }
    else c

-- whether End, or EndReply, is among these items
abbrev pub asks_end : List Item → Bool
asks_end items = list_any (λ x. (x.stream == end_stream) || (x.stream == end_reply_stream)) items

-- whether EndReply is
abbrev pub replies_end : List Item → Bool
replies_end items = list_any (λ x. x.stream == end_reply_stream) items

-- what is known of the peer's closing is what these items say
pub record Knows (c : Closing) (items : List Item) : Type 0 where
  pub wanted : c.reply_wanted ≡ asks_end items
  pub heard : c.reply_heard ≡ replies_end items
