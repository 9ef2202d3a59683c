-- Two ends of a connection, every packet ever sent between them, and the small steps that change them.
use Rattle.std.specs.Prelude.{ℕ, ◌-◌, Bool, false, true, nat_lt, ◌||◌, if◌then◌else◌, length, List, [], ◌++◌, map, take, slice_set}
use Rattle.std.specs.Option.{option_to_list}
use Rattle.xns_spp.specs.Receiving.{is_ours, receive_answer, after_receive}
use Rattle.xns_spp.specs.Sending.{after_send, flush_answer, after_flush, tick_answer, after_tick, after_take}
use Rattle.xns_spp.specs.State.{State, initiator_state, responder_state}
use Rattle.xns_spp.specs.declared.item.Item.{Item}
use Rattle.item_world.specs.declared.emitted.Emitted.{Emitted}
use Rattle.item_world.specs.declared.moment.Moment.{Moment}
use Rattle.item_world.specs.declared.setup.Setup.{Setup}
use Rattle.item_world.specs.declared.side.Side.{Side}
use Rattle.item_world.specs.declared.side.Side.TheVariants.{A, B}
use Rattle.item_world.specs.Channel.{Channel}
use Rattle.item_world.specs.Side.{other}

-- a world: both ends with all their history, and every packet ever sent
pub record World : Type 0 where
  pub a : State
  pub b : State
  pub bag : List Emitted

abbrev pub end_at : World → Side → State
end_at w A = w.a
end_at w B = w.b

abbrev pub with_end : World → Side → State → World
with_end w A s = record w { a = s }
with_end w B s = record w { b = s }

-- the world at the start: the responder has the initiator's address and identifier, and nothing was sent
abbrev pub start : Setup → World
start s = record {
  a = initiator_state s.a s.a_id s.b s.window s.backlog;
  b = responder_state s.b s.b_id s.a s.a_id s.window s.backlog;
  bag = [];
}

-- ---- packets

-- how many items two ends have taken as the first sends to the second
abbrev pub moment : (sender receiver : State) → Moment
moment s peer = record { sender = length s.taken; receiver = length peer.taken }

-- a packet of these bytes as it is sent, which is not delivered yet
abbrev pub emitted : Side → Moment → List ℕ → Emitted
emitted side at bytes = record { side = side; bytes = bytes; at = at; delivered = false }

-- the bag, once packets of these bytes are sent
abbrev pub with_packets : List Emitted → Side → Moment → List (List ℕ) → List Emitted
with_packets bag side at packets = bag ++ map (emitted side at) packets

-- an end goes on as s, and packets of these bytes are sent
abbrev pub moved : World → Side → State → List (List ℕ) → World
moved w side s packets = record (with_end w side s) { bag = with_packets w.bag side (moment s (end_at w (other side))) packets }

-- packet k, which is x, is marked as delivered
abbrev pub marked_delivered : World → ℕ → Emitted → World
marked_delivered w k x = record w { bag = slice_set w.bag k (record x { delivered = true }) }

-- how many items an end takes at most while a packet lives
abbrev pub lifetime : ℕ
lifetime = 30000

-- a packet of this moment lives no longer: an end has taken more items since
abbrev pub is_past : Moment → (sender receiver : ℕ) → Bool
is_past at sender receiver = nat_lt lifetime (sender - at.sender) || nat_lt lifetime (receiver - at.receiver)

abbrev pub has_passed : World → Emitted → Bool
has_passed w x = is_past x.at (length (end_at w x.side).taken) (length (end_at w (other x.side)).taken)

-- ---- what an end does

abbrev pub flushes : World → Side → World
flushes w side = moved w side (after_flush (end_at w side)) (flush_answer (end_at w side))

abbrev pub ticks : World → Side → World
ticks w side = moved w side (after_tick (end_at w side)) (tick_answer (end_at w side))

-- bytes come to an end, which replies where a reply is owed
abbrev pub receives : World → Side → List ℕ → World
receives w side bytes = moved w side (after_receive (end_at w side) bytes) (option_to_list (receive_answer (end_at w side) bytes).reply)

-- bytes from elsewhere come to an end; bytes that would pass for a packet of the connection are passed over
abbrev pub overhears : World → Side → List ℕ → World
overhears w side bytes = if is_ours (end_at w side) bytes then w else receives w side bytes

-- an end is given an item to send; an item that the end refuses is dropped
abbrev pub sends : World → Side → Item → World
sends w side x = moved w side (after_send (end_at w side) x) []

abbrev pub takes : World → Side → World
takes w side = moved w side (after_take (end_at w side)) []

-- ---- the items of a world

-- the items that an end was given to send and accepted
abbrev pub sent_at : World → Side → List Item
sent_at w side = (end_at w side).accepted

-- the items that an end handed up
abbrev pub handed_at : World → Side → List Item
handed_at w side = take (end_at w side).handed (end_at w side).taken

-- the channel of a world: what each end accepted, and what each end handed up
abbrev pub channel_of : World → Channel
channel_of w = record { accepted = sent_at w; handed = handed_at w }

abbrev pub sender_and_bytes : Emitted → Side × List ℕ
sender_and_bytes x = (x.side, x.bytes)

-- every packet, with its sender
abbrev pub sent_packets : World → List (Side × List ℕ)
sent_packets w = map sender_and_bytes w.bag
