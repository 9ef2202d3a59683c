-- What a host tells its program of a connection.
use Rattle.std.specs.Prelude.{ℕ, Bool, ◌&&◌, if◌then◌else◌, Option, Some, None}
use Rattle.courier_messages.specs.declared.message.Message.{Message}
use Rattle.courier_messages.specs.declared.message.Message.TheVariants as messages
use Rattle.courier_sessions.specs.declared.answer.Answer.TheVariants.{Return, Abort, Reject}
use Rattle.xns_connection.specs.Story.{waiting_message}
use Rattle.xns_host.specs.declared.event.Event.{Event}
use Rattle.xns_host.specs.declared.event.Event.TheVariants.{Opened, Call, Answer, Closed}
use Rattle.xns_host.specs.declared.guest.Guest.{Guest}
use Rattle.xns_connection.specs.declared.why.Why.{Why}

-- what is told of a message of the connection with this number and this tag
abbrev pub event_of : (number tag : ℕ) → Message → Event
event_of number tag (messages.Call transaction program version procedure words) =
    Call number tag program version procedure (messages.Call transaction program version procedure words)
event_of number tag (messages.Reject transaction reason words) = Answer number tag (Reject reason) (messages.Reject transaction reason words)
event_of number tag (messages.Return transaction words) = Answer number tag Return (messages.Return transaction words)
event_of number tag (messages.Abort transaction error words) = Answer number tag (Abort error) (messages.Abort transaction error words)

-- a message comes before why it is closed
abbrev pub event_by : (number tag : ℕ) → Option Message → Option Why → Option Event
event_by number tag (Some m) why = Some (event_of number tag m)
event_by number tag None (Some why) = Some (Closed number tag why)
event_by number tag None None = None

-- the program is to be told that the connection is open: the peer has confirmed it, and nothing of it was told yet
abbrev pub is_newly_open : Guest → Bool
is_newly_open g = g.opening_untold && g.confirmed

-- the message that waits, or why the connection with this number is closed, if that was not told
abbrev pub later_event : ℕ → Guest → Option Event
later_event number g =
    event_by number g.tag (waiting_message g.connection.conversation.side) (if g.connection.told then None else g.connection.closed)

-- what the connection with this number has to tell: that it is open, before all else
abbrev pub event_for : ℕ → Guest → Option Event
event_for number g = if is_newly_open g then Some (Opened number g.tag) else later_event number g

-- what the one in this place has to tell, if there is one
abbrev pub event_in : ℕ → Option Guest → Option Event
event_in number None = None
event_in number (Some g) = event_for number g
