-- What C is told of the connections of a host.
use Rattle.std.specs.Prelude.{◌≡◌, ◌<◌, ◌≤◌, ℕ, Bool, true, false, List, [], length}
use Rattle.courier_messages.specs.Head.{words_in}
use Rattle.xns_host.specs.declared.event.Event.{Event}
use Rattle.xns_host.specs.declared.event.Event.TheVariants.{Opened, Call, Answer, Closed}
use Rattle.xns_c.specs.Faults.{closed_number, error_heard, refused_number}
use Rattle.xns_c.specs.Given.{IsPut}
use Rattle.xns_c.specs.Heads.{head_given}
use Rattle.xns_c.specs.Results.{ok, short_buffer}
use Rattle.xns_c.specs.declared.event.XnsEvent.{XnsEvent}
use Rattle.xns_c.specs.declared.message.XnsMessage.{XnsMessage}

abbrev pub no_message : XnsMessage
no_message = record { kind = 0; transaction = 0; program = 0; version = 0; procedure = 0; number = 0 }

-- what C is told of an event but for its words: kind 1 is a call, 2 an answer, 3 that the connection is closed, 4 that it is open; a field
-- that the kind does not have is 0
abbrev pub event_given : Event → XnsEvent
event_given (Opened number tag) = record { kind = 4; number = number; tag = tag; message = no_message; closed = 0; error = 0; fault = ok }
event_given (Call number tag program version procedure message) =
    record { kind = 1; number = number; tag = tag; message = head_given message; closed = 0; error = 0; fault = ok }
event_given (Answer number tag answer message) =
    record { kind = 2; number = number; tag = tag; message = head_given message; closed = 0; error = 0; fault = ok }
event_given (Closed number tag why) =
    record {
      kind = 3;
      number = number;
      tag = tag;
      message = no_message;
      closed = closed_number why;
      error = error_heard why;
      fault = refused_number why;
    }

-- the number of the connection that an event is of
abbrev pub event_number : Event → ℕ
event_number (Opened number tag) = number
event_number (Call number tag program version procedure message) = number
event_number (Answer number tag answer message) = number
event_number (Closed number tag why) = number

-- an event with another tag
abbrev pub with_tag : ℕ → Event → Event
with_tag tag (Opened number told) = Opened number tag
with_tag tag (Call number told program version procedure message) = Call number tag program version procedure message
with_tag tag (Answer number told answer message) = Answer number tag answer message
with_tag tag (Closed number told why) = Closed number tag why

abbrev pub is_answer : Event → Bool
is_answer (Opened number tag) = false
is_answer (Call number tag program version procedure message) = false
is_answer (Answer number tag answer message) = true
is_answer (Closed number tag why) = false

abbrev pub event_words : Event → List ℕ
event_words (Opened number tag) = []
event_words (Call number tag program version procedure message) = words_in message
event_words (Answer number tag answer message) = words_in message
event_words (Closed number tag why) = []

-- an event is given, its words to the front of a buffer: a buffer without room for all of the words has none put, and their number is told
pub record EventIsGiven (e : Event) (after : XnsEvent) (old new : List ℕ) (count number : ℕ) : Type 0 where
  pub head : after ≡ event_given e
  pub fits : length (event_words e) ≤ length old → (number ≡ ok) × IsPut (event_words e) old new count
  pub short : length old < length (event_words e) → (number ≡ short_buffer) × (count ≡ length (event_words e)) × (new ≡ old)
