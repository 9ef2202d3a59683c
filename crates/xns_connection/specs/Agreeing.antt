-- What connections have done in the words of the standard, and what two that are peers come to (XSIS 038112, Courier).
use Rattle.std.specs.Prelude.{◌≡◌, ◌⊎◌, ◌≤◌, ℕ, ◌+◌, List, ◌++◌, length, map, take, slice_get, Some}
use Rattle.std.specs.List.{filter}
use Rattle.courier_messages.specs.Conversation.{conversation}
use Rattle.courier_messages.specs.Laws.{items_of}
use Rattle.courier_messages.specs.RawCalls.{caller_items}
use Rattle.courier_messages.specs.declared.message.Message.{Message}
use Rattle.courier_sessions.specs.Answering.{transaction_in}
use Rattle.courier_sessions.specs.Answerings.{is_answerable}
use Rattle.courier_sessions.specs.Talks.{AreAnswers, made_messages}
use Rattle.courier_sessions.specs.declared.program.Program.{Program}
use Rattle.xns_spp.specs.Growth.{Begins}
use Rattle.xns_spp.specs.declared.item.Item.{Item}
use Rattle.xns_spp.specs.Datastreams.{end_reply_stream, end_stream}
use Rattle.xns_connection.specs.Closing.{closing_item, closing_items}
use Rattle.xns_connection.specs.Story.{Story, AreRejected}
use Rattle.xns_connection.specs.declared.closing.Closing.{Closing}

-- the items that the end handed up
abbrev pub handed_up : Story → List Item
handed_up h = take h.state.handed h.state.taken

-- a connection that calls
pub record HasCalled (closing : Closing) (h : Story) : Type 0 where
  -- the end accepted the versions and the calls made, in order, as far as they are out, and the closing items behind
  pub accepted : h.given ++ closing_items closing ≡ h.state.accepted
  pub given : Begins h.given (caller_items h.made)
  -- the program was handed the messages that the items handed up say, in order, each once
  pub handed : Begins h.handed (conversation (handed_up h))
  -- the k-th of them answers the k-th call; at most the last call waits
  pub answers : AreAnswers 1 h.handed
  pub few : length h.handed ≤ length h.made
  pub most : length h.made ≤ length h.handed + 1

-- a connection that is called for these programs
pub record HasServed (programs : List Program) (closing : Closing) (h : Story) : Type 0 where
  -- the end accepted the versions and the answers, in order, as far as they are out, and the closing items behind
  pub accepted : h.given ++ closing_items closing ≡ h.state.accepted
  pub given : Begins h.given (items_of h.answers)
  -- the calls taken are the messages that the items handed up say, in order, each once
  pub taken : Begins h.taken (conversation (handed_up h))
  -- the program was handed the listed ones
  pub handed : h.handed ≡ filter (is_answerable programs) h.taken
  -- the k-th answer has the number of the k-th call taken; at most the last call waits
  pub answers : Begins (map transaction_in h.answers) (map transaction_in h.taken)
  pub most : length h.taken ≤ length h.answers + 1
  -- the calls that are not listed were rejected
  pub rejected : AreRejected programs h.taken h.answers

-- what each of two ends handed up begins what the other one accepted
pub record ArePeers (h g : Story) : Type 0 where
  pub here : Begins (handed_up h) g.state.accepted
  pub there : Begins (handed_up g) h.state.accepted

-- an item of the closing exchange
abbrev pub IsClosing : Item → Type 0
IsClosing x = (x ≡ closing_item end_stream) ⊎ (x ≡ closing_item end_reply_stream)

-- the message is the k-th answer, counted from 0: the one that was put out to the k-th call made
pub record IsOutcome (h g : Story) (k : ℕ) (m : Message) : Type 0 where
  pub call : Message
  pub made : slice_get (made_messages 1 h.made) k ≡ Some call
  pub taken : slice_get g.taken k ≡ Some call
  pub answered : slice_get g.answers k ≡ Some m
  pub number : transaction_in m ≡ transaction_in call

-- a connection that called, and one that was called for these programs
pub record Agree (programs : List Program) (h g : Story) : Type 0 where
  -- the calls taken are those made, in order, as far as they came
  pub calls : Begins g.taken (made_messages 1 h.made)
  -- the calls handed are the listed ones of those made
  pub handed : Begins g.handed (filter (is_answerable programs) (made_messages 1 h.made))
  -- the answers handed are those put out, in order, as far as they came
  pub answers : Begins h.handed g.answers
  pub each : (k : ℕ) (m : Message) → slice_get h.handed k ≡ Some m → IsOutcome h g k m
