-- What a session that calls, and goes on, has done.
use Rattle.std.specs.Prelude.{◌≡◌, ℕ, ◌+◌, ◌%◌, List, [], ◌∷◌, ◌++◌, length, Bool, true, false, if◌then◌else◌, Option, Some, None, Ok, Err}
use Rattle.std.specs.Prelude.{◌⊎◌}
use Rattle.std.specs.Option.{option_to_list}
use Rattle.xns_spp.specs.declared.item.Item.{Item}
use Rattle.courier_messages.specs.declared.fault.SessionFault.{SessionFault}
use Rattle.courier_messages.specs.declared.message.Message.{Message}
use Rattle.courier_messages.specs.declared.message.Message.TheVariants.{Call, Reject, Return, Abort}
use Rattle.std.specs.List.{AllByRecursion}
use Rattle.courier_messages.specs.RawCalls.{RawCall, IsShortCall, caller_items, call_message}
use Rattle.courier_messages.specs.Conversation.{conversation, ending}
use Rattle.courier_sessions.specs.Talk.{Talk, reply_fault}

-- which call a message answers
abbrev pub answered_call : Message → Option ℕ
answered_call (Call transaction program version procedure words) = None
answered_call (Reject transaction reason words) = Some transaction
answered_call (Return transaction words) = Some transaction
answered_call (Abort transaction error words) = Some transaction

-- the messages answer the k-th call and those after it, in their order
unfoldable pub AreAnswers : ℕ → List Message → Type 0
AreAnswers k [] = Unit {0}
AreAnswers k (m ∷ ms) = (answered_call m ≡ Some (k % 65536)) × AreAnswers (k + 1) ms

-- the messages of the k-th call and of those after it
unfoldable pub made_messages : ℕ → List RawCall → List Message
made_messages k [] = []
made_messages k (c ∷ cs) = call_message (k % 65536) c ∷ made_messages (k + 1) cs

abbrev pub count_if : Bool → ℕ
count_if waits = if waits then 1 else 0

-- a session made these calls, was fed and gave these items, and handed these answers, each in order
pub record HasDone (made : List RawCall) (fed given : List Item) (handed : List Message) (t : Talk) : Type 0 where
  pub going : t.failed ≡ false
  -- the items that were given, and those that are out, are the versions and the calls, each cut
  pub items : given ++ t.out ≡ caller_items made
  pub short : AllByRecursion IsShortCall made
  pub transaction : t.transaction ≡ length made % 65536
  -- each message of the peer's was handed, or is there to be handed
  pub messages : handed ++ option_to_list t.outcome ≡ conversation fed
  pub answers : AreAnswers 1 (conversation fed)
  -- each call but the one that waits is answered
  pub count : length made ≡ length (conversation fed) + count_if t.waiting
  pub single : t.waiting ≡ true → t.outcome ≡ None
  pub ending : ending fed ≡ Ok t.phase

-- an item stops the conversation, or ends a message that is no answer to the call that waits
abbrev pub StopsTalk : List Item → Talk → Item → SessionFault → Type 0
StopsTalk fed t x e =
    (ending (fed ++ x ∷ []) ≡ Err e)
    ⊎ ((m : Message) × (conversation (fed ++ x ∷ []) ≡ conversation fed ++ m ∷ []) × (reply_fault t.waiting t.transaction m ≡ Some e))
