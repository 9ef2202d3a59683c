-- What a session that answers calls, and goes on, has done.
use Rattle.std.specs.Prelude.{◌≡◌, ◌++◌, List, map, Bool, false, not, None, Ok, IfSome}
use Rattle.std.specs.List.{filter, AllByRecursion}
use Rattle.std.specs.Option.{is_some, option_to_list}
use Rattle.xns_spp.specs.declared.item.Item.{Item}
use Rattle.courier_messages.specs.declared.message.Message.{Message}
use Rattle.courier_messages.specs.Conversation.{conversation}
use Rattle.courier_messages.specs.Laws.{items_of, IsShort}
use Rattle.courier_messages.specs.Called.{server_ending}
use Rattle.courier_sessions.specs.declared.program.Program.{Program}
use Rattle.courier_sessions.specs.Answering.{Answering, transaction_in, is_a_call, why_unlisted}

abbrev pub is_answerable : List Program → Message → Bool
is_answerable programs m = not (is_some (why_unlisted programs m))

-- the message is no call, and has at most 131,072 bytes
abbrev pub IsAnswer : Message → Type 0
IsAnswer m = IsShort m × (is_a_call m ≡ false)

-- a session was fed and gave these items, took these calls, and made these answers, each in order; the listed ones of
-- the calls were handed, or were given a reject before that
pub record HasAnswered (programs : List Program) (fed given : List Item) (taken handed answers : List Message)
    (a : Answering) : Type 0 where
  pub table : a.programs ≡ programs
  pub going : a.failed ≡ false
  -- the items that were given, and those that are out, are the versions and the answers, each cut
  pub items : given ++ a.out ≡ items_of answers
  pub good : AllByRecursion IsAnswer answers
  -- the k-th answer has the number of the k-th call, and each call has its answer, but for the last one where that
  -- waits
  pub numbers : map transaction_in taken ≡ map transaction_in answers ++ option_to_list a.asked
  -- each message of the peer's is a call that was taken, or that waits
  pub calls : taken ++ option_to_list a.call ≡ conversation fed
  -- the calls that were handed, or given a reject before that, are those whose program and version are listed
  pub listed : handed ≡ filter (is_answerable programs) taken
  pub single : IfSome a.call (λ m. a.asked ≡ None)
  pub ending : server_ending fed ≡ Ok a.phase
