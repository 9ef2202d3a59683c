-- Calls by their words, and the messages that they go out in (XSIS 038112, Courier, Remote procedures and errors). How calls are
-- numbered is this project's rule.
use Rattle.std.specs.Prelude.{◌≤◌, ℕ, ◌+◌, ◌%◌, List, [], ◌∷◌, ◌++◌, length}
use Rattle.xns_spp.specs.declared.item.Item.{Item}
use Rattle.courier_messages.specs.declared.message.Message.{Message}
use Rattle.courier_messages.specs.declared.message.Message.TheVariants.{Call}
use Rattle.courier_messages.specs.Cutting.{cut, versions_item}

-- a call whose arguments are words
pub record RawCall : Type 0 where
  pub program : ℕ
  pub version : ℕ
  pub procedure : ℕ
  pub words : List ℕ

-- how many words the arguments of a call have at most: its message has at most 131,072 bytes, twelve before the
-- arguments
abbrev pub most_call_words : ℕ
most_call_words = 65530

-- a call whose message has at most 131,072 bytes
abbrev pub IsShortCall : RawCall → Type 0
IsShortCall c = length c.words ≤ most_call_words

abbrev pub words_call : ℕ → ℕ → ℕ → List ℕ → RawCall
words_call program version procedure words = record { program = program; version = version; procedure = procedure; words = words }

abbrev pub call_message : ℕ → RawCall → Message
call_message transaction c = Call transaction c.program c.version c.procedure c.words

-- the transaction of the k-th call
abbrev pub transaction_of : ℕ → ℕ
transaction_of k = k % 65536

-- calls with their transactions, from the k-th on
unfoldable pub numbered : ℕ → List RawCall → List (ℕ × RawCall)
numbered k [] = []
numbered k (c ∷ cs) = (transaction_of k, c) ∷ numbered (k + 1) cs

unfoldable pub numbered_message : ℕ × RawCall → Message
numbered_message n = call_message n.0 n.1

-- the items that go out

-- the items of the k-th call and of those after it, each with its transaction
unfoldable pub call_items : ℕ → List RawCall → List Item
call_items k [] = []
call_items k (c ∷ cs) = cut (call_message (transaction_of k) c) ++ call_items (k + 1) cs

-- all items that a caller puts out for its calls
abbrev pub caller_items : List RawCall → List Item
caller_items calls = versions_item ∷ call_items 1 calls
