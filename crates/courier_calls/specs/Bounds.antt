-- How much a caller has out.
use Rattle.std.specs.Prelude.{◌+◌, ℕ, Option, Some, None}
use Rattle.courier_messages.specs.Message.{most_bytes}
use Rattle.courier_messages.specs.Conversation.{range_bytes}

-- how many bytes a caller has out at most: its version range, and a message where a call waits for its answer
abbrev pub most_out : {A : Type 0} → Option A → ℕ
most_out None = range_bytes
most_out (Some target) = range_bytes + most_bytes
