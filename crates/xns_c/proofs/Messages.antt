-- How long a message is.
use Rattle.std.proofs.Common.{◌≡◌, ℕ, ◌+◌, ◌*◌, List, [], ◌∷◌, length, arith, refl}
use Rattle.courier_messages.specs.declared.head.Head.{Head}
use Rattle.courier_messages.specs.declared.head.Head.TheVariants.{Call, Reject, Return, Abort}
use Rattle.courier_messages.specs.Head.{head_size, with_words}
use Rattle.courier_messages.specs.Message.{message_bytes}

return_size : (t : ℕ) (ws : List ℕ) → length (message_bytes (with_words (Return t) ws)) ≡ 4 + 2 * length ws
return_size t [] = refl
return_size t (w ∷ ws) = let rest = return_size t ws in omega (arith, rest)

pub message_size : (h : Head) (ws : List ℕ) → length (message_bytes (with_words h ws)) ≡ 2 * (head_size h + length ws)
message_size (Call transaction program version procedure) ws = let rest = return_size transaction ws in omega (arith, rest)
message_size (Reject transaction reason) ws = let rest = return_size transaction ws in omega (arith, rest)
message_size (Return transaction) ws = let rest = return_size transaction ws in omega (arith, rest)
message_size (Abort transaction error) ws = let rest = return_size transaction ws in omega (arith, rest)
