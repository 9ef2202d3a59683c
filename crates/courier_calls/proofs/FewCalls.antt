-- There are no more calls than messages.
use Rattle.std.proofs.Common.{◌≤◌, length, List, [], ◌∷◌, arith}
use Rattle.courier_messages.specs.declared.message.Message.{Message}
use Rattle.courier_messages.specs.declared.message.Message.TheVariants.{Call, Reject, Return, Abort}
use Rattle.courier_messages.specs.Called.{calls_of}

pub calls_few : (ms : List Message) → length (calls_of ms) ≤ length ms
unfolding calls_of
calls_few [] = omega arith
calls_few (Call t p v q ws ∷ ms) = omega (arith, calls_few ms)
calls_few (Reject t r ws ∷ ms) = omega arith
calls_few (Return t ws ∷ ms) = omega arith
calls_few (Abort t e ws ∷ ms) = omega arith
