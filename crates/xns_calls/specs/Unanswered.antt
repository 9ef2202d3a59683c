-- The calls without an answer.
use Rattle.std.specs.Prelude.{Option}
use Rattle.xns_calls.specs.declared.waiting.Waiting.{Waiting}

-- the calls without an answer, as one of two flows sees them: its own call, and the call that the flow behind it made, which its answers are for
pub record UnansweredCalls : Type 0 where
  pub own : Option Waiting
  pub asked : Option Waiting

abbrev pub waiting_calls : Option Waiting → Option Waiting → UnansweredCalls
waiting_calls own asked = record { own = own; asked = asked }
