-- The connections that have a turn, and whose turn is first.
use Rattle.std.specs.Prelude.{◌≡◌, ℕ, zero, suc, ◌+◌, Bool, true, false, min, List, if◌then◌else◌, Option, Some, None, replicate, slice_index_or}
use Rattle.std.specs.Prelude.{slice_set}
use Rattle.std.specs.Option.{is_some}
use Rattle.xns_agenda.specs.Times.{HasEarliest}
use Rattle.xns_agenda.specs.Waiting.{last_time}

-- by number the ticket of each connection that has a turn, and the ticket that is given next; the lowest ticket is
-- first
pub record Line : Type 0 where
  pub tickets : List (Option ℕ)
  pub next : ℕ

abbrev pub empty_line : ℕ → Line
empty_line most = record { tickets = replicate most None; next = 0 }

abbrev pub ticket_of : Line → ℕ → Option ℕ
ticket_of line number = slice_index_or line.tickets number None

abbrev pub has_turn : Line → ℕ → Bool
has_turn line number = is_some (ticket_of line number)

-- nobody has a turn
abbrev pub HasNoTurn : Line → Type 0
HasNoTurn line = (number : ℕ) → has_turn line number ≡ false

-- the number has a turn, and nobody's turn is earlier
pub record IsFirst (line : Line) (number : ℕ) : Type 0 where
  pub has : has_turn line number ≡ true
  pub first : HasEarliest line.tickets (ticket_of line number)

abbrev pub with_last : Line → ℕ → Line
with_last line number = record { tickets = slice_set line.tickets number (Some line.next); next = min (line.next + 1) last_time }

-- a number that has a turn keeps it; a number that gets one comes behind the others
abbrev pub with_turn : Line → ℕ → Bool → Line
with_turn line number false = record line { tickets = slice_set line.tickets number None }
with_turn line number true = if has_turn line number then line else with_last line number

-- in a line for so many numbers the first of them, as many as the count says, took a turn one after the other
unfoldable pub lined_up : ℕ → ℕ → Line
lined_up most zero = empty_line most
lined_up most (suc count) = with_last (lined_up most count) count
