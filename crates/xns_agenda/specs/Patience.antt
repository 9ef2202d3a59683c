-- How long a connection waits for a peer that says no word. Times are in milliseconds.
use Rattle.std.specs.Prelude.{◌≡◌, ℕ, ◌+◌, Bool, Some, None}
use Rattle.xns_agenda.specs.Waiting.{Waiting, act_at, after_act, after_step, later, rested, timed}
use Rattle.xns_agenda.specs.declared.act.Act.TheVariants.{Again, Ask}
use Rattle.xns_agenda.specs.declared.due.Due.TheVariants.{AskAt}

-- at `start` a wait for the peer begins, with so many items out; until the second wait something waits for the peer, which says no word,
-- and so many packets go out again
pub data Vain (start : ℕ) (w : Waiting) : ℕ → Waiting → Type 0 where
  begins : (out : ℕ) → Vain start w 0 (timed w out start)
  steps : {n : ℕ} {v : Waiting} → Vain start w n v → (out : ℕ) (wants : Bool) (now : ℕ)
      → Vain start w n (after_step v (Some out) wants now)
  sends : {n : ℕ} {v : Waiting} → Vain start w n v → (now : ℕ) → act_at v now ≡ Again → Vain start w (n + 1) (after_act v now)

-- nothing waits for the peer, which is asked for a word `span` after its last one; until the second wait it says none, and so many packets
-- ask it
pub data Asked (span : ℕ) (w : Waiting) : ℕ → Waiting → Type 0 where
  begins : Asked span w 0 (record (rested w) { due = AskAt (later w.heard_at span) })
  steps : {n : ℕ} {v : Waiting} → Asked span w n v → (wants : Bool) (now : ℕ) → Asked span w n (after_step v None wants now)
  sends : {n : ℕ} {v : Waiting} → Asked span w n v → (now : ℕ) → act_at v now ≡ Ask → Asked span w (n + 1) (after_act v now)
