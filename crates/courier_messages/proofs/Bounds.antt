-- How much a session keeps.
use Rattle.std.proofs.Common.{◌≡◌, ◌∙◌, sym, subst, refl, ℕ, ◌≤◌, Bool, true, false, List, [], ◌∷◌, ◌++◌, length, drop, arith, length-append, length-drop, Option, Some, None, ◌*◌, ◌+◌, Result, Ok, Err}
use Rattle.std.specs.Prelude.{if◌then◌else◌, ◌==◌}
use Rattle.std.proofs.lemmas.Bool.{eqb-false}
use Rattle.xns_spp.specs.declared.item.Item.{Item}
use Rattle.courier_messages.specs.declared.fault.MessageFault.{MessageFault}
use Rattle.courier_messages.specs.declared.fault.MessageFault.TheVariants.{TooLong}
use Rattle.courier_messages.specs.declared.fault.SessionFault.{SessionFault}
use Rattle.courier_messages.specs.declared.fault.SessionFault.TheVariants.{BadMessage}
use Rattle.courier_messages.specs.declared.message.Message.{Message}
use Rattle.courier_messages.specs.Message.{message_of}
use Rattle.courier_messages.specs.Text.{Sign, byte, mark, foreign, written}
use Rattle.courier_messages.specs.Conversation.{versions_fault, Phase, opening, fresh, inside, ending}
use Rattle.courier_messages.specs.Phases.{fresh_unless, opened, closed, after_sign, ◌then◌, run}
use Rattle.courier_messages.specs.Bounds.{IsWithinMessage}
use Rattle.courier_messages.specs.Inside.{phase_in, IsHeld}
use Rattle.courier_messages.specs.declared.incoming.Stage.{Stage}
use Rattle.courier_messages.specs.declared.incoming.Stage.TheVariants.{Opening, Fresh, Inside}
use Rattle.courier_messages.proofs.Signs.{ending_is}

-- each sign keeps what is kept within its bound
abbrev KeepsBound : Result Phase SessionFault → Type 0
KeepsBound (Ok p) = IsWithinMessage p
KeepsBound (Err e) = Unit {0}

after_mark : (r : Result Message MessageFault) → KeepsBound (closed r)
after_mark (Ok m) = omega arith
after_mark (Err e) = tt

agreed_by : (f : Option SessionFault) → KeepsBound (fresh_unless f)
agreed_by (Some e) = tt
agreed_by None = tt

opened_bound : (bytes : List ℕ) → length bytes ≤ 4 → KeepsBound (opened bytes)
opened_bound [] h = omega arith
opened_bound (a ∷ []) h = omega arith
opened_bound (a ∷ b ∷ []) h = omega arith
opened_bound (a ∷ b ∷ c ∷ []) h = omega arith
opened_bound (a ∷ b ∷ c ∷ d ∷ bytes) h = agreed_by (versions_fault (a * 256 + b) (c * 256 + d))

byte_bound : (bytes : List ℕ) (b : ℕ) (full : Bool) → (length bytes == 131072) ≡ full → length bytes ≤ 131072 → KeepsBound (if full then Err (BadMessage TooLong) else Ok (inside (bytes ++ b ∷ [])))
byte_bound bytes b true e h = tt
byte_bound bytes b false e h = let n = eqb-false (length bytes) 131072 e in let longer = length-append bytes (b ∷ []) in omega (arith, n, longer)

step_bound : (p : Phase) (s : Sign) → IsWithinMessage p → KeepsBound (after_sign p s)
step_bound (opening bytes) (foreign kind) h = tt
step_bound fresh (foreign kind) h = tt
step_bound (inside bytes) (foreign kind) h = tt
step_bound (opening bytes) (byte b) h = let longer = length-append bytes (b ∷ []) in opened_bound (bytes ++ b ∷ []) (omega (arith, longer))
step_bound (opening bytes) mark h = tt
step_bound fresh (byte b) h = omega arith
step_bound fresh mark h = omega arith
step_bound (inside bytes) (byte b) h = byte_bound bytes b (length bytes == 131072) refl h
step_bound (inside bytes) mark h = after_mark (message_of bytes)

onwards_bound : (r : Result Phase SessionFault) (f : Phase → Result Phase SessionFault) → KeepsBound r → ((p : Phase) → IsWithinMessage p → KeepsBound (f p)) → KeepsBound (r then f)
onwards_bound (Ok p) f h k = k p h
onwards_bound (Err e) f h k = tt

run_bound : (p : Phase) (text : List Sign) → IsWithinMessage p → KeepsBound (run p text)
unfolding run
run_bound p [] h = h
run_bound p (s ∷ text) h = onwards_bound (after_sign p s) (λ q. run q text) (step_bound p s h) (λ q k. run_bound q text k)

pub ending_bound : (items : List Item) (p : Phase) → ending items ≡ Ok p → IsWithinMessage p
ending_bound items p h = subst KeepsBound (sym (ending_is items) ∙ h) (run_bound (opening []) (written items) (omega arith))

-- a session's pieces are within their bound
pub held_bound : (stage : Stage) (skipped : ℕ) (bytes : List ℕ) → IsHeld stage skipped bytes → IsWithinMessage (phase_in stage (drop skipped bytes))
held_bound Opening skipped bytes h = omega (arith, length-drop skipped bytes, h.1)
held_bound Fresh skipped bytes h = tt
held_bound Inside skipped bytes h = omega (arith, length-drop skipped bytes, h.1)
