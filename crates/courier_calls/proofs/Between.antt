-- Where nothing is kept, memory for the first piece of a message is never refused.
use Rattle.std.proofs.Common.{◌≡◌, refl, ℕ, List, [], ◌∷◌, ◌⊎◌, inl, inr, arith}
use Rattle.courier_messages.specs.declared.fault.SessionFault.{SessionFault}
use Rattle.courier_messages.specs.declared.fault.SessionFault.TheVariants.{NoMemory}
use Rattle.courier_messages.specs.Conversation.{Phase, opening, fresh, inside}
use Rattle.courier_messages.specs.Refusal.{KeepsNothing, MakeSecondPiece, MayBeKept, Stops, UnlessMemory}

no_second : (p : Phase) (bytes : List ℕ) → KeepsNothing p → MakeSecondPiece p bytes → ⊥
no_second (opening []) bytes h k = absurd (omega (arith, k.0))
no_second (opening (b ∷ bs)) bytes h k = absurd cc
no_second fresh bytes h k = k
no_second (inside []) bytes h k = absurd (omega (arith, k))
no_second (inside (b ∷ bs)) bytes h k = absurd cc

-- memory may be refused, so some bytes are kept
pub looked : {K : Type 0} (p : Phase) (bytes : List ℕ) → KeepsNothing p ⊎ K → MayBeKept p bytes → K
looked p bytes (inl nothing) may = absurd (no_second p bytes nothing may.2)
looked p bytes (inr k) may = k

-- what is so at a want of memory stands beside it
pub wanting : {K : Type 0} (P : Type 0) (e : SessionFault) → (e ≡ NoMemory → K) → UnlessMemory e P → Stops e K P
wanting P NoMemory k h = k refl
wanting P e k h = h
