-- Faults of names, and steps that stop at the first one.
use Rattle.std.specs.Prelude.{ℕ, List, [], ◌∷◌, Result, Ok}
use Rattle.courier_notation.specs.Failing.{◌>>=◌}
use Rattle.courier_programs.specs.declared.name_reason.NameReason.{NameReason}

-- the index of the wrong name, and what is wrong
abbrev pub NameFault : Type 0
NameFault = ℕ × NameReason

-- one step for each item, each from where the one before it came to
abbrev pub steps : {S A F : Type 0} → (S → A → Result S F) → S → List A → Result S F
steps f s [] = Ok s
steps f s (x ∷ xs) = f s x >>= λ t. steps f t xs
