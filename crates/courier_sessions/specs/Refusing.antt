-- What a function returns that does a thing or refuses to.
use Rattle.std.specs.Prelude.{◌≡◌, Bool, if◌then◌else◌, Option, Some, None, Result, Ok, Err}

-- the reason against it, where there is one; and where there is none, `Ok`, or an error that tells of want of memory
abbrev pub IsRefusedAs : {E : Type 0} → (E → Bool) → Option E → Result (Unit {0}) E → Type 0
IsRefusedAs is_memory refusal (Ok u) = refusal ≡ None
IsRefusedAs is_memory refusal (Err e) = refusal ≡ (if is_memory e then None else Some e)
