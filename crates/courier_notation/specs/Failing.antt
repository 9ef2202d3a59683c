-- Steps that stop at their first fault, and functions that may be refused memory besides.
use Rattle.std.specs.Prelude.{◌≡◌, Result, Ok, Err}
use Rattle.courier_notation.specs.declared.failure.Failure.{Failure}
use Rattle.courier_notation.specs.declared.failure.Failure.TheVariants as failures

-- ---- steps

-- a step, and behind it another that goes on from what it gave
infixl 10 ◌>>=◌
abbrev pub ◌>>=◌ : {A B F : Type 0} → Result A F → (A → Result B F) → Result B F
(Ok x) >>= f = f x
(Err fault) >>= f = Err fault

-- what a step gave, beside what is left behind it, made into something else
abbrev pub over : {A B S F : Type 0} → (A → B) → Result (A × S) F → Result (B × S) F
over f (Ok x) = Ok (f x.0, x.1)
over f (Err fault) = Err fault

-- ---- functions: a fault that is meant is its place and what is wrong there

-- a function stops at the fault that is meant, unless memory ran out
abbrev pub Fails : {P R Y : Type 0} → Failure P R → Result Y (P × R) → Type 0
Fails (failures.Wrong place reason) meant = meant ≡ Err (place, reason)
Fails failures.NoMemory meant = Unit {0}

-- a function returned what is meant, seen by view, unless memory ran out
abbrev pub Gives : {P R X Y : Type 0} → (X → Y) → Result X (Failure P R) → Result Y (P × R) → Type 0
Gives view (Ok x) meant = meant ≡ Ok (view x)
Gives view (Err failure) meant = Fails failure meant

-- a function stops at the fault that is meant, and wants no memory
abbrev pub Stops : {P R Y : Type 0} → Failure P R → Result Y (P × R) → Type 0
Stops (failures.Wrong place reason) meant = meant ≡ Err (place, reason)
Stops failures.NoMemory meant = ⊥

-- a function returned what is meant, seen by view, and wants no memory
abbrev pub Finds : {P R X Y : Type 0} → (X → Y) → Result X (Failure P R) → Result Y (P × R) → Type 0
Finds view (Ok x) meant = meant ≡ Ok (view x)
Finds view (Err failure) meant = Stops failure meant

-- if it was refused memory, memory was wanted
abbrev pub IsWanted : {P R : Type 0} → Failure P R → Type 0 → Type 0
IsWanted (failures.Wrong place reason) wants = Unit {0}
IsWanted failures.NoMemory wants = wants

abbrev pub IfNoMemory : {P R X : Type 0} → Result X (Failure P R) → Type 0 → Type 0
IfNoMemory (Ok x) wants = Unit {0}
IfNoMemory (Err failure) wants = IsWanted failure wants
