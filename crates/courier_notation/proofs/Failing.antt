-- What came of steps that stop at their first fault, and of functions that may be refused memory.
use Rattle.std.proofs.Common.{◌≡◌, Result, Ok, Err, IsOk, refl}
use Rattle.courier_notation.specs.declared.failure.Failure.{Failure}
use Rattle.courier_notation.specs.declared.failure.Failure.TheVariants as failures
use Rattle.courier_notation.specs.Failing.{◌>>=◌, over, Fails, Stops, IsWanted, IfNoMemory}

-- ---- steps

pub ok_is : {A F : Type 0} (x y : A) → ◌≡◌ {A = Result A F} (Ok x) (Ok y) → x ≡ y
ok_is x y e = cc

pub is_right : {A F : Type 0} {r : Result A F} {x : A} → r ≡ Ok x → IsOk r
is_right is = rw is refl

-- the value of a step that did not fail
pub bind_ok : {A B F : Type 0} (r : Result A F) (f : A → Result B F) (y : B) → (r >>= f) ≡ Ok y → (x : A) × (r ≡ Ok x) × (f x ≡ Ok y)
bind_ok (Ok x) f y is = (x, refl, is)
bind_ok (Err e) f y is = absurd cc

pub over_ok : {A B S F : Type 0} (f : A → B) (r : Result (A × S) F) (y : B × S) → over f r ≡ Ok y → (x : A × S) × (r ≡ Ok x) × ((f x.0, x.1) ≡ y)
over_ok f (Ok x) y is = (x, refl, ok_is (f x.0, x.1) y is)
over_ok f (Err e) y is = absurd cc

-- what came behind a step came of an answer
pub first_was_right : {A B F : Type 0} (r : Result A F) (f : A → Result B F) (y : B) → (r >>= f) ≡ Ok y → IsOk r
first_was_right r f y is = is_right (bind_ok r f y is).1

-- ---- functions

-- a function that wants no memory stops there
pub stops_fails : {P R Y : Type 0} (e : Failure P R) (meant : Result Y (P × R)) → Stops e meant → Fails e meant
stops_fails (failures.Wrong place reason) meant h = h
stops_fails failures.NoMemory meant h = tt

pub wanted : {P R : Type 0} (e : Failure P R) (A : Type 0) → A → IsWanted e A
wanted (failures.Wrong place reason) A h = tt
wanted failures.NoMemory A h = h

-- memory was wanted of more, where it was of less
pub wanted_more : {P R : Type 0} (e : Failure P R) (A B : Type 0) → (A → B) → IsWanted e A → IsWanted e B
wanted_more (failures.Wrong place reason) A B f h = tt
wanted_more failures.NoMemory A B f h = f h

pub wants_more : {P R X : Type 0} (r : Result X (Failure P R)) (A B : Type 0) → (A → B) → IfNoMemory r A → IfNoMemory r B
wants_more (Ok x) A B f h = tt
wants_more (Err e) A B f h = wanted_more e A B f h
