-- Steps that are taken until none applies, what is so of the step that an end or a side takes, and what a call's clauses leave.
use Rattle.std.proofs.Common.{◌≡◌, ℕ, zero, suc, ◌+◌, ◌-◌, ◌<◌, ◌≤◌, Bool, true, false, Option, Some, None, refl, sym, ◌∙◌, ap, subst, arith, Result, Ok, Err}
use Rattle.xns_world.specs.Settling.{most_steps, onward, after_steps, stepped_out, Stepped, end_step_with}
use Rattle.std.specs.Prelude.{IfOk, nat_lt, if◌then◌else◌}
use Rattle.xns_spp.specs.Sending.{is_full, waiting_count, after_send, after_take}
use Rattle.xns_spp.specs.State.{State}
use Rattle.xns_spp.specs.declared.item.Item.{Item}
use Rattle.item_world.specs.World.{end_at}
use Rattle.item_world.specs.declared.side.Side.{Side}
use Rattle.item_world.specs.declared.side.Side.TheVariants.{A, B}
use Rattle.xns_world.specs.CallWorld.{Parties, CallWorld, or_caller, next_out, sends_next, feeds_session, lists_outcome, makes, has_outcome, may_call, caller_step, step}

-- the number itself
pub steps_are : most_steps ≡ 257
unfolding most_steps
steps_are = refl

-- ---- what is kept

-- K is kept, and fewer steps are left
pub record GoesOn {X : Type 0} (K : X → Type 0) (left : X → ℕ) (x y : X) : Type 0 where
  pub keeps : K y
  pub fewer : left y < left x

unfoldable pub IfGoesOn : {X : Type 0} → (X → Type 0) → (X → ℕ) → X → Option X → Type 0
IfGoesOn K left x None = Unit {0}
IfGoesOn K left x (Some y) = GoesOn K left x y

-- wherever K holds a step keeps it, and leaves fewer
abbrev pub EachGoesOn : {X : Type 0} → (X → Option X) → (X → Type 0) → (X → ℕ) → Type 0
EachGoesOn {X} step K left = (x : X) → K x → IfGoesOn K left x (step x)

onward_keeps : {X : Type 0} (K : X → Type 0) (left : X → ℕ) (x : X) (o : Option X) → K x → IfGoesOn K left x o → K (onward x o)
unfolding IfGoesOn
onward_keeps K left x None k i = k
onward_keeps K left x (Some y) k i = i.keeps

pub steps_keep : {X : Type 0} (step : X → Option X) (K : X → Type 0) (left : X → ℕ) → EachGoesOn step K left → (x : X) (n : ℕ) → K x → K (after_steps step x n)
steps_keep step K left go x zero k = k
steps_keep step K left go x (suc n) k =
    let y = after_steps step x n in
    let here = steps_keep step K left go x n k in
    onward_keeps K left y (step y) here (go y here)

-- ---- when none applies

-- where a step applies still, n fewer are left than at first
Below : {X : Type 0} → (X → ℕ) → ℕ → ℕ → X → Option X → Type 0
Below left n most x None = Unit {0}
Below left n most x (Some y) = left x + n ≤ most

below : {X : Type 0} (left : X → ℕ) (n most : ℕ) (x : X) (o : Option X) → left x + n ≤ most → Below left n most x o
unfolding Below
below left n most x None h = tt
below left n most x (Some y) h = h

below_onward : {X : Type 0} (step : X → Option X) (K : X → Type 0) (left : X → ℕ) (n most : ℕ) (x : X) (o : Option X) → step x ≡ o → IfGoesOn K left x o → Below left n most x o → Below left (suc n) most (onward x o) (step (onward x o))
unfolding IfGoesOn Below
below_onward step K left n most x None is i b = subst (Below left (suc n) most x) (sym is) tt
below_onward step K left n most x (Some y) is i b = below left (suc n) most y (step y) (omega (arith, b, i.fewer))

steps_below : {X : Type 0} (step : X → Option X) (K : X → Type 0) (left : X → ℕ) → EachGoesOn step K left → (x : X) (n : ℕ) → K x → Below left n (left x) (after_steps step x n) (step (after_steps step x n))
steps_below step K left go x zero k = below left 0 (left x) x (step x) (omega arith)
steps_below step K left go x (suc n) k =
    let y = after_steps step x n in
    below_onward step K left n (left x) y (step y) refl (go y (steps_keep step K left go x n k)) (steps_below step K left go x n k)

none_below : {X : Type 0} (K : X → Type 0) (left : X → ℕ) (n most : ℕ) (x : X) (o : Option X) → most ≤ n → IfGoesOn K left x o → Below left n most x o → o ≡ None
unfolding IfGoesOn Below
none_below K left n most x None h i b = refl
none_below K left n most x (Some y) h i b = absurd (omega (arith, h, b, i.fewer))

-- after as many steps as were left none applies
pub steps_end : {X : Type 0} (step : X → Option X) (K : X → Type 0) (left : X → ℕ) → EachGoesOn step K left → (x : X) → K x → left x ≤ most_steps → step (stepped_out step x) ≡ None
steps_end step K left go x k few =
    let y = stepped_out step x in
    none_below K left most_steps (left x) y (step y) few (go y (steps_keep step K left go x most_steps k)) (steps_below step K left go x most_steps k)

-- ---- where a program stops

stepped_on : {X : Type 0} (x : X) (o : Option X) (P : X → Type 0) → Stepped true x o P → P (onward x o)
stepped_on x None P h = absurd h
stepped_on x (Some y) P h = h

record Stopped {X : Type 0} (x : X) (o : Option X) (P : X → Type 0) : Type 0 where
  none : o ≡ None
  here : P x

stepped_not : {X : Type 0} (x : X) (o : Option X) (P : X → Type 0) → Stepped false x o P → Stopped x o P
stepped_not x None P h = record { none = refl; here = h }
stepped_not x (Some y) P h = absurd h

-- where no step applies nothing goes on
steps_stay : {X : Type 0} (step : X → Option X) (x : X) (n k m : ℕ) → m ≡ k + n → step (after_steps step x n) ≡ None → after_steps step x m ≡ after_steps step x n
steps_stay step x n zero m is none = let e : m ≡ n = omega arith in ap (λ (i : ℕ). after_steps step x i) e
steps_stay {X} step x n (suc k) m is none =
    let e : m ≡ suc (k + n) = omega arith in
    let same = steps_stay step x n k (k + n) refl none in
    ap (λ (i : ℕ). after_steps step x i) e
    ∙ (ap (λ (y : X). onward y (step y)) same
    ∙ ap (λ (o : Option X). onward (after_steps step x n) o) none)

stepped_all : {X : Type 0} (step : X → Option X) (x : X) (n : ℕ) → n ≤ most_steps → step (after_steps step x n) ≡ None → after_steps step x n ≡ stepped_out step x
stepped_all step x n h none =
    let count : most_steps ≡ (most_steps - n) + n = omega arith in
    sym (steps_stay step x n (most_steps - n) most_steps count none)

pub stepped_end : {X : Type 0} (step : X → Option X) (x : X) (n : ℕ) → n ≡ most_steps → after_steps step x n ≡ stepped_out step x
stepped_end step x n is = ap (λ (k : ℕ). after_steps step x k) is

-- the program took one step more
pub goes_further : {X : Type 0} (step : X → Option X) (x : X) (n : ℕ) (b : Bool) (P : X → Type 0) → b ≡ true → Stepped b (after_steps step x n) (step (after_steps step x n)) P → P (after_steps step x (n + 1))
goes_further step x n b P is h =
    let y = after_steps step x n in
    let next : suc n ≡ n + 1 = omega arith in
    subst (λ (k : ℕ). P (after_steps step x k)) next (stepped_on y (step y) P (subst (λ (c : Bool). Stepped c y (step y) P) is h))

-- no step applied
pub stops_there : {X : Type 0} (step : X → Option X) (x : X) (n : ℕ) (b : Bool) (P : X → Type 0) → b ≡ false → n ≤ most_steps → Stepped b (after_steps step x n) (step (after_steps step x n)) P → P (stepped_out step x)
stops_there step x n b P is few h =
    let y = after_steps step x n in
    let stop = stepped_not y (step y) P (subst (λ (c : Bool). Stepped c y (step y) P) is h) in
    subst P (stepped_all step x n few stop.none) stop.here

-- ---- what a call's clauses leave

pub if_ok_then : {T E : Type 0} {P Q : T → Type 0} (r : Result T E) → IfOk r P → ((x : T) → P x → Q x) → IfOk r Q
if_ok_then (Ok x) h f = f x h
if_ok_then (Err e) h f = h

if_full : (v : State) (x : Item) (P : Option State → Type 0) (b : Bool) → (b ≡ false → P (Some (after_send v x))) → P None → P (if b then None else Some (after_send v x))
if_full v x P true send none = none
if_full v x P false send none = send refl

if_waiting : (v : State) (P : Option State → Type 0) (b : Bool) → (b ≡ true → P (Some (after_take v))) → P None → P (if b then Some (after_take v) else None)
if_waiting v P true take none = take refl
if_waiting v P false take none = none

-- an end sends the item that is out, or takes one where none is out, or does neither
pub by_end : (v : State) (o : Option Item) (P : Option State → Type 0) → ((x : Item) → o ≡ Some x → is_full v ≡ false → P (Some (after_send v x))) → (o ≡ None → nat_lt 0 (waiting_count v) ≡ true → P (Some (after_take v))) → P None
    → P (end_step_with v o)
by_end v (Some x) P send take none = if_full v x P (is_full v) (send x refl) none
by_end v None P send take none = if_waiting v P (nat_lt 0 (waiting_count v)) (take refl) none

-- what a side can do, and that it does nothing
pub record Cases {S : Type 0} (p : Parties S) (w : CallWorld) (P : Side → Option CallWorld → Type 0) : Type 0 where
  pub sent : (side : Side) (x : Item) → next_out p w side ≡ Some x → is_full (end_at w.world side) ≡ false → P side (Some (sends_next w side x))
  pub fed : (side : Side) → nat_lt 0 (waiting_count (end_at w.world side)) ≡ true → P side (Some (feeds_session w side))
  pub listed : has_outcome p w ≡ true → P A (Some (lists_outcome w))
  pub made : may_call p w ≡ true → P A (Some (makes w))
  pub rests : has_outcome p w ≡ false → P A None
  pub stays : P B None

by_caller : {S : Type 0} (p : Parties S) (w : CallWorld) (P : Side → Option CallWorld → Type 0) → Cases p w P → (b c : Bool) → has_outcome p w ≡ b → may_call p w ≡ c → P A (if b then Some (lists_outcome w) else if c then Some (makes w) else None)
by_caller p w P h true c is may = h.listed is
by_caller p w P h false true is may = h.made may
by_caller p w P h false false is may = h.rests is

by_either : {S : Type 0} (p : Parties S) (w : CallWorld) (P : Side → Option CallWorld → Type 0) → Cases p w P → (side : Side) → P side (caller_step p w side)
by_either p w P h A = by_caller p w P h (has_outcome p w) (may_call p w) refl refl
by_either p w P h B = h.stays

pub by_step : {S : Type 0} (p : Parties S) (w : CallWorld) (P : Side → Option CallWorld → Type 0) → Cases p w P → (side : Side) → P side (step p side w)
by_step p w P h side = by_end (end_at w.world side) (next_out p w side) (λ o. P side (or_caller p w side o)) (h.sent side) (λ none is. h.fed side is) (by_either p w P h side)
