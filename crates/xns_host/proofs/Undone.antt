-- Of no connection that is there is all done: one that may be forgotten is.
use Rattle.std.proofs.Common.{◌≡◌, ◌≢◌, ◌∙◌, ◌⊎◌, inl, inr, ap, refl, subst, sym, ℕ, zero, suc, ◌<◌, Bool, true, false, List, length, Option, Some, None, slice_get, get_or, arith}
use Rattle.std.specs.Prelude.{◌&&◌, ◌||◌, nat_le, slice_set, if◌then◌else◌, replicate}
use Rattle.std.specs.Option.{is_none, is_some}
use Rattle.std.proofs.lemmas.List.{length-set}
use Rattle.std.proofs.lemmas.Option.{same_Some, slice_get_read, slice_get_within}
use Rattle.xns_agenda.specs.Waiting.{Waiting, StepsAt, still, step, close, HearsAt, no_word, word, act_at, act_by, after_act, after_by, after_heard, after_step, after_word, due_time, idling, waiting_on}
use Rattle.xns_agenda.specs.declared.act.Act.{Act}
use Rattle.xns_agenda.specs.declared.act.Act.TheVariants.{Nothing, GiveUp, Forget}
use Rattle.xns_agenda.specs.declared.due.Due.{Due}
use Rattle.xns_agenda.specs.declared.progress.Progress.{Progress}
use Rattle.xns_agenda.specs.declared.due.Due.TheVariants.{Never, AgainAt, AskAt, ForgetAt}
use Rattle.xns_connection.specs.Connecting.{is_closed_due, is_dead}
use Rattle.xns_host.specs.Hosting.{HasNoneDone, IsApart, IsNotDone, IsNotDoneIn, is_lingering, may_go}
use Rattle.xns_connection.specs.Deeds as deeds
use Rattle.xns_connection.specs.Deeds.{Deed}
use Rattle.xns_connection.specs.Step.{WaitsBy}
use Rattle.xns_connection.specs.declared.connection.Connection.{Connection}
use Rattle.xns_host.specs.declared.guest.Guest.{Guest}
use Rattle.xns_connection.specs.declared.why.Why.{Why}
use Rattle.xns_host.proofs.Apart.{set_there}
use Rattle.xns_agenda.proofs.Putting.{place_other, place_set, same_or_other}

abbrev Places : Type 0
Places = List (Option Guest)

-- ---- what lingers lingers on

linger_on : (w : Waiting) (d : Due) (out now : ℕ) → is_lingering d ≡ true → is_lingering w.due ≡ true → is_lingering (waiting_on w d out now).due ≡ true
linger_on w Never out now is at = absurd (cc)
linger_on w (AgainAt t) out now is at = absurd (cc)
linger_on w (AskAt t) out now is at = absurd (cc)
linger_on w (ForgetAt t) out now is at = at

linger_idle : (w : Waiting) (d : Due) (wants : Bool) → is_lingering d ≡ true → is_lingering w.due ≡ true → is_lingering (idling w d wants).due ≡ true
linger_idle w Never wants is at = absurd (cc)
linger_idle w (AgainAt t) wants is at = absurd (cc)
linger_idle w (AskAt t) wants is at = absurd (cc)
linger_idle w (ForgetAt t) wants is at = at

linger_step : (w : Waiting) (b : Option ℕ) (wants : Bool) (now : ℕ) → is_lingering w.due ≡ true → is_lingering (after_step w b wants now).due ≡ true
linger_step w (Some out) wants now at = linger_on w w.due out now at at
linger_step w None wants now at = linger_idle w w.due wants at at

lingers_on : (now : ℕ) (w : Waiting) {v : Waiting} → is_lingering w.due ≡ true → StepsAt now w v → is_lingering v.due ≡ true
lingers_on now w at still = at
lingers_on now w at (step {v = u} next b wants) = linger_step u b wants now (lingers_on now w at next)
lingers_on now w at (close next) = refl

linger_heard : (w : Waiting) (d : Due) (progress : Progress) (reply : Option ℕ) (again : Bool) (now : ℕ) → is_lingering d ≡ true → is_lingering w.due ≡ true
    → is_lingering (after_heard w d progress reply again now).due ≡ true
linger_heard w Never progress reply again now is at = absurd (cc)
linger_heard w (AgainAt t) progress reply again now is at = absurd (cc)
linger_heard w (AskAt t) progress reply again now is at = absurd (cc)
linger_heard w (ForgetAt t) progress reply again now is at = at

linger_word : (w : Waiting) (progress : Progress) (reply : Option ℕ) (again : Bool) (now : ℕ) → is_lingering w.due ≡ true
    → is_lingering (after_word w progress reply again now).due ≡ true
linger_word w progress reply again now at = linger_heard (record w { misses = 0; heard_at = now }) w.due progress reply again now at at

hears_on : (now : ℕ) (w v : Waiting) → is_lingering w.due ≡ true → HearsAt now w v → is_lingering v.due ≡ true
hears_on now w v at (no_word steps) = lingers_on now w at steps
hears_on now w v at (word progress reply again steps) = lingers_on now (after_word w progress reply again now) (linger_word w progress reply again now at) steps

-- whatever was done
pub waits_on : (now : ℕ) (deed : Deed) (w v : Waiting) → is_lingering w.due ≡ true → WaitsBy deed now w v → is_lingering v.due ≡ true
waits_on now deeds.nothing w v at steps = lingers_on now w at steps
waits_on now deeds.asked w v at steps = lingers_on now w at steps
waits_on now (deeds.made call) w v at steps = lingers_on now w at steps
waits_on now (deeds.gave kind words) w v at steps = lingers_on now w at steps
waits_on now deeds.took w v at steps = lingers_on now w at steps
waits_on now (deeds.heard bytes) w v at steps = hears_on now w v at steps

-- ---- one connection

some_not_none : (o : Option Why) → is_some o ≡ true → o ≢ None
some_not_none None is = absurd (cc)
some_not_none (Some w) is = λ none. cc

pub not_done_after : (c d : Connection) → d.told ≡ c.told → (c.closed ≢ None → d.closed ≡ c.closed)
    → (is_lingering c.wait.due ≡ true → is_lingering d.wait.due ≡ true) → IsNotDone c → IsNotDone d
not_done_after c d told closed lingers before = λ so_told.
    let was = before (sym told ∙ so_told) in
    let same = closed (some_not_none c.closed was.0) in
    (ap is_some same ∙ was.0, ap is_dead same ∙ was.1, lingers was.2)

pub not_done_steps : (now : ℕ) (c d : Connection) → d.told ≡ c.told → (c.closed ≢ None → d.closed ≡ c.closed) → StepsAt now c.wait d.wait
    → IsNotDone c → IsNotDone d
not_done_steps now c d told closed steps before = not_done_after c d told closed (λ at. lingers_on now c.wait at steps) before

all_so : (a b c d : Bool) → a ≡ true → b ≡ true → d ≡ true → (a && (b && (c || d))) ≡ true
all_so true true true d is so_told here = refl
all_so true true false d is so_told here = here
all_so true false c d is so_told here = absurd (cc)
all_so false b c d is so_told here = absurd (cc)

lingering_act : (w : Waiting) (d : Due) (now : ℕ) → is_lingering d ≡ true → (act_by w d now ≡ Nothing) ⊎ (act_by w d now ≡ Forget)
lingering_act w Never now is = absurd (cc)
lingering_act w (AgainAt t) now is = absurd (cc)
lingering_act w (AskAt t) now is = absurd (cc)
lingering_act w (ForgetAt t) now is = by (nat_le t now) where
  by : (b : Bool) → ((if b then Forget else Nothing) ≡ Nothing) ⊎ ((if b then Forget else Nothing) ≡ Forget)
  by true = inr refl
  by false = inl refl

-- what is due was done, and it may not be forgotten then
pub not_done_act : (now : ℕ) (c d : Connection) (act : Act) → act ≡ act_at c.wait now → d.told ≡ c.told → (act ≢ GiveUp → d.closed ≡ c.closed)
    → d.wait ≡ after_act c.wait now → may_go d ≡ false → IsNotDone c → IsNotDone d
not_done_act now c d act is told closed wait left before = λ so_told.
    let was = before (sym told ∙ so_told) in
    by so_told was.0 was.1 was.2 (lingering_act c.wait c.wait.due now was.2) where
      by : d.told ≡ true → is_some c.closed ≡ true → is_dead c.closed ≡ false → is_lingering c.wait.due ≡ true
          → (act_at c.wait now ≡ Nothing) ⊎ (act_at c.wait now ≡ Forget)
          → (is_some d.closed ≡ true) × (is_dead d.closed ≡ false) × (is_lingering d.wait.due ≡ true)
      by so_told was alive at (inl nothing) =
          let kept : d.closed ≡ c.closed = closed (λ gave. let e : Nothing ≡ GiveUp = sym nothing ∙ sym is ∙ gave in cc) in
          let same : d.wait ≡ c.wait = wait ∙ ap (λ (a : Act). after_by c.wait a now) nothing in
          (ap is_some kept ∙ was, ap is_dead kept ∙ alive, ap (λ (w : Waiting). is_lingering w.due) same ∙ at)
      by so_told was alive at (inr forgets) =
          let kept : d.closed ≡ c.closed = closed (λ gave. let e : Forget ≡ GiveUp = sym forgets ∙ sym is ∙ gave in cc) in
          let never : d.wait ≡ record c.wait { due = Never } = wait ∙ ap (λ (a : Act). after_by c.wait a now) forgets in
          let gone : may_go d ≡ true
          = all_so (is_some d.closed) d.told (is_dead d.closed) (is_none (due_time d.wait.due)) (ap is_some kept ∙ was) so_told
          (ap (λ (w : Waiting). is_none (due_time w.due)) never) in
          absurd (cc)

-- the program was told why it is closed
told_closed : (b c : Bool) → (b || c) ≡ true → (b ≡ true → c ≡ true) → c ≡ true
told_closed true c is was = was refl
told_closed false c is was = is

lingers_where : (d : Due) → is_closed_due d ≡ true → is_none (due_time d) ≡ false → is_lingering d ≡ true
lingers_where Never is some = absurd (cc)
lingers_where (AgainAt t) is some = absurd (cc)
lingers_where (AskAt t) is some = absurd (cc)
lingers_where (ForgetAt t) is some = refl

neither : (a b c d : Bool) → a ≡ true → b ≡ true → (a && (b && (c || d))) ≡ false → (c ≡ false) × (d ≡ false)
neither true true true d is so_told not = absurd (cc)
neither true true false d is so_told not = (refl, not)
neither true false c d is so_told not = absurd (cc)
neither false b c d is so_told not = absurd (cc)

pub not_done_told : (c d : Connection) → d ≡ record c { told = d.told } → d.told ≡ (c.told || is_some c.closed) → may_go d ≡ false → IsNotDone c
    → IsNotDone d
not_done_told c d is told left before = λ so_told.
    let closed : is_some c.closed ≡ true = told_closed c.told (is_some c.closed) (sym told ∙ so_told) (λ was. (before was).0) in
    let same : is_some d.closed ≡ true = ap (λ (x : Connection). is_some x.closed) is ∙ closed in
    let not = neither (is_some d.closed) d.told (is_dead d.closed) (is_none (due_time d.wait.due)) same so_told left in
    (same, not.0, lingers_where d.wait.due (d.fits.closed_due (some_not_none d.closed same)) not.1)

-- a new one is not told of
pub not_done_new : (c : Connection) → c.told ≡ false → IsNotDone c
not_done_new c untold = λ so_told. absurd (cc)

-- ---- all places

pub none_done : (gs : Places) (most : ℕ) → gs ≡ replicate most None → HasNoneDone gs
none_done gs most is = record { each = λ k g there. absurd (nobody most k g (sym (ap (λ (xs : Places). slice_get xs k) is) ∙ there)) } where
  nobody : (m k : ℕ) (g : Guest) → slice_get (replicate m None) k ≡ Some (Some g) → ⊥
  nobody zero k g there = cc
  nobody (suc m) zero g there = cc
  nobody (suc m) (suc k) g there = nobody m k g there

at_place : (P : Option Guest → Type 0) (o : Option (Option Guest)) (p q : Option Guest) → o ≡ Some p → o ≡ Some q → P p → P q
at_place P o p q left right said = subst P (same_Some p q (sym left ∙ right)) said

was_not_done : (gs : Places) (n : ℕ) (old : Option Guest) → HasNoneDone gs → old ≡ get_or gs n old → n < length gs → IsNotDoneIn old
was_not_done gs n None all read less = tt
was_not_done gs n (Some g) all read less = all.each n g (slice_get_read gs (length gs) n (Some g) refl less read)

-- the connection in one place is another now
pub still_not_done : (gs : Places) (n : ℕ) (old v : Option Guest) → HasNoneDone gs → (IsNotDoneIn old → IsNotDoneIn v) → old ≡ get_or gs n old
    → n < length gs → HasNoneDone (slice_set gs n v)
still_not_done gs n old v all after read less = record { each = λ k g there. by k g there (same_or_other k n) } where
  by : (k : ℕ) (g : Guest) → slice_get (slice_set gs n v) k ≡ Some (Some g) → (k ≡ n) ⊎ (k ≢ n) → IsNotDone g.connection
  by k g there (inl e) =
      let here : slice_get (slice_set gs n v) n ≡ Some (Some g) = subst (λ (m : ℕ). slice_get (slice_set gs n v) m ≡ Some (Some g)) e there in
      at_place IsNotDoneIn (slice_get (slice_set gs n v) n) v (Some g) (set_there gs (slice_set gs n v) n v less refl) here
      (after (was_not_done gs n old all read less))
  by k g there (inr other) = all.each k g (sym (place_other gs n k v other) ∙ there)

-- a connection came into a place
pub came_not_done : (gs hs : Places) (n : ℕ) (g : Guest) → HasNoneDone gs → IsApart gs hs n → slice_get hs n ≡ Some (Some g)
    → IsNotDone g.connection → HasNoneDone hs
came_not_done gs hs n g all apart here new = record { each = λ k h there. by k h there (same_or_other k n) } where
  by : (k : ℕ) (h : Guest) → slice_get hs k ≡ Some (Some h) → (k ≡ n) ⊎ (k ≢ n) → IsNotDone h.connection
  by k h there (inl e) =
      at_place IsNotDoneIn (slice_get hs n) (Some g) (Some h) here (subst (λ (m : ℕ). slice_get hs m ≡ Some (Some h)) e there) new
  by k h there (inr other) = all.each k h (sym (apart.others k other) ∙ there)

-- a connection is gone
pub gone_not_done : (gs hs : Places) (n : ℕ) → HasNoneDone gs → hs ≡ slice_set gs n None → HasNoneDone hs
gone_not_done gs hs n all is = record { each = λ k g there. by k g there (same_or_other k n) } where
  by : (k : ℕ) (g : Guest) → slice_get hs k ≡ Some (Some g) → (k ≡ n) ⊎ (k ≢ n) → IsNotDone g.connection
  by k g there (inl e) =
      let here : slice_get (slice_set gs n None) n ≡ Some (Some g) = subst (λ (m : ℕ). slice_get (slice_set gs n None) m ≡ Some (Some g)) e (subst (λ (xs : Places). slice_get xs k ≡ Some (Some g)) is there) in
      let none : Some None ≡ Some (Some g) = sym (place_set gs n None (omega (arith, slice_get_within (slice_set gs n None) n (Some g) here, length-set gs n None))) ∙ here in
      absurd (cc)
  by k g there (inr other) = all.each k g (sym (place_other gs n k None other) ∙ subst (λ (xs : Places). slice_get xs k ≡ Some (Some g)) is there)

-- a connection that lingers has a time at which something is due
not_lingering : (d : Due) → is_lingering d ≡ true → is_none (due_time d) ≡ false
not_lingering Never is = absurd (cc)
not_lingering (AgainAt t) is = refl
not_lingering (AskAt t) is = refl
not_lingering (ForgetAt t) is = refl

parts : (a b c d : Bool) → (a && (b && (c || d))) ≡ true → (b ≡ true) × ((c || d) ≡ true)
parts true true c d is = (refl, is)
parts true false c d is = absurd (cc)
parts false b c d is = absurd (cc)

not_past : (c d : Bool) → (c || d) ≡ true → c ≡ false → d ≡ false → ⊥
not_past true d is alive later = cc
not_past false true is alive later = cc
not_past false false is alive later = cc

pub not_gone_yet : (c : Connection) → IsNotDone c → may_go c ≡ true → ⊥
not_gone_yet c before go =
    let both = parts (is_some c.closed) c.told (is_dead c.closed) (is_none (due_time c.wait.due)) go in
    let was = before both.0 in
    not_past (is_dead c.closed) (is_none (due_time c.wait.due)) both.1 was.1 (not_lingering c.wait.due was.2)
