-- A silent peer is given up: each packet that goes out by the time alone is a miss.
use Rattle.std.proofs.Common.{◌≡◌, ◌∙◌, refl, ℕ, ◌+◌, ◌<◌, ◌≤◌, Bool, true, false, Option, Some, None, arith}
use Rattle.std.specs.Prelude.{nat_le, if◌then◌else◌}
use Rattle.std.proofs.lemmas.Bool.{leb-false}
use Rattle.xns_agenda.specs.Measuring.{borne as is_borne}
use Rattle.xns_agenda.specs.Waiting.{Waiting, Silence, here, steps, sends, act_at, act_by, after_by, after_step, is_sent, unless_silent, waiting_on, idling}
use Rattle.xns_agenda.specs.declared.act.Act.{Act}
use Rattle.xns_agenda.specs.declared.act.Act.TheVariants.{Nothing, Again, Ask, GiveUp, Forget}
use Rattle.xns_agenda.specs.declared.due.Due.{Due}
use Rattle.xns_agenda.specs.declared.due.Due.TheVariants.{Never, AgainAt, AskAt, ForgetAt}

record Beside (w v : Waiting) (n : ℕ) : Type 0 where
  pub most : is_borne v.measure v.pace ≡ is_borne w.measure w.pace
  pub misses : v.misses ≡ w.misses + n

-- ---- a step is no miss

waits : (w : Waiting) (d : Due) (out now : ℕ) → Beside w (waiting_on w d out now) 0
waits w Never out now = record { most = refl; misses = omega arith }
waits w (AgainAt t) out now = record { most = refl; misses = omega arith }
waits w (AskAt t) out now = record { most = refl; misses = omega arith }
waits w (ForgetAt t) out now = record { most = refl; misses = omega arith }

idles : (w : Waiting) (d : Due) (wants : Bool) → Beside w (idling w d wants) 0
idles w Never wants = record { most = refl; misses = omega arith }
idles w (AgainAt t) wants = record { most = refl; misses = omega arith }
idles w (AskAt t) wants = record { most = refl; misses = omega arith }
idles w (ForgetAt t) wants = record { most = refl; misses = omega arith }

stepped : (w : Waiting) (b : Option ℕ) (wants : Bool) (now : ℕ) → Beside w (after_step w b wants now) 0
stepped w (Some out) wants now = waits w w.due out now
stepped w None wants now = idles w w.due wants

-- ---- a packet is one, and goes out only where fewer did than are borne

misses_one : (w : Waiting) (a : Act) (now : ℕ) → is_sent a ≡ true → Beside w (after_by w a now) 1
misses_one w Nothing now sent = absurd (cc)
misses_one w Again now sent = record { most = refl; misses = refl }
misses_one w Ask now sent = record { most = refl; misses = refl }
misses_one w GiveUp now sent = absurd (cc)
misses_one w Forget now sent = absurd (cc)

fewer : (b : Bool) (w : Waiting) (a : Act) → nat_le (is_borne w.measure w.pace) w.misses ≡ b → is_sent (if b then GiveUp else a) ≡ true → w.misses < is_borne w.measure w.pace
fewer true w a test sent = absurd (cc)
fewer false w a test sent = leb-false (is_borne w.measure w.pace) w.misses test

gated : (b : Bool) (w : Waiting) (a : Act) → is_sent (if b then unless_silent w a else Nothing) ≡ true → w.misses < is_borne w.measure w.pace
gated true w a sent = fewer (nat_le (is_borne w.measure w.pace) w.misses) w a refl sent
gated false w a sent = absurd (cc)

forgets : (b : Bool) → is_sent (if b then Forget else Nothing) ≡ true → ⊥
forgets true sent = cc
forgets false sent = cc

borne : (w : Waiting) (d : Due) (now : ℕ) → is_sent (act_by w d now) ≡ true → w.misses < is_borne w.measure w.pace
borne w Never now sent = absurd (cc)
borne w (AgainAt t) now sent = gated (nat_le t now) w Again sent
borne w (AskAt t) now sent = gated (nat_le t now) w Ask sent
borne w (ForgetAt t) now sent = absurd (forgets (nat_le t now) sent)

-- ---- from one moment to another

pub record Patient (w v : Waiting) (n : ℕ) : Type 0 where
  pub same : is_borne v.measure v.pace ≡ is_borne w.measure w.pace
  pub misses : w.misses + n ≡ v.misses
  pub most : w.misses + n ≤ is_borne w.measure w.pace

pub patient : (w : Waiting) {n : ℕ} {v : Waiting} → w.misses ≤ is_borne w.measure w.pace → Silence w n v → Patient w v n
patient w most here = record { same = refl; misses = omega arith; most = omega arith }
patient w most (steps {v = v} before waits wants now) =
    let p = patient w most before in
    let s = stepped v waits wants now in
    let none = s.misses in
    let count = p.misses in
    record { same = s.most ∙ p.same; misses = omega (arith, none, count); most = p.most }
patient w most (sends {v = v} before now sent) =
    let p = patient w most before in
    let s = misses_one v (act_at v now) now sent in
    let one = s.misses in
    let count = p.misses in
    let room : v.misses < is_borne v.measure v.pace = borne v v.due now sent in
    let same = p.same in
    record { same = s.most ∙ p.same; misses = omega (arith, one, count); most = omega (arith, room, same, count) }
