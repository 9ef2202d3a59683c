-- A peer that says no word is waited for as long as the patience says.
use Rattle.std.proofs.Common.{Some, ◌≡◌, ◌≢◌, ◌∙◌, ap, add-one, refl, sym, subst, ℕ, zero, suc, ◌+◌, ◌<◌, ◌≤◌, Bool, true, false, arith}
use Rattle.std.specs.Prelude.{nat_le, if◌then◌else◌}
use Rattle.std.proofs.lemmas.Bool.{leb-true}
use Rattle.xns_agenda.specs.Measuring.{borne, first_wait, most_borne, next_length, waits_time}
use Rattle.xns_agenda.specs.Waiting.{Waiting, act_at, act_by, after_by, after_step, later, timed, unless_silent, waiting_on}
use Rattle.xns_agenda.specs.Patience.{Vain, begins, steps, sends}
use Rattle.xns_agenda.specs.declared.act.Act.{Act}
use Rattle.xns_agenda.specs.declared.act.Act.TheVariants.{Nothing, Again, GiveUp}
use Rattle.xns_agenda.specs.declared.due.Due.{Due}
use Rattle.xns_agenda.specs.declared.due.Due.TheVariants.{AgainAt}
use Rattle.xns_agenda.specs.declared.measure.Measure.{Measure}
use Rattle.xns_agenda.specs.declared.pace.Pace.{Pace}
use Rattle.xns_agenda.proofs.Measures.{patient, tried, waits_grow}

-- ---- how long a wait is, after so many

unfoldable pub length_after : Pace → (length count : ℕ) → ℕ
length_after pace length zero = length
length_after pace length (suc n) = length_after pace (next_length pace length) n

pub next_after : (pace : Pace) (length n : ℕ) → length_after pace length (suc n) ≡ next_length pace (length_after pace length n)
unfolding length_after
next_after pace length zero = refl
next_after pace length (suc n) = next_after pace (next_length pace length) n

pub time_after : (pace : Pace) (length n : ℕ) → waits_time pace length (suc n) ≡ waits_time pace length n + length_after pace length n
unfolding length_after waits_time
time_after pace length zero = omega arith
time_after pace length (suc n) = let rest = time_after pace (next_length pace length) n in omega (arith, rest)

-- ---- a packet goes out, or the peer is given up, only when the wait is over

pub over : (act : Act) → act ≢ Nothing → (b : Bool) (v : Waiting) (t now : ℕ) → nat_le t now ≡ b
    → (if b then unless_silent v act else Nothing) ≡ act → t ≤ now
over act some true v t now test is = leb-true t now test
over act some false v t now test is = absurd (some (sym is))

given_by : (act : Act) → act ≢ GiveUp → (b : Bool) → (if b then GiveUp else act) ≡ GiveUp → b ≡ true
given_by act other true is = refl
given_by act other false is = absurd (other is)

pub record GivenUp (v : Waiting) (t now : ℕ) : Type 0 where
  pub over : t ≤ now
  pub many : borne v.measure v.pace ≤ v.misses

pub given_up : (act : Act) → act ≢ GiveUp → (b : Bool) (v : Waiting) (t now : ℕ) → nat_le t now ≡ b
    → (if b then unless_silent v act else Nothing) ≡ GiveUp → GivenUp v t now
given_up act other true v t now test is = record {
  over = leb-true t now test;
  many = leb-true (borne v.measure v.pace) v.misses (given_by act other (nat_le (borne v.measure v.pace) v.misses) is);
}
given_up act other false v t now test is = absurd (cc)

-- ---- from one packet to the next

-- what a wait is after n packets went out: a wait of the length `first` began once `span` had passed since `start`, and each further wait at
-- the end of the one before
pub record GoesBy (at : ℕ → Due) (start span first : ℕ) (w : Waiting) (n : ℕ) (pace_now : Pace) (measure_now : Measure) (misses_now length_now : ℕ) (due_now : Due) : Type 0 where
  pub pace : pace_now ≡ w.pace
  pub measure : measure_now ≡ w.measure
  pub misses : misses_now ≡ w.misses + n
  pub length : length_now ≡ length_after w.pace first n
  pub until : ℕ
  pub due : due_now ≡ at until
  pub late : later start (span + waits_time w.pace first n) ≤ until

-- n packets went out, of which none need be timed
abbrev pub Goes : (at : ℕ → Due) (start span first : ℕ) → Waiting → ℕ → Waiting → Type 0
Goes at start span first w n v = GoesBy at start span first w n v.pace v.measure v.misses v.length v.due

-- the first wait
pub goes_first : (at : ℕ → Due) (start span first : ℕ) (w v : Waiting) → v.pace ≡ w.pace → v.measure ≡ w.measure → v.misses ≡ w.misses → v.length ≡ first
    → v.due ≡ at (later start span) → Goes at start span first w 0 v
unfolding length_after waits_time
goes_first at start span first w v pace measure misses length due = record {
  pace = pace;
  measure = measure;
  misses = omega (arith, misses);
  length = length;
  until = later start span;
  due = due;
  late = omega arith;
}

later_on : (start time until now length : ℕ) → later start time ≤ until → until ≤ now → later start (time + length) ≤ later now length
later_on start time until now length late more = grind arith

pub goes_on : (at : ℕ → Due) (start span first : ℕ) (w v u : Waiting) (n now : ℕ) (before : Goes at start span first w n v) → before.until ≤ now
    → u.pace ≡ v.pace → u.measure ≡ v.measure → u.misses ≡ v.misses + 1 → u.length ≡ next_length v.pace v.length → u.due ≡ at (later now v.length)
    → Goes at start span first w (n + 1) u
goes_on at start span first w v u n now before more pace measure misses length due =
    let one : waits_time w.pace first (suc n) ≡ waits_time w.pace first n + v.length
    = time_after w.pace first n ∙ ap (λ (l : ℕ). waits_time w.pace first n + l) (sym before.length) in
    let sum : span + waits_time w.pace first (suc n) ≡ span + waits_time w.pace first n + v.length = omega (arith, one) in
    let missed = before.misses in
    subst (λ (k : ℕ). Goes at start span first w k u) (sym (add-one n)) (record {
      pace = pace ∙ before.pace;
      measure = measure ∙ before.measure;
      misses = omega (arith, misses, missed);
      length = length ∙ ap (λ (p : Pace). next_length p v.length) before.pace ∙ ap (next_length w.pace) before.length ∙ sym (next_after w.pace first n);
      until = later now v.length;
      due = due;
      late = subst (λ (t : ℕ). later start t ≤ later now v.length) (sym sum)
          (later_on start (span + waits_time w.pace first n) before.until now v.length before.late more);
    })

-- where the peer is given up, as many packets went out as are borne
pub all_borne : (at : ℕ → Due) (start span first : ℕ) (w v : Waiting) (n : ℕ) → w.misses ≡ 0 → Goes at start span first w n v
    → borne v.measure v.pace ≤ v.misses → borne w.measure w.pace ≤ n
all_borne at start span first w v n none b many =
    let same : borne v.measure v.pace ≡ borne w.measure w.pace
    = ap (λ (p : Pace). borne v.measure p) b.pace ∙ ap (λ (m : Measure). borne m w.pace) b.measure in
    let misses = b.misses in
    omega (arith, none, same, misses, many)

-- ---- from the first wait on

abbrev Waited : (start : ℕ) → Waiting → ℕ → Waiting → Type 0
Waited start w = Goes AgainAt start (first_wait w.measure w.pace) (next_length w.pace (first_wait w.measure w.pace)) w

begun_at : (start : ℕ) (w : Waiting) (out : ℕ) → Waited start w 0 (timed w out start)
begun_at start w out = goes_first AgainAt start _ _ w (timed w out start) refl refl refl refl refl

sent_again : (start : ℕ) (w v : Waiting) (n now : ℕ) → Waited start w n v → act_at v now ≡ Again → Waited start w (n + 1) (after_by v Again now)
sent_again start w v n now before is =
    let more = over Again (λ e. absurd (cc)) (nat_le before.until now) v before.until now refl (ap (λ (d : Due). act_by v d now) (sym before.due) ∙ is) in
    goes_on AgainAt start _ _ w v (after_by v Again now) n now before more refl refl refl refl refl

waited : {start : ℕ} {w : Waiting} {n : ℕ} {v : Waiting} → Vain start w n v → Waited start w n v
waited {start = start} {w = w} (begins out) = begun_at start w out
waited {start = start} {w = w} {n = n} (steps {v = v} before out wants now) =
    let b = waited before in
    let same : after_step v (Some out) wants now ≡ waiting_on v (AgainAt b.until) out now = ap (λ (d : Due). waiting_on v d out now) b.due in
    subst (λ (u : Waiting). Waited start w n u) (sym same) b
waited {start = start} {w = w} (sends {n = n} {v = v} before now is) =
    let b = sent_again start w v n now (waited before) is in
    subst (λ (a : Act). Waited start w (n + 1) (after_by v a now)) (sym is) b

-- ---- a peer that is given up

pub later_by : (start a b until now : ℕ) → a ≤ b → later start b ≤ until → until ≤ now → later start a ≤ now
later_by start a b until now less late over = grind arith

pub record Early (start : ℕ) (w : Waiting) (n now : ℕ) : Type 0 where
  pub tries : w.pace.tries ≤ n
  pub patience : n < most_borne → later start w.pace.patience ≤ now

pub not_early : (w v : Waiting) (start n now : ℕ) → w.misses ≡ 0 → Vain start w n v → act_at v now ≡ GiveUp → Early start w n now
unfolding waits_time
not_early w v start n now none vain is =
    let b = waited vain in
    let test : act_by v (AgainAt b.until) now ≡ GiveUp = ap (λ (d : Due). act_by v d now) (sym b.due) ∙ is in
    let g = given_up Again (λ e. absurd (cc)) (nat_le b.until now) v b.until now refl test in
    let all = all_borne AgainAt start _ _ w v n none b g.many in
    let tries = tried w.measure w.pace in
    record {
      tries = omega (arith, tries, all);
      patience = λ few.
          let first : ℕ = first_wait w.measure w.pace in
          let enough = patient w.measure w.pace (omega (arith, all, few)) in
          let grown = waits_grow w.pace first (borne w.measure w.pace + 1) (suc n) (omega (arith, all)) in
          later_by start w.pace.patience (waits_time w.pace first (suc n)) b.until now (omega (arith, enough, grown)) b.late g.over;
    }
