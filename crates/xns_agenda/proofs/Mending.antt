-- What goes out again where the peer acknowledges more, and what is measured then.
use Rattle.std.proofs.Common.{◌≡◌, refl, ℕ, ◌-◌, ◌<◌, true}
use Rattle.std.specs.Prelude.{nat_le, nat_lt}
use Rattle.std.proofs.lemmas.Bool.{and_parts, cond-false, lt-leb, ltb-true}
use Rattle.xns_agenda.specs.Measuring.{is_fit, is_vain, learnt, mends, sampled}
use Rattle.xns_agenda.specs.declared.measure.Measure.{Measure}
use Rattle.xns_agenda.specs.declared.pace.Pace.{Pace}
use Rattle.xns_agenda.specs.declared.progress.Progress.{Progress}
use Rattle.xns_agenda.specs.declared.timing.Timing.{Timing}
use Rattle.xns_agenda.specs.declared.timing.Timing.TheVariants.{Ready, Timed, Resent, Over}

pub only_vain : (m : Measure) (pace : Pace) (timing : Timing) (acknowledged now : ℕ) → mends m pace timing acknowledged now ≡ true → is_vain timing ≡ true
only_vain m pace Ready acknowledged now is = absurd (cc)
only_vain m pace (Timed since place) acknowledged now is = absurd (cc)
only_vain m pace (Resent at missing) acknowledged now is = refl
only_vain m pace (Over out) acknowledged now is = absurd (cc)

pub only_out : (m : Measure) (pace : Pace) (at missing acknowledged now : ℕ) → mends m pace (Resent at missing) acknowledged now ≡ true
    → acknowledged < missing
only_out m pace at missing acknowledged now is =
    ltb-true acknowledged missing (and_parts (nat_lt acknowledged missing) (is_fit m.smoothed pace (now - at)) is).0

pub only_its_own : (m : Measure) (pace : Pace) (since place now : ℕ) (progress : Progress) → progress.acknowledged < place
    → learnt m pace (Timed since place) progress now ≡ m
only_its_own m pace since place now progress before =
    cond-false (nat_le place progress.acknowledged) (sampled m pace (now - since)) m (lt-leb place progress.acknowledged before)
