-- Steps of one moment.
use Rattle.std.proofs.Common.{◌≡◌, refl, subst, sym, ℕ, Bool, true, false, Option}
use Rattle.xns_agenda.specs.declared.progress.Progress.{Progress}
use Rattle.xns_agenda.specs.Waiting.{HearsAt, StepsAt, Waiting, after_step, after_word, close, lingering, no_word, step, still, word}

pub no_step : (w v : Waiting) (now : ℕ) → v ≡ w → StepsAt now w v
no_step w v now same = subst (λ (u : Waiting). StepsAt now w u) (sym same) still

pub one_step : (w v : Waiting) (b : Option ℕ) (wants : Bool) (now : ℕ) → v ≡ after_step w b wants now → StepsAt now w v
one_step w v b wants now is = subst (λ (u : Waiting). StepsAt now w u) (sym is) (step still b wants)

pub one_close : (w v : Waiting) (now : ℕ) → v ≡ lingering w now → StepsAt now w v
one_close w v now is = subst (λ (u : Waiting). StepsAt now w u) (sym is) (close still)

-- a word of the peer may have come first
pub hears_at : (foreign : Bool) (w u v : Waiting) (progress : Progress) (reply : Option ℕ) (again : Bool) (now : ℕ) → (foreign ≡ true → u ≡ w)
    → (foreign ≡ false → u ≡ after_word w progress reply again now) → StepsAt now u v → HearsAt now w v
hears_at true w u v progress reply again now same heard steps = no_word (subst (λ (x : Waiting). StepsAt now x v) (same refl) steps)
hears_at false w u v progress reply again now same heard steps = word progress reply again (subst (λ (x : Waiting). StepsAt now x v) (heard refl) steps)

pub steps_then : (now : ℕ) (u w : Waiting) {v : Waiting} → StepsAt now u w → StepsAt now w v → StepsAt now u v
steps_then now u w first still = first
steps_then now u w first (step next b wants) = step (steps_then now u w first next) b wants
steps_then now u w first (close next) = close (steps_then now u w first next)
