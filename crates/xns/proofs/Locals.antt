-- A command that gets one more argument has an argument for all subcommands just where it had one before, if the argument is for this command alone.
use Rattle.std.proofs.Common.{◌≡◌, ◌∙◌, ap, Bool, false, ◌||◌}
use Rattle.std.proofs.Math.Bool.{or-false}

pub stays_local : {g h l : Bool} → g ≡ (h || l) → l ≡ false → g ≡ h
stays_local {h = h} globals local = globals ∙ ap (λ b. h || b) local ∙ or-false h
