-- The texts that are shown of the programs of a handle.
use Rattle.std.proofs.Common.{◌≡◌, ℕ, List, [], Option, Some, None, Result, Ok, refl, subst, sym}
use Rattle.std.specs.Global.{Vec}
use Rattle.call_texts.specs.Calls.{ShowsDeclared, abort_shown, call_shown, return_shown}
use Rattle.call_texts.specs.Showing.{UnreadModel}
use Rattle.call_texts.specs.declared.unread.Unshown.{Unshown}
use Rattle.courier_programs.specs.declared.program.Program.{Program}
use Rattle.xns_c.specs.Programs.{programs_in}
use Rattle.xns_c.specs.declared.kept_programs.KeptPrograms.{KeptPrograms}

-- a handle shows the text that its programs have; one without programs shows none, where no programs have no text
pub shown_in : (found : Option KeptPrograms) (shown : Result (Option (Vec ℕ)) Unshown) (text : List Program → Option (Result (List ℕ) UnreadModel))
    → text [] ≡ None → (found ≡ None → shown ≡ Ok None) → ((k : KeptPrograms) → found ≡ Some k → ShowsDeclared shown (text k.programs.items))
    → ShowsDeclared shown (text (programs_in found))
shown_in None shown text empty none some =
    subst (λ (r : Result (Option (Vec ℕ)) Unshown). ShowsDeclared r (text [])) (sym (none refl)) empty
shown_in (Some k) shown text empty none some = some k refl

-- no programs declare no call
pub no_call : (program version procedure : ℕ) (words : List ℕ) → call_shown [] program version procedure words ≡ None
unfolding call_shown
no_call program version procedure words = refl

-- no programs declare no return
pub no_return : (program version procedure : ℕ) (words : List ℕ) → return_shown [] program version procedure words ≡ None
unfolding return_shown
no_return program version procedure words = refl

-- no programs declare no abort
pub no_abort : (program version error : ℕ) (words : List ℕ) → abort_shown [] program version error words ≡ None
unfolding abort_shown
no_abort program version error words = refl
