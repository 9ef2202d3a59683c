-- What is shown is what the texts by name are.
use Rattle.std.proofs.Common.{◌≡◌, ◌∙◌, sym, subst, ℕ, Option, Some, None, Result, Ok, Err}
use Rattle.std.specs.Prelude.{IfOk, OnErr}
use Rattle.std.specs.Global.{Vec}
use Rattle.call_texts.specs.Calls.{ShowsDeclared}
use Rattle.call_texts.specs.Showing.{IfNoMemory}
use Rattle.call_texts.specs.declared.unread.Unshown.{Unshown}
use Rattle.call_texts.specs.declared.unread.Unshown.TheVariants as unshown
use Rattle.xns_calls.specs.Naming.{Declares, ShownModel, shown_model}
use Rattle.xns_calls.specs.declared.shown.Shown.{Shown}

pub agree : {E : Type 0} (text : Result (Option (Vec ℕ)) Unshown) (model : ShownModel) (answer : Result Shown E) → ShowsDeclared text model
    → IfOk answer (λ shown. Declares text (shown_model shown)) → IfOk answer (λ shown. shown_model shown ≡ model)
agree text model (Err e) shows declares = tt
agree (Ok (Some v)) model (Ok shown) shows declares = declares ∙ sym shows
agree (Ok None) model (Ok shown) shows declares = declares ∙ sym shows
agree (Err (unshown.Unread u)) model (Ok shown) shows declares = declares ∙ sym shows
agree (Err unshown.NoMemory) model (Ok shown) shows declares = absurd declares

pub wanted : {E : Type 0} (wants : Type 0) (text : Result (Option (Vec ℕ)) Unshown) (answer : Result Shown E) → IfNoMemory text wants
    → OnErr answer (text ≡ Err unshown.NoMemory) → OnErr answer wants
wanted wants text (Ok shown) memory starved = tt
wanted wants text (Err e) memory starved = subst (λ t. IfNoMemory t wants) starved memory
