-- What leaves it as it was whether the program was told that a connection is closed, and which identifier the connection has; and that a new
-- connection has another identifier.
use Rattle.std.proofs.Common.{◌≡◌, ◌≢◌, ap, refl, sym, ℕ, Bool, true, false, List, Option, Some, None, Result, ◌∙◌}
use Rattle.std.specs.Prelude.{if◌then◌else◌, slice_get}
use Rattle.std.specs.Option.{is_some}
use Rattle.std.specs.declared.alloc.AllocError.{AllocError}
use Rattle.xns_connection.specs.Deeds as deeds
use Rattle.xns_connection.specs.Deeds.{Parts, acted_by, unserved}
use Rattle.xns_connection.specs.Ends.{AConnectionKeepsItsEnd}
use Rattle.xns_connection.specs.Step.{GivesNext, Hands, MovesOwed, none_waits, calmly, moving_on}
use Rattle.xns_agenda.specs.declared.act.Act.{Act}
use Rattle.xns_agenda.specs.declared.act.Act.TheVariants.{Nothing, Again, Ask, GiveUp, Forget}
use Rattle.xns_connection.specs.declared.connection.Connection.{Connection}
use Rattle.xns_host.proofs.Ends.{same_id}
use Rattle.xns_host.proofs.Joining.{unowned}
use Rattle.xns_host.specs.Identifiers.{IsNextIdentifier}
use Rattle.xns_host.specs.Knowing.{id_of}
use Rattle.xns_host.specs.Register.{owner_in}
use Rattle.xns_host.specs.Registered.{IsAllRegistered}
use Rattle.xns_host.specs.Went.{GuestHears, hears, lost}
use Rattle.xns_host.specs.declared.guest.Guest.{Guest}
use Rattle.xns_host.specs.declared.register.Register.{Register}

-- ---- whether the program was told

pub acted_told : (p : Parts) (act : Act) (now : ℕ) → (acted_by p act now).told ≡ p.told
acted_told p Nothing now = refl
acted_told p Again now = refl
acted_told p Ask now = refl
acted_told p GiveUp now = refl
acted_told p Forget now = refl

either_told : (b : Bool) (p q : Parts) → q.told ≡ p.told → (if b then p else q).told ≡ p.told
either_told true p q same = refl
either_told false p q same = same

pub unserved_told : (p : Parts) (error now : ℕ) → (unserved p error now).told ≡ p.told
unserved_told p error now = either_told (is_some p.closed) p _ refl

moved_told : (b : Bool) (now : ℕ) (old mid : Connection) → MovesOwed b now old mid → mid.told ≡ old.told
moved_told true now old mid step = step.told
moved_told false now old mid same = ap (λ (c : Connection). c.told) same

pub given_told : (now : ℕ) (old new : Connection) {result : Result (Option (List ℕ)) AllocError} → GivesNext now result old new → new.told ≡ old.told
given_told now old new g = g.told ∙ moved_told old.owed.moving now old g.mid g.moved

pub handed_told : (now : ℕ) (old new : Connection) → Hands now old new → new.told ≡ old.told
handed_told now old new (none_waits none same) = ap (λ (c : Connection). c.told) same
handed_told now old new (calmly waits calm is) = ap (λ (p : Parts). p.told) is
handed_told now old new (moving_on waits moves step) = step.told

-- ---- which identifier it has

pub heard_id : AConnectionKeepsItsEnd → (now : ℕ) (bytes : List ℕ) (confirming : Bool) (g h : Guest) → GuestHears now bytes confirming g h → id_of h ≡ id_of g
heard_id ends now bytes confirming g h (hears step) = same_id g h (ends.steps now (deeds.heard bytes) g.connection h.connection step.step)
heard_id ends now bytes confirming g h (lost stores) = refl

-- ---- the identifier that comes next

-- none that was there has it
pub another_id : (register : Register) (gs : List (Option Guest)) (h : Guest) → IsAllRegistered register gs → IsNextIdentifier register.identifiers (id_of h)
    → (n : ℕ) (g : Guest) → slice_get gs n ≡ Some (Some g) → id_of h ≢ id_of g
another_id register gs h all next n g e same =
    let none : None ≡ Some n = sym (unowned register.identifiers (id_of h) next) ∙ ap (owner_in register.identifiers) same ∙ (all.each n g e).own in
    absurd (cc)
