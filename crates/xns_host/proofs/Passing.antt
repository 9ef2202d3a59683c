-- What a host has always stays where a connection had nothing to tell.
use Rattle.std.proofs.Common.{◌≡◌, ◌<◌, ◌≤◌, ◌∙◌, ap, arith, sym, subst, ℕ, List, Option, None, get_or, slice_set, length, false}
use Rattle.xns_agenda.specs.Agenda.{IsFor, Plan}
use Rattle.xns_agenda.specs.Turns.{with_turn}
use Rattle.xns_host.specs.Events.{event_in}
use Rattle.xns_host.specs.Hosting.{HasNoneDone, IsAllNoted}
use Rattle.xns_host.specs.Registered.{IsAllRegistered}
use Rattle.xns_host.specs.Settings.{most_connections}
use Rattle.xns_host.specs.declared.guest.Guest.{Guest}
use Rattle.xns_host.specs.declared.host.Host.{Host}
use Rattle.xns_host.proofs.Noting.{told_nothing}
use Rattle.xns_host.proofs.Placed.{set_back}
use Rattle.xns_host.proofs.Turns.{back_registered, back_undone}

abbrev Places : Type 0
Places = List (Option Guest)

-- what a host has always, with these places and this agenda
pub record StandsWith (h : Host) (gs : Places) (a : Plan) : Type 0 where
  pub sized : length gs ≡ length a.dues
  pub few : length gs ≤ most_connections
  pub settled : length gs ≡ h.settings.connections
  pub noted : IsAllNoted a gs
  pub registered : IsAllRegistered h.register gs
  pub not_done : HasNoneDone gs

-- a connection that had nothing to tell was put back, and had its turn
pub none_told : (h : Host) (b : Plan) (n : ℕ) (old v : Option Guest) → b ≡ record h.agenda { events = with_turn h.agenda.events n false }
    → IsFor h.agenda (length h.agenda.dues) → n < length h.guests.items → old ≡ get_or h.guests.items n old → v ≡ old → event_in n old ≡ None
    → StandsWith h (slice_set h.guests.items n v) b
none_told h b n old v passed room within read same quiet =
    let gs : Places = h.guests.items in
    let less : n < length h.agenda.dues = omega (arith, within, h.sized) in
    let back : slice_set gs n v ≡ gs = set_back gs n old v read same in
    let told = told_nothing h.agenda gs n (length h.agenda.dues) old v h.noted room less within read same quiet in
    subst (StandsWith h (slice_set gs n v)) (sym passed) (record {
      sized = ap (λ (xs : Places). length xs) back ∙ h.sized;
      few = subst (λ (xs : Places). length xs ≤ most_connections) (sym back) h.few;
      settled = ap (λ (xs : Places). length xs) back ∙ h.settled;
      noted = told;
      registered = back_registered h.register gs n old v h.registered same read;
      not_done = back_undone gs n old v h.not_done same read;
    })
