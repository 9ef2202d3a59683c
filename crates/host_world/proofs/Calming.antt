-- What happens at each number where no connection comes: what is due is done, and packets go out.
use Rattle.std.proofs.Common.{◌≡◌, ◌∙◌, ap, sym, subst, ℕ, Bool, true, false, List, [], Option, Some, None, Result, Ok, Err, refl}
use Rattle.std.specs.Prelude.{slice_get, slice_set}
use Rattle.std.specs.Option.{is_some}
use Rattle.std.proofs.lemmas.Option.{slice_get_within}
use Rattle.xns_connection.specs.Ends.{AConnectionKeepsItsEnd}
use Rattle.xns_host.specs.Hosting.{may_go}
use Rattle.xns_host.specs.Places.{ActsOneByOne, ActsAt, GivesNone, NextPacket, Places, PlaceTurns, became, packet_passed, seated, vacated_if}
use Rattle.xns_host.specs.Places as places
use Rattle.xns_host.specs.Went.{GuestGives}
use Rattle.xns_host.specs.declared.guest.Guest.{Guest}
use Rattle.xns_host.specs.declared.host_fault.HostFault.{HostFault}
use Rattle.xns_host.specs.declared.host_fault.HostFault.TheVariants.{NoMemory}
use Rattle.xns_host.specs.declared.outgoing.Outgoing.{Outgoing}
use Rattle.host_world.specs.Dialogue.{Dialogue, Happening, View, free, held}
use Rattle.host_world.specs.Seen.{guest_in, happened_at}
use Rattle.host_world.proofs.Doing.{acting, giving_out}
use Rattle.host_world.proofs.Happens.{Calm, IsClosedWhereTold, between_same, calm_here, calm_join, calm_then}
use Rattle.host_world.proofs.Numbers.{Leads, at_each_place, at_place, goes_from, may_be_told, passes_then, still_there}
use Rattle.host_world.proofs.Shown.{Alone, Passes, Shows, ShowsIn}

-- ---- one place

-- no connection came to the place, and what happened leads from this view of the old place to one of the new one
pub record Calmly (v : View) (old new : Option (Option Guest)) : Type 0 where
  pub calm : Calm (guest_in old) (guest_in new)
  pub passes : Passes (happened_at [] old new) v new

abbrev pub CalmAt : (old new : Option (Option Guest)) → Type 0
CalmAt old new = (v : View) → ShowsIn v old → Calmly v old new

calm_there : (place : Option (Option Guest)) → CalmAt place place
calm_there place v shows = record { calm = calm_here (guest_in place); passes = still_there place v shows }

closed_where_told : (v : View) (place : Option (Option Guest)) → ShowsIn v place → IsClosedWhereTold (guest_in place)
closed_where_told free None shows = tt
closed_where_told free (Some None) shows = tt
closed_where_told free (Some (Some g)) shows = absurd shows
closed_where_told (held d) None shows = absurd shows
closed_where_told (held d) (Some None) shows = absurd shows
closed_where_told (held d) (Some (Some g)) shows = λ z. ap is_some shows.closed ∙ (shows.over (sym shows.told ∙ z)).0

both_calm : (a b c : Option (Option Guest)) → CalmAt a b → CalmAt b c → CalmAt a c
both_calm a b c p q v shows =
    let one = p v shows in
    let two = q one.passes.view one.passes.shows in
    record {
      calm = calm_then (guest_in a) (guest_in b) (guest_in c) one.calm two.calm;
      passes = subst (λ (xs : List Happening). Passes xs v c) (calm_join (guest_in a) (guest_in b) (guest_in c) one.calm two.calm (closed_where_told v a shows))
          (passes_then (happened_at [] a b) (happened_at [] b c) v b c one.passes (λ w s. (q w s).passes));
    }

alone_calm : (g h : Guest) → ((d : Dialogue) → Shows d g → Alone d g h) → CalmAt (Some (Some g)) (Some (Some h))
alone_calm g h each free shows = absurd shows
alone_calm g h each (held d) shows =
    let alone = each d shows in
    record {
      calm = alone.continues;
      passes = subst (λ (xs : List Happening). Passes xs (held d) (Some (Some h))) (sym (between_same [] g h alone.continues.id)) alone.passes;
    }

leaves_calm : (g : Guest) → g.connection.told ≡ true → CalmAt (Some (Some g)) (Some None)
leaves_calm g told v shows = record { calm = told; passes = goes_from v g told shows }

-- ---- all places

abbrev pub AllCalm : (old new : List (Option Guest)) → Type 0
AllCalm old new = (k : ℕ) → CalmAt (slice_get old k) (slice_get new k)

pub leads_calmly : (old new : List (Option Guest)) → AllCalm old new → Leads (λ k. []) old new
leads_calmly old new calm k v shows = (calm k v shows).passes

pub all_calm : (gs : List (Option Guest)) → AllCalm gs gs
all_calm gs k = calm_there (slice_get gs k)

pub calm_if : (old new : List (Option Guest)) → new ≡ old → AllCalm old new
calm_if old new same = subst (AllCalm old) (sym same) (all_calm old)

pub then_calm : (a b c : List (Option Guest)) → AllCalm a b → AllCalm b c → AllCalm a c
then_calm a b c p q k = both_calm (slice_get a k) (slice_get b k) (slice_get c k) (p k) (q k)

set_calm : (gs : List (Option Guest)) (number : ℕ) (old new : Option Guest) → slice_get gs number ≡ Some old → CalmAt (Some old) (Some new) → AllCalm gs (slice_set gs number new)
set_calm gs number old new is one = at_each_place CalmAt calm_there gs number old new is one

pub turned : (P : Guest → Guest → Type 0) (number : ℕ) (p r : Places) → ((d : Dialogue) (g h : Guest) → Shows d g → P g h → Alone d g h) → PlaceTurns P number p r → AllCalm p.guests r.guests
turned P number p r each t =
    subst (AllCalm p.guests) (sym (ap (λ (q : Places). q.guests) t.is))
    (set_calm p.guests number (Some t.guest) (Some t.next) t.was (alone_calm t.guest t.next (λ d s. each d t.guest t.next s t.turn)))

-- ---- what is due, and what goes out

leaves : (p : Places) (number : ℕ) (h : Guest) (b : Bool) → may_go h.connection ≡ b → slice_get p.guests number ≡ Some (Some h) → AllCalm p.guests (vacated_if b p number).guests
leaves p number h false is there = all_calm p.guests
leaves p number h true is there = set_calm p.guests number (Some h) None there (leaves_calm h (may_be_told h.connection is))

acts_at : AConnectionKeepsItsEnd → (now number : ℕ) (p r : Places) → ActsAt now number p r → AllCalm p.guests r.guests
acts_at ends now number p r a =
    let q = seated p number a.next in
    subst (AllCalm p.guests) (sym (ap (λ (s : Places). s.guests) a.is))
    (then_calm p.guests q.guests (became p number a.next).guests
    (set_calm p.guests number (Some a.guest) (Some a.next) a.was (alone_calm a.guest a.next (λ d s. acting ends now d a.guest a.next s a.acts)))
    (leaves q number a.next (may_go a.next.connection) refl (at_place p.guests number (Some a.next) (slice_get_within p.guests number (Some a.guest) a.was))))

pub all_act : AConnectionKeepsItsEnd → (now : ℕ) (p : Places) {r : Places} → ActsOneByOne now p r → AllCalm p.guests r.guests
all_act ends now p ActsOneByOne.nobody = all_calm p.guests
all_act ends now p (ActsOneByOne.another {q = q} {r = r} number before first act) =
    then_calm p.guests q.guests r.guests (all_act ends now p before) (acts_at ends now number q r act)

asks_packet : AConnectionKeepsItsEnd → (now number : ℕ) (result : Result (Option Outgoing) HostFault) (p r : Places) → PlaceTurns (GuestGives now result) number (packet_passed p number) r → AllCalm p.guests r.guests
asks_packet ends now number result p r t = turned (GuestGives now result) number (packet_passed p number) r (λ d g h s g_h. giving_out ends now result d g h s g_h) t

gives_none : AConnectionKeepsItsEnd → (now : ℕ) (p : Places) {r : Places} → GivesNone now p r → AllCalm p.guests r.guests
gives_none ends now p GivesNone.nobody = all_calm p.guests
gives_none ends now p (GivesNone.another {q = q} {r = r} number before first asked) =
    then_calm p.guests q.guests r.guests (gives_none ends now p before) (asks_packet ends now number (Ok None) q r asked)

pub next_packet : AConnectionKeepsItsEnd → (now wait : ℕ) (p : Places) {result : Result (Option Outgoing) HostFault} {r : Places} → NextPacket now wait p result r → AllCalm p.guests r.guests
next_packet ends now wait p (places.nothing before none) = gives_none ends now p before
next_packet ends now wait p (places.gives {q = q} {r = r} {packet = packet} number before first asked) =
    then_calm p.guests q.guests r.guests (gives_none ends now p before) (asks_packet ends now number (Ok (Some packet)) q r asked)
next_packet ends now wait p (places.starves {q = q} {r = r} number before first asked) =
    then_calm p.guests q.guests r.guests (gives_none ends now p before) (asks_packet ends now number (Err NoMemory) q r asked)
