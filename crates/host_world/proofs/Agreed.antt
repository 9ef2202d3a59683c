-- Two hosts stand for a meeting, whatever is called of either.
use Rattle.std.proofs.Common.{◌≡◌, subst, sym, ℕ, Bool, List, Option}
use Rattle.std.specs.Prelude.{slice_get}
use Rattle.courier_sessions.specs.declared.program.Program.{Program}
use Rattle.item_world.specs.Side.{other}
use Rattle.item_world.specs.declared.side.Side.{Side}
use Rattle.item_world.specs.declared.side.Side.TheVariants.{A, B}
use Rattle.xns_connection.specs.Living.{Deeds}
use Rattle.xns_host.specs.declared.host.Host.{Host}
use Rattle.host_world.specs.Following.{EachFollowed, Has, IsFollowedTo, HostsStandFor, MayTake, StandsOn, stays, forgotten, stands, forgot}
use Rattle.host_world.specs.Meeting.{Meeting, Party, at}
use Rattle.host_world.specs.Meets.{Meets}
use Rattle.host_world.specs.declared.station.Station.{Station}

-- a host goes on with the connection that it has at one side of the meeting, or it forgot the connection
pub side_on : (side : Side) (h j : Host) (number : ℕ) (a b : Station) (programs : List Program) (most : ℕ) (m : Meeting) (taken : Option (List ℕ)) (did : ℕ → Deeds → Deeds) (gave : ℕ → List (List ℕ)) (told : ℕ → Bool) (Stands : Meeting → Type 0)
    → Meets a b programs m → Has h number (at m side).conversation → EachFollowed most (MayTake taken) did gave told h j → MayTake taken m side
    → ((n : Meeting) → Meets a b programs n → Has j number (at n side).conversation → at n (other side) ≡ at m (other side) → Stands n)
    → StandsOn a b programs most m side (did number) (gave number) (told number) (slice_get h.guests.items number) (slice_get j.guests.items number) Stands
side_on side h j number a b programs most m taken did gave told Stands meets has each may on = by (each number has.guest has.there a b programs m side meets has.same may) where
  by : IsFollowedTo a b programs most m side (did number) (gave number) (told number) has.guest (slice_get j.guests.items number)
      → StandsOn a b programs most m side (did number) (gave number) (told number) (slice_get h.guests.items number) (slice_get j.guests.items number) Stands
  by (stays g is l) = stands l.next (on l.next l.meets (record { guest = g; there = is; same = l.same }) l.does.other) l.does
  by (forgotten g l may_go gone) = forgot has.guest has.there may_go gone l.next l.meets l.does

-- a host has the connection at the other side still, since that side did not move
as_it_was : (h : Host) (number : ℕ) (p q : Party) → q ≡ p → Has h number p.conversation → Has h number q.conversation
as_it_was h number p q same has = subst (λ (r : Party). Has h number r.conversation) (sym same) has

pub caller_on : (h j k : Host) (here there : ℕ) (a b : Station) (programs : List Program) (most : ℕ) (m : Meeting) (taken : Option (List ℕ)) (did : ℕ → Deeds → Deeds) (gave : ℕ → List (List ℕ)) (told : ℕ → Bool)
    → HostsStandFor h k here there a b programs m → EachFollowed most (MayTake taken) did gave told h j → MayTake taken m A
    → StandsOn a b programs most m A (did here) (gave here) (told here) (slice_get h.guests.items here) (slice_get j.guests.items here) (HostsStandFor j k here there a b programs)
caller_on h j k here there a b programs most m taken did gave told s each may =
    side_on A h j here a b programs most m taken did gave told (HostsStandFor j k here there a b programs) s.meets s.calls each may (λ n meets has same.
    record { station = s.station; peer = s.peer; meets = meets; calls = has; called = as_it_was k there m.b n.b same s.called })

pub called_on : (h j k : Host) (here there : ℕ) (a b : Station) (programs : List Program) (most : ℕ) (m : Meeting) (taken : Option (List ℕ)) (did : ℕ → Deeds → Deeds) (gave : ℕ → List (List ℕ)) (told : ℕ → Bool)
    → HostsStandFor h k here there a b programs m → EachFollowed most (MayTake taken) did gave told k j → MayTake taken m B
    → StandsOn a b programs most m B (did there) (gave there) (told there) (slice_get k.guests.items there) (slice_get j.guests.items there) (HostsStandFor h j here there a b programs)
called_on h j k here there a b programs most m taken did gave told s each may =
    side_on B k j there a b programs most m taken did gave told (HostsStandFor h j here there a b programs) s.meets s.called each may (λ n meets has same.
    record { station = s.station; peer = s.peer; meets = meets; calls = as_it_was h here m.a n.a same s.calls; called = has })
