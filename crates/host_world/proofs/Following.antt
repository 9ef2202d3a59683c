-- A host goes on with the meetings of its connections, place by place and call by call.
use Rattle.std.proofs.Common.{◌≡◌, ◌≢◌, ◌∙◌, ◌⊎◌, inl, inr, ap, refl, sym, subst, ℕ, ◌+◌, Bool, true, false, List, [], ◌++◌, append-nil, arith, Option, Some, None, Result, Ok}
use Rattle.std.specs.Prelude.{◌==◌, cond, slice_get, slice_set}
use Rattle.std.specs.Option.{is_some}
use Rattle.std.proofs.lemmas.Bool.{eq-eqb}
use Rattle.std.proofs.lemmas.Option.{slice_get_within}
use Rattle.courier_sessions.specs.declared.program.Program.{Program}
use Rattle.item_world.specs.declared.side.Side.{Side}
use Rattle.xns_host.proofs.Leaving.{cleared}
use Rattle.xns_host.specs.Hosting.{may_go}
use Rattle.xns_connection.specs.Living.{Deeds}
use Rattle.xns_agenda.specs.Turns.{Line, has_turn, with_turn}
use Rattle.xns_host.specs.Places.{ActsOneByOne, ActsAt, AsksPacket, GivesNone, Places, PlaceTurns, became, packet_passed, seated, vacated_if}
use Rattle.xns_connection.specs.Step.{AStepKeepsItsPromises, parts_of}
use Rattle.xns_connection.specs.Deeds.{Parts}
use Rattle.xns_agenda.specs.Waiting.{act_at}
use Rattle.xns_host.specs.Went.{GuestActs, GuestGives}
use Rattle.xns_host.specs.declared.guest.Guest.{Guest}
use Rattle.xns_host.specs.declared.host_fault.HostFault.{HostFault}
use Rattle.xns_host.specs.declared.outgoing.Outgoing.{Outgoing}
use Rattle.host_world.specs.Following.{IsFollowedTo, IsFollowed, MayBeForgotten, did_at}
use Rattle.host_world.specs.Following as following
use Rattle.host_world.specs.Guests.{LeadsOn, LeadsTo, packet_returned}
use Rattle.host_world.specs.Meeting.{Meeting, at}
use Rattle.host_world.specs.Meets.{Meets}
use Rattle.host_world.specs.Pairing.{with_no_more}
use Rattle.host_world.specs.declared.station.Station.{Station}
use Rattle.host_world.proofs.Guests.{Rests, acted_rests, gives, rests_on, rests_then, same_goes}
pub use Rattle.host_world.proofs.Happens.{not_equal}
use Rattle.host_world.proofs.Led.{kept_then}
use Rattle.host_world.proofs.Numbers.{at_each_place, at_place, beside, may_be_told, same_or_other}
use Rattle.host_world.proofs.Paired.{wider, within_then}
use Rattle.xns_host.proofs.Noting.{turn_other}
use Rattle.xns_host.proofs.Placed.{rested_so}
use Rattle.host_world.proofs.Untold.{acted_told, given_told}

-- ---- one connection

-- a function tells the program that the connection is closed, or the program was told that before
abbrev pub WasTold : Bool → Guest → Type 0
WasTold told g = (told ≡ true) ⊎ (g.connection.told ≡ true)

-- where the program was told in the end that the connection is closed, a function told it, or it was told before
abbrev pub TellsOn : Bool → Guest → Guest → Type 0
TellsOn told g h = h.connection.told ≡ true → WasTold told g

-- a connection went on to the one in this place, or was forgotten and nobody is there
pub data Led (a b : Station) (programs : List Program) (most : ℕ) (m : Meeting) (side : Side) (did : Deeds → Deeds) (gave : List (List ℕ)) (told : Bool) (g : Guest) : Option (Option Guest) → Type 0 where
  led : (h : Guest) → LeadsTo a b programs most m side h did gave → TellsOn told g h → Led a b programs most m side did gave told g (Some (Some h))
  left : (h : Guest) → LeadsTo a b programs most m side h did gave → WasTold told g → Led a b programs most m side did gave told g (Some None)

abbrev pub Goes : (most : ℕ) (did : Deeds → Deeds) (gave : List (List ℕ)) (told : Bool) (g : Guest) (place : Option (Option Guest)) → Type 0
Goes most did gave told g place = (a b : Station) (programs : List Program) (m : Meeting) (side : Side) → Meets a b programs m → (at m side).conversation ≡ g.connection.conversation
    → Led a b programs most m side did gave told g place

-- a guest that was there went on by itself in at most so many steps, and no guest came: one that is there was there
pub record Still (most : ℕ) (old new : Option (Option Guest)) : Type 0 where
  pub none : old ≡ Some None → new ≡ Some None
  pub goes : (g : Guest) → old ≡ Some (Some g) → Goes most with_no_more [] false g new
  pub from : (h : Guest) → new ≡ Some (Some h) → (g : Guest) × (old ≡ Some (Some g))

pub tells_on : (g h : Guest) → h.connection.told ≡ g.connection.told → TellsOn false g h
tells_on g h same z = inr (sym same ∙ z)

pub told_before : (told : Bool) (f g : Guest) → TellsOn false f g → WasTold told g → WasTold told f
told_before told f g on (inl now) = inl now
told_before told f g on (inr was) = by (on was) where
  by : WasTold false f → WasTold told f
  by (inl never) = absurd (cc)
  by (inr before) = inr before

pub at_once : (most : ℕ) (g : Guest) → LeadsOn most g g with_no_more []
at_once most g = same_goes most g g refl

joined : {a b : Station} {programs : List Program} {few more : ℕ} {m : Meeting} {side : Side} {g h : Guest} {did : Deeds → Deeds} {gave : List (List ℕ)}
    → (one : LeadsTo a b programs few m side g with_no_more []) → LeadsTo a b programs more one.next side h did gave → LeadsTo a b programs (few + more) m side h did gave
joined {few = few} {more = more} {m = m} {side = side} {did = did} {gave = gave} one two = record {
  next = two.next;
  meets = two.meets;
  same = two.same;
  does = record {
    within = within_then few more (few + more) (omega arith) one.does.within two.does.within;
    deeds = two.does.deeds ∙ ap did one.does.deeds;
    given = two.does.given ∙ ap (λ (l : List (List ℕ)). l ++ gave) (one.does.given ∙ append-nil (at m side).given);
    other = two.does.other ∙ one.does.other;
    kept = kept_then m.world.bag one.next.world.bag two.next.world.bag one.does.kept two.does.kept;
  };
}

-- as many steps and some more
pub leads_wider : {a b : Station} {programs : List Program} {few : ℕ} (more : ℕ) {m : Meeting} {side : Side} {h : Guest} {did : Deeds → Deeds} {gave : List (List ℕ)}
    → LeadsTo a b programs few m side h did gave → LeadsTo a b programs (few + more) m side h did gave
leads_wider {few = few} more l = record {
  next = l.next;
  meets = l.meets;
  same = l.same;
  does = record { within = wider few (few + more) (omega arith) l.does.within; deeds = l.does.deeds; given = l.does.given; other = l.does.other; kept = l.does.kept };
}

led_on : {a b : Station} {programs : List Program} {few more : ℕ} {m : Meeting} {side : Side} {f g : Guest} {did : Deeds → Deeds} {gave : List (List ℕ)} {told : Bool} {place : Option (Option Guest)}
    → (one : LeadsTo a b programs few m side g with_no_more []) → TellsOn false f g → Led a b programs more one.next side did gave told g place → Led a b programs (few + more) m side did gave told f place
led_on {f = f} {g = g} {told = told} one on (led h two tells) = led h (joined one two) (λ z. told_before told f g on (tells z))
led_on {f = f} {g = g} {told = told} one on (left h two was) = left h (joined one two) (told_before told f g on was)

pub still : (most : ℕ) (o : Option (Option Guest)) → Still most o o
still most o = record {
  none = λ e. e;
  goes = λ g e a b programs m side meets here. subst (Led a b programs most m side with_no_more [] false g) (sym e) (led g (at_once most g a b programs m side meets here) inr);
  from = λ h e. (h, e);
}

pub still_then : (few more : ℕ) (x y z : Option (Option Guest)) → Still few x y → Still more y z → Still (few + more) x z
still_then few more x y z p q = record {
  none = λ e. q.none (p.none e);
  goes = λ g e a b programs m side meets here. by g a b programs m side y q (p.goes g e a b programs m side meets here);
  from = λ h e. let k = q.from h e in p.from k.0 k.1;
} where
  by : (g : Guest) (a b : Station) (programs : List Program) (m : Meeting) (side : Side) (o : Option (Option Guest)) → Still more o z → Led a b programs few m side with_no_more [] false g o → Led a b programs (few + more) m side with_no_more [] false g z
  by g a b programs m side o s (led h l on) = led_on l on (s.goes h refl a b programs l.next side l.meets l.same)
  by g a b programs m side o s (left h l was) = subst (Led a b programs (few + more) m side with_no_more [] false g) (sym (s.none refl)) (left h (leads_wider more l) was)

pub one_guest : (g h : Guest) → (let a : Option (Option Guest) = Some (Some g) in a) ≡ Some (Some h) → g ≡ h
one_guest g h e = cc

-- first by itself, and then so
pub then_does : (few more : ℕ) (x y z : Option (Option Guest)) (k : Guest) (did : Deeds → Deeds) (gave : List (List ℕ)) (told : Bool) → Still few x y → y ≡ Some (Some k) → Goes more did gave told k z
    → (g : Guest) → x ≡ Some (Some g) → Goes (few + more) did gave told g z
then_does few more x y z k did gave told p is does g e a b programs m side meets here = by y (p.goes g e a b programs m side meets here) is where
  by : (o : Option (Option Guest)) → Led a b programs few m side with_no_more [] false g o → o ≡ Some (Some k) → Led a b programs (few + more) m side did gave told g z
  by o (led h l on) same =
      let k_is : h ≡ k = one_guest h k same in
      led_on {f = g} l on
      (subst (λ (x : Guest). Led a b programs more l.next side did gave told x z) (sym k_is) (does a b programs l.next side l.meets (l.same ∙ ap (λ (x : Guest). x.connection.conversation) k_is)))
  by o (left h l was) same = absurd (cc)

-- ---- places

abbrev pub EachStill : (most : ℕ) (old new : List (Option Guest)) → Type 0
EachStill most old new = (k : ℕ) → Still most (slice_get old k) (slice_get new k)

pub each_then : (few more : ℕ) (x y z : List (Option Guest)) → EachStill few x y → EachStill more y z → EachStill (few + more) x z
each_then few more x y z p q k = still_then few more (slice_get x k) (slice_get y k) (slice_get z k) (p k) (q k)

pub all_still : (most : ℕ) (gs : List (Option Guest)) → EachStill most gs gs
all_still most gs k = still most (slice_get gs k)

pub still_if : (most : ℕ) (old new : List (Option Guest)) → new ≡ old → EachStill most old new
still_if most old new same = subst (EachStill most old) (sym same) (all_still most old)

pub set_still : (most : ℕ) (gs : List (Option Guest)) (number : ℕ) (old new : Option Guest) → slice_get gs number ≡ Some old → Still most (Some old) (Some new) → EachStill most gs (slice_set gs number new)
set_still most gs number old new is one = at_each_place (Still most) (still most) gs number old new is one

-- the one connection leads on to the other in at most so many steps, and the program was told no more of it
pub record GoesOn (most : ℕ) (g h : Guest) (gave : List (List ℕ)) : Type 0 where
  pub on : LeadsOn most g h with_no_more gave
  pub told : h.connection.told ≡ g.connection.told

guest_still : (most : ℕ) (g h : Guest) → GoesOn most g h [] → Still most (Some (Some g)) (Some (Some h))
guest_still most g h goes = record {
  none = λ e. absurd (cc);
  goes = λ k e a b programs m side meets here.
      led h (goes.on a b programs m side meets (here ∙ ap (λ (x : Guest). x.connection.conversation) (sym (one_guest g k e))))
      (tells_on k h (goes.told ∙ ap (λ (x : Guest). x.connection.told) (one_guest g k e)));
  from = λ k e. (g, refl);
}

pub turns_still : (most : ℕ) (P : Guest → Guest → Type 0) (number : ℕ) (p r : Places) → ((g h : Guest) → P g h → GoesOn most g h []) → PlaceTurns P number p r → EachStill most p.guests r.guests
turns_still most P number p r each t =
    subst (EachStill most p.guests) (sym (ap (λ (q : Places). q.guests) t.is)) (set_still most p.guests number (Some t.guest) (Some t.next) t.was (guest_still most t.guest t.next (each t.guest t.next t.turn)))

-- ---- what is due

-- a connection is in this place, with the story that it had; or it was forgotten, and the program was told before that it is closed
data RestsIn (g : Guest) : Option (Option Guest) → Type 0 where
  rests : (h : Guest) → Rests g.connection.conversation h.connection.conversation → h.connection.told ≡ g.connection.told → RestsIn g (Some (Some h))
  gone : g.connection.told ≡ true → RestsIn g (Some None)

-- a guest that was there rests, and no guest came
record Resting (old new : Option (Option Guest)) : Type 0 where
  none : old ≡ Some None → new ≡ Some None
  goes : (g : Guest) → old ≡ Some (Some g) → RestsIn g new
  from : (h : Guest) → new ≡ Some (Some h) → (g : Guest) × (old ≡ Some (Some g))

rests_itself : (o : Option (Option Guest)) → Resting o o
rests_itself o = record { none = λ e. e; goes = λ g e. subst (RestsIn g) (sym e) (rests g (refl, λ h t. t) refl); from = λ h e. (h, e) }

resting_then : (x y z : Option (Option Guest)) → Resting x y → Resting y z → Resting x z
resting_then x y z p q = record { none = λ e. q.none (p.none e); goes = λ g e. by g y q (p.goes g e); from = λ h e. let k = q.from h e in p.from k.0 k.1 } where
  on : (g h : Guest) (o : Option (Option Guest)) → Rests g.connection.conversation h.connection.conversation → h.connection.told ≡ g.connection.told → RestsIn h o → RestsIn g o
  on g h o first same (rests k next told) = rests k (rests_then g.connection.conversation h.connection.conversation k.connection.conversation first next) (told ∙ same)
  on g h o first same (gone told) = gone (sym same ∙ told)

  by : (g : Guest) (o : Option (Option Guest)) → Resting o z → RestsIn g o → RestsIn g z
  by g o s (rests h first same) = on g h z first same (s.goes h refl)
  by g o s (gone told) = subst (RestsIn g) (sym (s.none refl)) (gone told)

-- however often what was due was done of a connection that rests, that is one step
resting_still : (x y : Option (Option Guest)) → Resting x y → Still 1 x y
resting_still x y p = record { none = p.none; goes = λ g e a b programs m side meets here. by g y (p.goes g e) a b programs m side meets here; from = p.from } where
  by : (g : Guest) (o : Option (Option Guest)) → RestsIn g o → Goes 1 with_no_more [] false g o
  by g o (rests h first same) a b programs m side meets here = led h (rests_on g h first a b programs m side meets here) (tells_on g h same)
  by g o (gone told) a b programs m side meets here = left g (at_once 1 g a b programs m side meets here) (inr told)

abbrev EachRests : (old new : List (Option Guest)) → Type 0
EachRests old new = (k : ℕ) → Resting (slice_get old k) (slice_get new k)

set_rests : (gs : List (Option Guest)) (number : ℕ) (old new : Option Guest) → slice_get gs number ≡ Some old → Resting (Some old) (Some new) → EachRests gs (slice_set gs number new)
set_rests gs number old new is one = at_each_place Resting rests_itself gs number old new is one

acted_resting : (now : ℕ) (g h : Guest) → GuestActs now g h → Resting (Some (Some g)) (Some (Some h))
acted_resting now g h a = record {
  none = λ e. absurd (cc);
  goes = λ k e. subst (λ (x : Guest). RestsIn x (Some (Some h))) (one_guest g k e)
      (rests h (acted_rests now g h a) (ap (λ (p : Parts). p.told) a.parts ∙ acted_told (parts_of g.connection) (act_at g.connection.wait now) now));
  from = λ k e. (g, refl);
}

gone_resting : (g : Guest) → g.connection.told ≡ true → Resting (Some (Some g)) (Some None)
gone_resting g told = record { none = λ e. absurd (cc); goes = λ k e. subst (λ (x : Guest). RestsIn x (Some None)) (one_guest g k e) (gone told); from = λ k e. absurd (cc) }

leaves : (p : Places) (number : ℕ) (h : Guest) (b : Bool) → may_go h.connection ≡ b → slice_get p.guests number ≡ Some (Some h) → EachRests p.guests (vacated_if b p number).guests
leaves p number h false is there = λ k. rests_itself (slice_get p.guests k)
leaves p number h true is there = set_rests p.guests number (Some h) None there (gone_resting h (may_be_told h.connection is))

acts_at : (now number : ℕ) (p r : Places) → ActsAt now number p r → EachRests p.guests r.guests
acts_at now number p r a k =
    let q = seated p number a.next in
    let acted = set_rests p.guests number (Some a.guest) (Some a.next) a.was (acted_resting now a.guest a.next a.acts) in
    let left = leaves q number a.next (may_go a.next.connection) refl (at_place p.guests number (Some a.next) (slice_get_within p.guests number (Some a.guest) a.was)) in
    subst (λ (s : Places). Resting (slice_get p.guests k) (slice_get s.guests k)) (sym a.is)
    (resting_then (slice_get p.guests k) (slice_get q.guests k) (slice_get (became p number a.next).guests k) (acted k) (left k))

each_rests : (now : ℕ) (p : Places) {r : Places} → ActsOneByOne now p r → EachRests p.guests r.guests
each_rests now p ActsOneByOne.nobody k = rests_itself (slice_get p.guests k)
each_rests now p (ActsOneByOne.another {q = q} {r = r} number before first act) k =
    resting_then (slice_get p.guests k) (slice_get q.guests k) (slice_get r.guests k) (each_rests now p before k) (acts_at now number q r act k)

pub all_act : (now : ℕ) (p : Places) {r : Places} → ActsOneByOne now p r → EachStill 1 p.guests r.guests
all_act now p {r = r} acted k = resting_still (slice_get p.guests k) (slice_get r.guests k) (each_rests now p acted k)

-- ---- what goes out

-- the program is told nothing where a packet is asked for
pub gives_on : (law : AStepKeepsItsPromises) (now : ℕ) (result : Result (Option Outgoing) HostFault) (g h : Guest) → GuestGives now result g h → GoesOn 2 g h (packet_returned result)
gives_on law now result g h s = record { on = gives now result g h law s; told = given_told now g.connection h.connection s.gave }

pub no_packet : (law : AStepKeepsItsPromises) (now number : ℕ) (result : Result (Option Outgoing) HostFault) (p r : Places) → packet_returned result ≡ [] → PlaceTurns (GuestGives now result) number (packet_passed p number) r
    → EachStill 2 p.guests r.guests
no_packet law now number result p r none t =
    turns_still 2 (GuestGives now result) number (packet_passed p number) r (λ g h s. subst (GoesOn 2 g h) none (gives_on law now result g h s)) t

no_turn : (line : Line) (n : ℕ) (b : Bool) → b ≡ false → has_turn (with_turn line n b) n ≡ false
no_turn line n false is = ap is_some (cleared line.tickets n)
no_turn line n true is = absurd (cc)

passed_none : (now number : ℕ) (p r : Places) → AsksPacket now number (Ok None) p r → has_turn r.agenda.packets number ≡ false
passed_none now number p r t =
    ap (λ (q : Places). has_turn q.agenda.packets number) t.is
    ∙ no_turn (with_turn p.agenda.packets number false) number t.next.connection.owed.fresh (rested_so t.guest.via t.next.connection.owed.fresh t.turn.answer t.turn.is)

passed_other : (now number k : ℕ) (p r : Places) → k ≢ number → AsksPacket now number (Ok None) p r → has_turn r.agenda.packets k ≡ has_turn p.agenda.packets k
passed_other now number k p r other t =
    ap (λ (q : Places). has_turn q.agenda.packets k) t.is
    ∙ turn_other (with_turn p.agenda.packets number false) number k t.next.connection.owed.fresh other ∙ turn_other p.agenda.packets number k false other

-- however often connections were asked in vain, one was not asked, or it was asked once and has no turn
abbrev pub AskedOnce : (p r : Places) (k : ℕ) → Type 0
AskedOnce p r k = (slice_get r.guests k ≡ slice_get p.guests k) ⊎ (Still 2 (slice_get p.guests k) (slice_get r.guests k) × (has_turn r.agenda.packets k ≡ false))

pub asked_once : (law : AStepKeepsItsPromises) (now : ℕ) (p : Places) {r : Places} → GivesNone now p r → (k : ℕ) → AskedOnce p r k
asked_once law now p GivesNone.nobody k = inl refl
asked_once law now p (GivesNone.another {q = q} {r = r} number before first asked) k = by (same_or_other k number) (asked_once law now p before k) where
  kept : k ≢ number → slice_get r.guests k ≡ slice_get q.guests k
  kept apart = ap (λ (x : Places). slice_get x.guests k) asked.is ∙ beside q.guests number k (Some asked.next) apart

  by : (k ≡ number) ⊎ (k ≢ number) → AskedOnce p q k → AskedOnce p r k
  by (inl same) (inl is) = inr (
    subst (λ (o : Option (Option Guest)). Still 2 o (slice_get r.guests k)) is (no_packet law now number (Ok None) q r refl asked k),
    ap (λ (n : ℕ). has_turn r.agenda.packets n) same ∙ passed_none now number q r asked,
  )
  by (inl same) (inr once) = let has = first.has in let none = sym (ap (λ (n : ℕ). has_turn q.agenda.packets n) same) ∙ once.1 in absurd (cc)
  by (inr apart) (inl is) = inl (kept apart ∙ is)
  by (inr apart) (inr once) = inr (subst (Still 2 (slice_get p.guests k)) (sym (kept apart)) once.0, passed_other now number k q r apart asked ∙ once.1)

pub once_still : (p r : Places) (k : ℕ) → AskedOnce p r k → Still 2 (slice_get p.guests k) (slice_get r.guests k)
once_still p r k (inl is) = subst (Still 2 (slice_get p.guests k)) (sym is) (still 2 (slice_get p.guests k))
once_still p r k (inr once) = once.0

-- one that has a turn was not asked
pub not_asked : (p r : Places) (k : ℕ) → has_turn r.agenda.packets k ≡ true → AskedOnce p r k → slice_get r.guests k ≡ slice_get p.guests k
not_asked p r k has (inl is) = is
not_asked p r k has (inr once) = let none = once.1 in absurd (cc)

-- ---- what becomes of a guest in the words of the law

may_go_then : (told : Bool) (g : Guest) → WasTold told g → MayBeForgotten told g
may_go_then told g (inl now) = inl now
may_go_then told g (inr before) = inr (inl before)

pub follows : {a b : Station} {programs : List Program} {most : ℕ} {m : Meeting} {side : Side} {did : Deeds → Deeds} {gave : List (List ℕ)} {told : Bool} {g : Guest} {place : Option (Option Guest)}
    → Led a b programs most m side did gave told g place → IsFollowedTo a b programs most m side did gave told g place
follows (led h l on) = following.stays h refl l
follows {told = told} {g = g} (left h l was) = following.forgotten h l (may_go_then told g was) (inl refl)

pub followed : (most : ℕ) (may : Meeting → Side → Type 0) (x y : Option (Option Guest)) → Still most x y → IsFollowed most may with_no_more [] false x y
followed most may x y s g e a b programs m side meets here z = follows (s.goes g e a b programs m side meets here)

pub did_same : (number k : ℕ) (did : Deeds → Deeds) → k ≡ number → did_at number did k ≡ did
did_same number k did e = ap (λ (b : Bool). cond b did with_no_more) (eq-eqb k number e)

pub did_other : (number k : ℕ) (did : Deeds → Deeds) → k ≢ number → did_at number did k ≡ with_no_more
did_other number k did other = ap (λ (b : Bool). cond b did with_no_more) (not_equal k number (k == number) refl other)
