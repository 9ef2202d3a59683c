-- What a packet that came, and each function of a host, make happen at its numbers.
use Rattle.std.proofs.Common.{◌≡◌, ◌≢◌, ◌∙◌, ap, refl, sym, subst, ℕ, zero, suc, List, [], ◌∷◌, ◌++◌, replicate, Option, Some, None, Result, Ok, Err}
use Rattle.std.specs.Prelude.{Bool, true, false, slice_get, slice_set}
use Rattle.std.specs.List.{filter}
use Rattle.std.proofs.lemmas.List.Elements.{filter-append}
use Rattle.std.proofs.lemmas.Option.{slice_get_within}
use Rattle.xns_idp.specs.declared.address.Address.{Address}
use Rattle.xns_spp.specs.Packet.{SppPacketModel}
use Rattle.xns_agenda.specs.Clock.{time_at}
use Rattle.xns_host.proofs.Ends.{same_id}
use Rattle.xns_host.specs.Coming.{Arrives, Comes, Opens}
use Rattle.xns_host.specs.Coming as coming
use Rattle.xns_host.specs.Hosting.{confirms}
use Rattle.xns_host.specs.Identifiers.{IsNextIdentifier}
use Rattle.xns_host.specs.Knowing.{id_of}
use Rattle.xns_host.specs.Places.{Places}
use Rattle.xns_host.specs.Registered.{IsAllRegistered}
use Rattle.xns_host.specs.Turn.{Abandons, ConnectsTo, GivesOut, places_of, whole_of}
use Rattle.xns_host.specs.Went.{GuestHears, GuestStep, GuestTagged, GuestUnserved, Went}
use Rattle.xns_host.specs.Whole.{Whole}
use Rattle.xns_connection.specs.Deeds.{Deed}
use Rattle.xns_connection.specs.Ends.{AConnectionKeepsItsEnd}
use Rattle.xns_host.specs.Strays.{StrayQueue}
use Rattle.xns_host.specs.declared.register.Register.{Register}
use Rattle.xns_host.specs.declared.event.Event.{Event}
use Rattle.xns_host.specs.declared.event.Event.TheVariants as events
use Rattle.xns_host.specs.declared.guest.Guest.{Guest}
use Rattle.xns_host.specs.declared.host.Host.{Host}
use Rattle.xns_host.specs.declared.host_fault.HostFault.{HostFault}
use Rattle.xns_host.specs.declared.outgoing.Outgoing.{Outgoing}
use Rattle.host_world.specs.Dialogue.{Dialogue, new_dialogue, View, free, held, Happening, abandons, abandoning, connects, is_said}
use Rattle.host_world.specs.Seen.{HasLived, IsSaid, IsSeen, NumberHasHistory, HostSays, abandons_none, begins, finds_no_room, gives_out, goes_on, guest_in, happened_at, has_abandoned, has_connected, has_said, is_refused, moves, news_of, of_answer, of_call, of_close, said_at, serves, tags, takes_in, tells_nothing, was_told}
use Rattle.host_world.proofs.Calming.{AllCalm, all_act, calm_if, leads_calmly, next_packet, then_calm, turned}
use Rattle.host_world.proofs.Doing.{after_answer, after_call, after_close, hearing, unserving}
use Rattle.host_world.proofs.Followed.{taken_beside}
use Rattle.host_world.proofs.Following.{one_guest}
use Rattle.host_world.proofs.Happens.{closed_between, said_alone, said_between}
use Rattle.host_world.proofs.Numbers.{Leads, LeadsAt, all_still, at_place, beside, connects_there, next_event, no_event, of_guest, one_changed, one_said, opened_shows, opens_there, passes_then, same_there, still_if, taking}
use Rattle.host_world.proofs.Shown.{Passes, Shows, ShowsIn, first, stays, tagging}
use Rattle.host_world.proofs.Untold.{another_id, heard_id}

-- ---- a packet that came

opens_it : AConnectionKeepsItsEnd → (now way : ℕ) (bytes : List ℕ) (packet : SppPacketModel) (w : Whole) → IsAllRegistered w.register w.places.guests → {register : Register} {strays : StrayQueue} {r : Places} → Opens now way bytes packet w register strays r → Leads (λ k. []) w.places.guests r.guests
opens_it ends now way bytes packet w all {r = r} (coming.opened {mid = mid} number id peer programs opener served seats turn) =
    one_changed (λ k. []) w.places.guests r.guests number (λ k other. refl) others
    (subst (LeadsAt [] (slice_get w.places.guests number)) (sym there) (taking w.places.guests [] turn.next seats.place (another_id w.register w.places.guests turn.next all next)
    (opens_there seats.guest turn.next shows (hearing ends now bytes false (new_dialogue false) seats.guest turn.next shows heard)))) where
      to : r.guests ≡ slice_set mid.guests number (Some turn.next)
      to = ap (λ (x : Places). x.guests) turn.is

      same : turn.guest ≡ seats.guest
      same = one_guest turn.guest seats.guest (sym turn.was ∙ seats.there)

      heard : GuestHears now bytes false seats.guest turn.next
      heard = subst (λ (g : Guest). GuestHears now bytes false g turn.next) same turn.turn

      shows : Shows (new_dialogue false) seats.guest
      shows = opened_shows seats.guest seats.answering

      next : IsNextIdentifier w.register.identifiers (id_of turn.next)
      next = subst (IsNextIdentifier w.register.identifiers) (sym (heard_id ends now bytes false seats.guest turn.next heard)) seats.answering.next

      there : slice_get r.guests number ≡ Some (Some turn.next)
      there = ap (λ (l : List (Option Guest)). slice_get l number) to ∙ at_place mid.guests number (Some turn.next) (slice_get_within mid.guests number (Some turn.guest) turn.was)

      others : (k : ℕ) → k ≢ number → slice_get r.guests k ≡ slice_get w.places.guests k
      others k other =
          ap (λ (l : List (Option Guest)). slice_get l k) to ∙ (beside mid.guests number k (Some turn.next) other
          ∙ (ap (λ (x : Places). slice_get x.guests k) seats.is ∙ taken_beside w.places number k seats.guest other))
opens_it ends now way bytes packet w all (coming.full why same complains) = still_if w.places.guests w.places.guests refl
opens_it ends now way bytes packet w all (coming.starved same) = still_if w.places.guests w.places.guests refl

comes : AConnectionKeepsItsEnd → (now way : ℕ) (bytes : List ℕ) (w : Whole) → IsAllRegistered w.register w.places.guests → {result : Bool} {n : Whole} → Comes now way bytes w result n → Leads (λ k. []) w.places.guests n.places.guests
comes ends now way bytes w all (coming.foreign never) = still_if w.places.guests w.places.guests refl
comes ends now way bytes w all (coming.echoes p taken is asks stray) = still_if w.places.guests w.places.guests refl
comes ends now way bytes w all (coming.refuses p taken {q = q} is quotes turn) =
    leads_calmly w.places.guests q.guests (turned (GuestUnserved now quotes.quote.error) quotes.number w.places q (λ d g h s t. unserving ends now quotes.quote.error d g h s t) turn)
comes ends now way bytes w all (coming.hears p {q = q} is names turn) =
    leads_calmly w.places.guests q.guests (turned (GuestHears now bytes (confirms p)) names.number w.places q (λ d g h s t. hearing ends now bytes (confirms p) d g h s t) turn)
comes ends now way bytes w all (coming.opens p is opener o) = opens_it ends now way bytes p w all o

arrives : AConnectionKeepsItsEnd → (now way : ℕ) (bytes : List ℕ) (w : Whole) → IsAllRegistered w.register w.places.guests → {result : Bool} {n : Whole} → Arrives now way bytes w result n → Leads (λ k. []) w.places.guests n.places.guests
arrives ends now way bytes w all (coming.meant c) = comes ends now way bytes w all c
arrives ends now way bytes w all (coming.unheard p taken c is served complains) = still_if w.places.guests w.places.guests refl
arrives ends now way bytes w all (coming.unmeant c never) = still_if w.places.guests w.places.guests refl

-- ---- the functions of a host

said_by : AConnectionKeepsItsEnd → (now : ℕ) {deed : Deed} {x : Happening} → IsSaid deed x → (a b : Option (Option Guest)) → Went now deed a b → LeadsAt (x ∷ []) a b
said_by ends now is None b w = absurd w
said_by ends now is (Some None) b w = absurd w
said_by ends now is (Some (Some g)) None w = absurd w
said_by ends now is (Some (Some g)) (Some None) w = absurd w
said_by ends now {deed} {x} is (Some (Some g)) (Some (Some h)) w =
    same_there g h (x ∷ []) (same_id g h (ends.steps now deed g.connection h.connection w.step)) (λ d s. by is d s w) where
      by : {deed : Deed} {x : Happening} → IsSaid deed x → (d : Dialogue) → Shows d g → GuestStep now deed g h → Passes (x ∷ closed_between g h) (held d) (Some (Some h))
      by (of_call c) d s step = after_call ends now d g h c s step
      by (of_answer kind words) d s step = after_answer ends now d g h kind words s step
      by of_close d s step = after_close ends now d g h s step

connects_to : (now way socket : ℕ) (peer : Address) (number : ℕ) (h j : Host) → ConnectsTo now way socket peer (Ok number) h j → Leads (said_at number connects) h.guests.items j.guests.items
connects_to now way socket peer number h j c =
    let g = c.connected.guest in
    let is = c.places g c.connected.there in
    one_said number connects h.guests.items j.guests.items (λ k other. ap (λ (p : Places). slice_get p.guests k) is ∙ taken_beside (places_of h) number k g other)
    (subst (LeadsAt (connects ∷ []) (slice_get h.guests.items number)) (sym c.connected.there)
    (taking h.guests.items (connects ∷ []) g c.place (another_id h.register h.guests.items g h.registered c.connected.next) (connects_there c.connected)))

-- whatever became of it, the number is free
abandoned_at : (number : ℕ) (h j : Host) → Abandons number (Ok tt) h j → Leads (said_at number abandons) h.guests.items j.guests.items
abandoned_at number h j a =
    let g = a.there.0 in
    let is = ap (λ (p : Places). p.guests) a.gone in
    one_said number abandons h.guests.items j.guests.items (λ k other. ap (λ (gs : List (Option Guest)). slice_get gs k) is ∙ beside h.guests.items number k None other)
    (subst (λ (o : Option (Option Guest)). LeadsAt (abandons ∷ []) o (slice_get j.guests.items number)) (sym a.there.1)
    (subst (LeadsAt (abandons ∷ []) (Some (Some g))) (sym (ap (λ (gs : List (Option Guest)). slice_get gs number) is ∙ at_place h.guests.items number None (slice_get_within h.guests.items number (Some g) a.there.1)))
    (of_guest g (abandons ∷ []) (Some None) (λ d s. first (held d) free abandons [] (Some None) (abandoning d) (stays free (Some None) tt)))))

giving : AConnectionKeepsItsEnd → (now : ℕ) (result : Result (Option Outgoing) HostFault) (h j : Host) → GivesOut now result h j → (waiting : List Outgoing) → h.strays.waiting ≡ waiting → AllCalm h.guests.items j.guests.items
giving ends now result h j g [] is =
    let n = (g.next is).0 in
    then_calm h.guests.items g.mid.guests j.guests.items (all_act ends (time_at h.clock now) (places_of h) g.acts.one_by_one) (next_packet ends (time_at h.clock now) h.settings.first_wait g.mid n)
giving ends now result h j g (o ∷ os) is =
    let s = g.stray o os is in
    then_calm h.guests.items g.mid.guests j.guests.items (all_act ends (time_at h.clock now) (places_of h) g.acts.one_by_one)
    (calm_if g.mid.guests j.guests.items (ap (λ (p : Places). p.guests) s.1))

leads : AConnectionKeepsItsEnd → (h j : Host) {more : ℕ → List Happening} → HostSays h j more → Leads more h.guests.items j.guests.items
leads ends h j (has_connected now way socket peer number c) = connects_to now way socket peer number h j c
leads ends h j (has_said now number deed x is t) =
    one_said number x h.guests.items j.guests.items t.apart.others (said_by ends (time_at h.clock now) is (slice_get h.guests.items number) (slice_get j.guests.items number) t.went)
leads ends h j (has_abandoned number a) = abandoned_at number h j a
leads ends h j (was_told event t) = next_event ends h.clock.latest (places_of h) event t.next
leads ends h j (is_refused now number deed fault t) = all_still h.guests.items j.guests.items t.unchanged
leads ends h j (abandons_none number fault a) = still_if h.guests.items j.guests.items (ap (λ (p : Places). p.guests) a.unchanged)
leads ends h j (finds_no_room now way socket peer fault c) = still_if h.guests.items j.guests.items (ap (λ (p : Places). p.guests) c.unchanged)
leads ends h j (tells_nothing t) = still_if h.guests.items j.guests.items (no_event h.clock.latest (places_of h) t.next)
leads ends h j (takes_in now way bytes result t) = arrives ends (time_at h.clock now) way bytes (whole_of h) h.registered t.comes
leads ends h j (gives_out now result g) = leads_calmly h.guests.items j.guests.items (giving ends now result h j g h.strays.waiting refl)
leads ends h j (serves socket programs result s) = still_if h.guests.items j.guests.items (ap (λ (w : Whole). w.places.guests) s.rest)
leads ends h j (moves network m) = still_if h.guests.items j.guests.items (ap (λ (w : Whole). w.places.guests) m.is)
leads ends h j (tags number tag (Ok u) t) =
    leads_calmly h.guests.items j.guests.items (turned (GuestTagged tag) number (places_of h) (places_of j) (λ d g k s is. tagging tag d g k s is) t.tagged)
leads ends h j (tags number tag (Err fault) t) = still_if h.guests.items j.guests.items (ap (λ (p : Places). p.guests) t.unchanged)

-- ---- what is said

news_are_said : (event : Event) → is_said (news_of event) ≡ true
news_are_said (events.Opened number tag) = refl
news_are_said (events.Call number tag program version procedure m) = refl
news_are_said (events.Answer number tag answer m) = refl
news_are_said (events.Closed number tag why) = refl

deed_is_said : {deed : Deed} {x : Happening} → IsSaid deed x → is_said x ≡ true
deed_is_said (of_call c) = refl
deed_is_said (of_answer kind words) = refl
deed_is_said of_close = refl

all_said : {h j : Host} {more : ℕ → List Happening} → HostSays h j more → (k : ℕ) → filter is_said (more k) ≡ more k
all_said (has_connected now way socket peer number c) k = said_alone number connects refl k
all_said (has_said now number deed x is t) k = said_alone number x (deed_is_said is) k
all_said (has_abandoned number a) k = said_alone number abandons refl k
all_said (was_told event t) k = said_alone _ (news_of event) (news_are_said event) k
all_said (is_refused now number deed fault t) k = refl
all_said (abandons_none number fault a) k = refl
all_said (finds_no_room now way socket peer fault c) k = refl
all_said (tells_nothing t) k = refl
all_said (takes_in now way bytes result t) k = refl
all_said (gives_out now result g) k = refl
all_said (serves socket programs result s) k = refl
all_said (moves network m) k = refl
all_said (tags number tag result t) k = refl

-- ---- from a new host on

free_at_first : (n k : ℕ) → ShowsIn free (slice_get (replicate n None) k)
free_at_first zero k = tt
free_at_first (suc n) zero = tt
free_at_first (suc n) (suc k) = free_at_first n k

lives : AConnectionKeepsItsEnd → {h : Host} {said happened : ℕ → List Happening} → HasLived h said happened → (k : ℕ) → Passes (happened k) free (slice_get h.guests.items k)
lives ends {h} (begins network host settings secret new) k =
    subst (λ (gs : List (Option Guest)). Passes [] free (slice_get gs k)) (sym new.nobody) (stays free (slice_get (replicate settings.connections None) k) (free_at_first settings.connections k))
lives ends (goes_on {h = h} {j = j} {said = said} {happened = happened} {more = more} before step) k =
    passes_then (happened k) (happened_at (more k) (slice_get h.guests.items k) (slice_get j.guests.items k)) free (slice_get h.guests.items k) (slice_get j.guests.items k)
    (lives ends before k) (leads ends h j step k)

said_in : {h : Host} {said happened : ℕ → List Happening} → HasLived h said happened → (k : ℕ) → filter is_said (happened k) ≡ said k
said_in (begins network host settings secret new) k = refl
said_in (goes_on {h = h} {j = j} {said = said} {happened = happened} {more = more} before step) k =
    let step_k = happened_at (more k) (slice_get h.guests.items k) (slice_get j.guests.items k) in
    filter-append is_said (happened k) step_k ∙ (ap (λ (xs : List Happening). xs ++ filter is_said step_k) (said_in before k)
    ∙ ap (λ (xs : List Happening). said k ++ xs) (said_between (more k) (guest_in (slice_get h.guests.items k)) (guest_in (slice_get j.guests.items k)) (all_said step k)))

seen : (v : View) (place : Option (Option Guest)) → ShowsIn v place → IsSeen v place
seen free None s = tt
seen free (Some None) s = tt
seen free (Some (Some g)) s = absurd s
seen (held d) None s = absurd s
seen (held d) (Some None) s = absurd s
seen (held d) (Some (Some g)) s = record { ours = s.ours; closed = s.closed; told = s.told }

pub has_history : AConnectionKeepsItsEnd → (h : Host) (said happened : ℕ → List Happening) → HasLived h said happened → (k : ℕ) → NumberHasHistory (slice_get h.guests.items k) (said k) (happened k)
has_history ends h said happened l k =
    let p = lives ends l k in
    record { view = p.view; seen = seen p.view (slice_get h.guests.items k) p.shows; course = p.course; is = said_in l k }
