-- A host goes on with the meetings of its connections at each call.
use Rattle.std.proofs.Common.{◌≡◌, ◌≢◌, ◌∙◌, ◌⊎◌, inl, inr, ap, refl, sym, subst, ℕ, Bool, true, false, List, [], ◌∷◌, Option, Some, None, Result, Ok, Err}
use Rattle.std.specs.Prelude.{◌==◌, cond, if◌then◌else◌, slice_get, slice_set}
use Rattle.std.specs.Option.{is_some}
use Rattle.std.proofs.lemmas.Bool.{eq-eqb}
use Rattle.std.proofs.lemmas.Option.{slice_get_within}
use Rattle.courier_sessions.proofs.Done.{none_there}
use Rattle.courier_messages.specs.declared.message.Message.{Message}
use Rattle.xns_idp.specs.declared.address.Address.{Address}
use Rattle.courier_messages.specs.declared.message.Message.TheVariants as messages
use Rattle.item_world.specs.declared.side.Side.{Side}
use Rattle.xns_spp.specs.Packet.{SppPacketModel}
use Rattle.xns_host.specs.Coming.{Arrives, Comes, Opens}
use Rattle.xns_host.specs.Coming as coming
use Rattle.xns_connection.specs.Deeds as deeds
use Rattle.xns_connection.specs.Ends.{AConnectionKeepsItsEnd, peer_that_opened}
use Rattle.xns_host.specs.Events.{event_by, event_in, event_of, is_newly_open}
use Rattle.xns_host.specs.Hosting.{IsPlaceForNew, confirms, free_place, of_closed, of_stranger, may_go, tells as has_news}
use Rattle.xns_connection.specs.Living.{Deeds}
use Rattle.xns_agenda.specs.Turns.{has_turn}
use Rattle.xns_host.specs.Places.{AsksEvent, AsksPacket, NextEvent, NextPacket, Places, PlaceTurns, became, event_passed, packet_passed, seated, taken_by, vacated, vacated_if}
use Rattle.xns_host.specs.Places as places
use Rattle.xns_connection.specs.Deeds.{Parts}
use Rattle.xns_connection.specs.Step.{AStepKeepsItsPromises, parts_of}
use Rattle.xns_connection.specs.Story.{asked_of, waiting_message}
use Rattle.xns_host.specs.Turn.{Abandons, ConnectsTo, GivesOut, TakesIn, Turn, places_of, whole_of}
use Rattle.xns_host.specs.Went.{GuestGives, GuestHears, GuestStep, GuestReports, GuestTagged, GuestTells, GuestUnserved, Went}
use Rattle.xns_host.specs.Whole.{Whole}
use Rattle.xns_host.specs.declared.event.Event.{Event}
use Rattle.xns_host.specs.declared.guest.Guest.{Guest}
use Rattle.xns_host.specs.declared.host.Host.{Host}
use Rattle.xns_host.specs.declared.host_fault.HostFault.{HostFault}
use Rattle.xns_host.specs.declared.host_fault.HostFault.TheVariants.{NoMemory}
use Rattle.xns_host.specs.declared.outgoing.Outgoing.{Outgoing}
use Rattle.xns_host.specs.Strays.{StrayQueue}
use Rattle.xns_host.specs.Identifiers.{IsNextIdentifier}
use Rattle.xns_host.specs.Knowing.{id_of}
use Rattle.xns_host.specs.Registered.{IsAllRegistered}
use Rattle.xns_host.specs.declared.register.Register.{Register}
use Rattle.xns_agenda.specs.Clock.{time_at}
use Rattle.xns_agenda.specs.Waiting.{due_time}
use Rattle.host_world.specs.Following.{MayTake, EachFollowed, ProgramHasDone, HasGiven, IsFollowed, MayBeForgotten, deed_of, did_at, gave_at, gave_none, is_last, over_at, over_none}
use Rattle.host_world.specs.Following as following
use Rattle.host_world.specs.Guests.{LeadsOn, packet_returned}
use Rattle.host_world.specs.Meeting.{Meeting}
use Rattle.host_world.specs.Pairing.{with_no_more, one_message_more}
use Rattle.host_world.specs.Seen.{number_of}
use Rattle.host_world.proofs.Guests.{announced, answers, calls, closes, hands, hears_it, not_served, same_goes, tells}
use Rattle.host_world.proofs.Numbers.{at_place, beside, in_vain, may_be_told, no_event, same_or_other, since_stranger, since_told}
use Rattle.host_world.proofs.Reporting.{event_number, later_is, newly_event, why_by}
use Rattle.host_world.proofs.Untold.{another_id, handed_told, heard_id, unserved_told}
use Rattle.host_world.proofs.Following.{AskedOnce, Led, led, left, Goes, Still, TellsOn, asked_once, gives_on, tells_on, at_once, leads_wider, not_asked, once_still, still, still_then, then_does, EachStill, each_then, still_if, turns_still, all_act, no_packet, follows, followed, did_same, did_other, one_guest, not_equal}

-- ---- at one number, and at the others

each_by : (most : ℕ) (may : Meeting → Side → Type 0) (did : ℕ → Deeds → Deeds) (gave : ℕ → List (List ℕ)) (told : ℕ → Bool) (number : ℕ) (old new : List (Option Guest))
    → ((k : ℕ) → k ≢ number → (did k ≡ with_no_more) × (gave k ≡ []) × (told k ≡ false)) → ((k : ℕ) → k ≢ number → Still most (slice_get old k) (slice_get new k))
    → IsFollowed most may (did number) (gave number) (told number) (slice_get old number) (slice_get new number)
    → (k : ℕ) → IsFollowed most may (did k) (gave k) (told k) (slice_get old k) (slice_get new k)
each_by most may did gave told number old new others rest here k = by (same_or_other k number) where
  by : (k ≡ number) ⊎ (k ≢ number) → IsFollowed most may (did k) (gave k) (told k) (slice_get old k) (slice_get new k)
  by (inl same) = subst (λ (n : ℕ). IsFollowed most may (did n) (gave n) (told n) (slice_get old n) (slice_get new n)) (sym same) here
  by (inr other) =
      let o = others k other in
      subst (λ (d : Deeds → Deeds). IsFollowed most may d (gave k) (told k) (slice_get old k) (slice_get new k)) (sym o.0)
      (subst (λ (l : List (List ℕ)). IsFollowed most may with_no_more l (told k) (slice_get old k) (slice_get new k)) (sym o.1)
      (subst (λ (t : Bool). IsFollowed most may with_no_more [] t (slice_get old k) (slice_get new k)) (sym o.2) (followed most may (slice_get old k) (slice_get new k) (rest k other))))

each_still : (most : ℕ) (may : Meeting → Side → Type 0) (h j : Host) → EachStill most h.guests.items j.guests.items → EachFollowed most may (λ k. with_no_more) gave_none over_none h j
each_still most may h j s k = followed most may (slice_get h.guests.items k) (slice_get j.guests.items k) (s k)

told_same : (number : ℕ) (told : Bool) → over_at number told number ≡ told
told_same number told = ap (λ (b : Bool). cond b told false) (eq-eqb number number refl)

told_other : (number k : ℕ) (told : Bool) → k ≢ number → over_at number told k ≡ false
told_other number k told other = ap (λ (b : Bool). cond b told false) (not_equal k number (k == number) refl other)

-- the program did this at a number, and nothing was told but there
did_there : (most : ℕ) (may : Meeting → Side → Type 0) (number : ℕ) (did : Deeds → Deeds) (told : ℕ → Bool) (h j : Host) → ((k : ℕ) → k ≢ number → told k ≡ false)
    → ((k : ℕ) → k ≢ number → Still most (slice_get h.guests.items k) (slice_get j.guests.items k))
    → IsFollowed most may did [] (told number) (slice_get h.guests.items number) (slice_get j.guests.items number) → EachFollowed most may (did_at number did) gave_none told h j
did_there most may number did told h j untold rest here =
    each_by most may (did_at number did) gave_none told number h.guests.items j.guests.items (λ k other. (did_other number k did other, refl, untold k other)) rest
    (subst (λ (d : Deeds → Deeds). IsFollowed most may d [] (told number) (slice_get h.guests.items number) (slice_get j.guests.items number)) (sym (did_same number number did refl)) here)

-- ---- the program's own calls

went_goes : (now : ℕ) (deed : deeds.Deed) (x y : Option (Option Guest)) (g : Guest) → Went now deed x y → x ≡ Some (Some g) → (k : Guest) × (y ≡ Some (Some k)) × GuestStep now deed g k
went_goes now deed None y g w e = absurd w
went_goes now deed (Some None) y g w e = absurd w
went_goes now deed (Some (Some f)) None g w e = absurd w
went_goes now deed (Some (Some f)) (Some None) g w e = absurd w
went_goes now deed (Some (Some f)) (Some (Some k)) g w e = (k, refl, subst (λ (x : Guest). GuestStep now deed x k) (one_guest f g e) w)

turn_followed : (now number : ℕ) (deed : deeds.Deed) (did : Deeds → Deeds) (h j : Host) → Turn now number deed (Ok tt) h j
    → ((g k : Guest) → slice_get h.guests.items number ≡ Some (Some g) → GuestStep (time_at h.clock now) deed g k → LeadsOn 1 g k did [])
    → EachFollowed 1 (MayTake None) (did_at number did) gave_none over_none h j
turn_followed now number deed did h j t each =
    did_there 1 (MayTake None) number did over_none h j (λ k other. refl) (λ k other. subst (Still 1 (slice_get h.guests.items k)) (sym (t.apart.others k other)) (still 1 (slice_get h.guests.items k)))
    (λ g e a b programs m side meets here z.
    let w = went_goes (time_at h.clock now) deed (slice_get h.guests.items number) (slice_get j.guests.items number) g t.went e in
    following.stays w.0 w.1 (each g w.0 e w.2 a b programs m side meets here))

-- ---- what is told

message_deed : (number tag : ℕ) (m : Message) → deed_of (event_of number tag m) ≡ one_message_more m
message_deed number tag (messages.Call transaction program version procedure words) = refl
message_deed number tag (messages.Reject transaction reason words) = refl
message_deed number tag (messages.Return transaction words) = refl
message_deed number tag (messages.Abort transaction error words) = refl

-- no step is at most one
none_to_one : (g h : Guest) → LeadsOn 0 g h with_no_more [] → LeadsOn 1 g h with_no_more []
none_to_one g h on a b programs m side meets here = leads_wider 1 (on a b programs m side meets here)

event_goes : (law : AStepKeepsItsPromises) (now number : ℕ) (g h : Guest) (event : Event) (o : Option Message) → GuestTells now g h → waiting_message g.connection.conversation.side ≡ o
    → event_by number g.tag o (if g.connection.told then None else g.connection.closed) ≡ Some event → LeadsOn 1 g h (deed_of event) []
event_goes law now number g h event (Some m) t is e =
    let same : event_of number g.tag m ≡ event = cc in
    subst (λ (d : Deeds → Deeds). LeadsOn 1 g h d []) (sym (message_deed number g.tag m) ∙ ap deed_of same) (hands now m g h law t is)
event_goes law now number g h event None t is e =
    let w = why_by number g.tag g.connection.told g.connection.closed event e in
    subst (λ (x : Event). LeadsOn 1 g h (deed_of x) []) w.3 (none_to_one g h (tells now g h t is))

report_goes : (law : AStepKeepsItsPromises) (now number : ℕ) (g h : Guest) (event : Event) → GuestReports now g h → event_in number (Some g) ≡ Some event
    → LeadsOn 1 g h (deed_of event) []
report_goes law now number g h event t e = by (is_newly_open g) refl where
  by : (newly : Bool) → is_newly_open g ≡ newly → LeadsOn 1 g h (deed_of event) []
  by true is = subst (λ (x : Event). LeadsOn 1 g h (deed_of x) []) (newly_event number g event is e) (none_to_one g h (announced g h (t.opened is)))
  by false is = event_goes law now number g h event (waiting_message g.connection.conversation.side) (t.later is) refl (later_is number g event is e)

-- an event tells that the connection is closed, or leaves it as it was whether that was told
event_tells : (now number : ℕ) (g h : Guest) (event : Event) (o : Option Message) → GuestTells now g h → waiting_message g.connection.conversation.side ≡ o
    → event_by number g.tag o (if g.connection.told then None else g.connection.closed) ≡ Some event → TellsOn (is_last event) g h
event_tells now number g h event (Some m) t is e z =
    inr (sym (handed_told now g.connection h.connection (t.handed (λ none. let some = sym is ∙ none in absurd (cc)))) ∙ z)
event_tells now number g h event None t is e z =
    let w = why_by number g.tag g.connection.told g.connection.closed event e in inl (ap is_last (sym w.3))

report_tells : (now number : ℕ) (g h : Guest) (event : Event) → GuestReports now g h → event_in number (Some g) ≡ Some event → TellsOn (is_last event) g h
report_tells now number g h event t e = by (is_newly_open g) refl where
  by : (newly : Bool) → is_newly_open g ≡ newly → TellsOn (is_last event) g h
  by true is z = inr (sym (ap (λ (k : Guest). k.connection.told) (t.opened is)) ∙ z)
  by false is z = event_tells now number g h event (waiting_message g.connection.conversation.side) (t.later is) refl (later_is number g event is e) z

became_goes : (p : Places) (number : ℕ) (g h : Guest) (did : Deeds → Deeds) (told : Bool) → slice_get p.guests number ≡ Some (Some g) → LeadsOn 1 g h did [] → TellsOn told g h
    → Goes 1 did [] told g (slice_get (became p number h).guests number)
became_goes p number g h did told was on tells a b programs m side meets here = by (may_go h.connection) refl where
  there : slice_get (seated p number h).guests number ≡ Some (Some h)
  there = at_place p.guests number (Some h) (slice_get_within p.guests number (Some g) was)

  by : (v : Bool) → may_go h.connection ≡ v → Led a b programs 1 m side did [] told g (slice_get (vacated_if v (seated p number h) number).guests number)
  by false is = subst (Led a b programs 1 m side did [] told g) (sym there) (led h (on a b programs m side meets here) tells)
  by true is =
      subst (Led a b programs 1 m side did [] told g) (sym (at_place (seated p number h).guests number None (slice_get_within (seated p number h).guests number (Some h) there)))
      (left h (on a b programs m side meets here) (tells (may_be_told h.connection is)))

became_beside : (p : Places) (number k : ℕ) (h : Guest) → k ≢ number → slice_get (became p number h).guests k ≡ slice_get p.guests k
became_beside p number k h other = by (may_go h.connection) where
  by : (v : Bool) → slice_get (vacated_if v (seated p number h) number).guests k ≡ slice_get p.guests k
  by false = beside p.guests number k (Some h) other
  by true = beside (seated p number h).guests number k None other ∙ beside p.guests number k (Some h) other

told_by : (law : AStepKeepsItsPromises) (now number : ℕ) (p q : Places) {r : Places} (event : Event) → q.guests ≡ p.guests → AsksEvent now number q (Some event) r
    → (number_of event ≡ number) × ((k : ℕ) → k ≢ number → Still 1 (slice_get p.guests k) (slice_get r.guests k))
    × IsFollowed 1 (MayTake None) (deed_of event) [] (is_last event) (slice_get p.guests number) (slice_get r.guests number)
told_by law now number p q event as_was (places.tells g h e was is t) =
    let r = became (event_passed q number) number h in
    let before : slice_get p.guests number ≡ Some (Some g) = ap (λ (l : List (Option Guest)). slice_get l number) (sym as_was) ∙ was in (
      event_number number g event is,
      λ k other. subst (Still 1 (slice_get p.guests k)) (sym (became_beside (event_passed q number) number k h other ∙ ap (λ (l : List (Option Guest)). slice_get l k) as_was)) (still 1 (slice_get p.guests k)),
      λ f at_it a b programs m side meets here z. follows (subst (λ (x : Guest). Led a b programs 1 m side (deed_of event) [] (is_last event) x (slice_get r.guests number)) (one_guest g f (sym before ∙ at_it))
          (became_goes (event_passed q number) number g h (deed_of event) (is_last event) was (report_goes law now number g h event t is) (report_tells now number g h event t is) a b programs m side meets
          (here ∙ ap (λ (x : Guest). x.connection.conversation) (sym (one_guest g f (sym before ∙ at_it)))))),
    )

events_followed : (law : AStepKeepsItsPromises) (now : ℕ) (h j : Host) (event : Event) (p r : Places) → p.guests ≡ h.guests.items → r.guests ≡ j.guests.items → NextEvent now p (Some event) r
    → EachFollowed 1 (MayTake None) (did_at (number_of event) (deed_of event)) gave_none (over_at (number_of event) (is_last event)) h j
events_followed law now h j event p r from to (places.told {q = q} number before first asked) =
    let x = told_by law now number p q event (in_vain now p before) asked in
    subst (λ (n : ℕ). EachFollowed 1 (MayTake None) (did_at n (deed_of event)) gave_none (over_at n (is_last event)) h j) (sym x.0)
    (did_there 1 (MayTake None) number (deed_of event) (over_at number (is_last event)) h j (λ k other. told_other number k (is_last event) other)
    (λ k other. subst (λ (l : List (Option Guest)). Still 1 (slice_get l k) (slice_get j.guests.items k)) from (subst (λ (l : List (Option Guest)). Still 1 (slice_get p.guests k) (slice_get l k)) to (x.1 k other)))
    (subst (λ (t : Bool). IsFollowed 1 (MayTake None) (deed_of event) [] t (slice_get h.guests.items number) (slice_get j.guests.items number)) (sym (told_same number (is_last event)))
    (subst (λ (l : List (Option Guest)). IsFollowed 1 (MayTake None) (deed_of event) [] (is_last event) (slice_get l number) (slice_get j.guests.items number)) from
    (subst (λ (l : List (Option Guest)). IsFollowed 1 (MayTake None) (deed_of event) [] (is_last event) (slice_get p.guests number) (slice_get l number)) to x.2))))

-- ---- a new connection

nobody_there : (g : Guest) → (let a : Option (Option Guest) = Some None in a) ≡ Some (Some g) → ⊥
nobody_there g e = absurd (cc)

may_go_away : (gs : List (Option Guest)) {n : ℕ} → IsPlaceForNew gs n → (g : Guest) → slice_get gs n ≡ Some (Some g) → MayBeForgotten false g
may_go_away gs (free_place k there) g e = absurd (nobody_there g (sym there ∙ e))
may_go_away gs (of_closed k t f full there since first) g e =
    subst (MayBeForgotten false) (one_guest f g (sym there ∙ e)) (inr (inl (since_told (is_some f.connection.closed) f.connection.told (due_time f.connection.wait.due) t since)))
may_go_away gs (of_stranger k t f full none there since first) g e =
    let x = since_stranger (is_some (peer_that_opened f.connection)) f.confirmed f.heard_of (is_some f.connection.closed) (has_news f.connection) t f.connection.wait.heard_at since in
    subst (MayBeForgotten false) (one_guest f g (sym there ∙ e)) (inr (inr (x.0, x.1, none_there f.connection.closed x.2)))

-- a connection of another identifier is in the place then: the next one, which none that was there has
gives_way : (most : ℕ) (may : Meeting → Side → Type 0) (register : Register) (gs : List (Option Guest)) {n : ℕ} (place : Option (Option Guest)) (h : Guest) → IsAllRegistered register gs
    → IsPlaceForNew gs n → place ≡ Some (Some h) → IsNextIdentifier register.identifiers (id_of h) → IsFollowed most may with_no_more [] false (slice_get gs n) place
gives_way most may register gs {n = n} place h all is there next g e a b programs m side meets here z =
    following.forgotten g (at_once most g a b programs m side meets here) (may_go_away gs is g e) (inr (h, there, another_id register gs h all next n g e))

pub taken_beside : (p : Places) (n k : ℕ) (g : Guest) → k ≢ n → slice_get (taken_by (vacated p n) n g).guests k ≡ slice_get p.guests k
taken_beside p n k g other = beside (vacated p n).guests n k (Some g) other ∙ beside p.guests n k None other

nothing_done : (most : ℕ) (may : Meeting → Side → Type 0) (number : ℕ) (old new : List (Option Guest)) → ((k : ℕ) → k ≢ number → Still most (slice_get old k) (slice_get new k))
    → IsFollowed most may with_no_more [] false (slice_get old number) (slice_get new number) → (k : ℕ) → IsFollowed most may with_no_more [] false (slice_get old k) (slice_get new k)
nothing_done most may number old new rest here = each_by most may (λ k. with_no_more) gave_none over_none number old new (λ k other. (refl, refl, refl)) rest here

connect_followed : (now way socket : ℕ) (peer : Address) (number : ℕ) (h j : Host) → ConnectsTo now way socket peer (Ok number) h j → EachFollowed 1 (MayTake None) (λ k. with_no_more) gave_none over_none h j
connect_followed now way socket peer number h j c =
    let g = c.connected.guest in
    let is = ap (λ (p : Places). p.guests) (c.places g c.connected.there) in
    nothing_done 1 (MayTake None) number h.guests.items j.guests.items
    (λ k other. subst (Still 1 (slice_get h.guests.items k)) (sym (ap (λ (l : List (Option Guest)). slice_get l k) is ∙ taken_beside (places_of h) number k g other)) (still 1 (slice_get h.guests.items k)))
    (gives_way 1 (MayTake None) h.register h.guests.items (slice_get j.guests.items number) g h.registered c.place c.connected.there c.connected.next)

-- ---- a connection that is abandoned

-- an abandoned connection is gone, and each other one is as it was
pub abandoned_followed : (number : ℕ) (h j : Host) → Abandons number (Ok tt) h j → (k : ℕ) → k ≢ number
    → IsFollowed 0 (MayTake None) with_no_more [] false (slice_get h.guests.items k) (slice_get j.guests.items k)
abandoned_followed number h j a k other =
    let same : slice_get j.guests.items k ≡ slice_get h.guests.items k
    = ap (λ (p : Places). slice_get p.guests k) a.gone ∙ beside h.guests.items number k None other in
    followed 0 (MayTake None) (slice_get h.guests.items k) (slice_get j.guests.items k)
    (subst (Still 0 (slice_get h.guests.items k)) (sym same) (still 0 (slice_get h.guests.items k)))

-- the one that is abandoned is gone from its place, and each other one is as it was
gone_followed : (number : ℕ) (h j : Host) → Abandons number (Ok tt) h j → EachFollowed 1 (MayTake None) (λ k. with_no_more) gave_none (over_at number true) h j
gone_followed number h j a =
    each_by 1 (MayTake None) (λ k. with_no_more) gave_none (over_at number true) number h.guests.items j.guests.items (λ k other. (refl, refl, told_other number k true other))
    (λ k other. subst (Still 1 (slice_get h.guests.items k)) (sym (is k ∙ beside h.guests.items number k None other)) (still 1 (slice_get h.guests.items k)))
    (λ g e a b programs m side meets here z. following.forgotten g (at_once 1 g a b programs m side meets here) (inl (told_same number true))
    (inl (is number ∙ at_place h.guests.items number None (slice_get_within h.guests.items number (Some g) e)))) where
      is : (k : ℕ) → slice_get j.guests.items k ≡ slice_get (slice_set h.guests.items number None) k
      is k = ap (λ (p : Places). slice_get p.guests k) a.gone

-- ---- all that the program does

pub done_followed : (law : AStepKeepsItsPromises) (h j : Host) (did : ℕ → Deeds → Deeds) (told : ℕ → Bool) → ProgramHasDone h j did told → EachFollowed 1 (MayTake None) did gave_none told h j
done_followed law h j did told (following.called now number c t) = turn_followed now number (deeds.made c) _ h j t (λ g k e s. calls (time_at h.clock now) c g k law s)
done_followed law h j did told (following.answered now number n kind words f there asked t) =
    turn_followed now number (deeds.gave kind words) _ h j t
    (λ g k e s. answers (time_at h.clock now) kind n words g k law s (subst (λ (x : Guest). asked_of x.connection.conversation.side ≡ Some n) (one_guest f g (sym there ∙ e)) asked))
done_followed law h j did told (following.closed now number t) = turn_followed now number deeds.asked with_no_more h j t (λ g k e s. closes (time_at h.clock now) g k law s)
done_followed law h j did told (following.was_told event t) = events_followed law h.clock.latest h j event (places_of h) (places_of j) refl refl t.next
done_followed law h j did told (following.connected now way socket peer number c) = connect_followed now way socket peer number h j c
done_followed law h j did told (following.was_refused now number deed fault t) = each_still 1 (MayTake None) h j (λ k. subst (Still 1 (slice_get h.guests.items k)) (sym (t.unchanged k)) (still 1 (slice_get h.guests.items k)))
done_followed law h j did told (following.abandoned number a) = gone_followed number h j a
done_followed law h j did told (following.abandoned_none number fault a) = each_still 1 (MayTake None) h j (still_if 1 h.guests.items j.guests.items (ap (λ (p : Places). p.guests) a.unchanged))
done_followed law h j did told (following.found_no_room now way socket peer fault c) = each_still 1 (MayTake None) h j (still_if 1 h.guests.items j.guests.items (ap (λ (p : Places). p.guests) c.unchanged))
done_followed law h j did told (following.was_told_nothing t) = each_still 1 (MayTake None) h j (still_if 1 h.guests.items j.guests.items (no_event h.clock.latest (places_of h) t.next))
done_followed law h j did told (following.served socket programs result s) = each_still 1 (MayTake None) h j (still_if 1 h.guests.items j.guests.items (ap (λ (w : Whole). w.places.guests) s.rest))
done_followed law h j did told (following.moved network m) = each_still 1 (MayTake None) h j (still_if 1 h.guests.items j.guests.items (ap (λ (w : Whole). w.places.guests) m.is))
done_followed law h j did told (following.tagged number tag (Ok u) t) =
    each_still 1 (MayTake None) h j (turns_still 1 (GuestTagged tag) number (places_of h) (places_of j)
    (λ g k is. record { on = same_goes 1 g k (ap (λ (x : Guest). x.connection.conversation) is); told = ap (λ (x : Guest). x.connection.told) is }) t.tagged)
done_followed law h j did told (following.tagged number tag (Err fault) t) = each_still 1 (MayTake None) h j (still_if 1 h.guests.items j.guests.items (ap (λ (p : Places). p.guests) t.unchanged))

-- ---- what goes out

gave_same : (number : ℕ) (gave : List (List ℕ)) → gave_at number gave number ≡ gave
gave_same number gave = ap (λ (b : Bool). cond b gave []) (eq-eqb number number refl)

gave_other : (number k : ℕ) (gave : List (List ℕ)) → k ≢ number → gave_at number gave k ≡ []
gave_other number k gave other = ap (λ (b : Bool). cond b gave []) (not_equal k number (k == number) refl other)

-- a connection of the host gave the packet, or none did
Given : (h : Host) (result : Result (Option Outgoing) HostFault) (old new : List (Option Guest)) → Type 0
Given h result old new = (gave : ℕ → List (List ℕ)) × HasGiven h result gave × ((k : ℕ) → IsFollowed 3 (MayTake None) with_no_more (gave k) false (slice_get old k) (slice_get new k))

none_given : (h : Host) (result : Result (Option Outgoing) HostFault) (old new : List (Option Guest)) → HasGiven h result gave_none → EachStill 3 old new → Given h result old new
unfolding Given
none_given h result old new has s = (gave_none, has, λ k. followed 3 (MayTake None) (slice_get old k) (slice_get new k) (s k))

-- what is due was done, and then this one was asked at most once
acted_once : (p q r : Places) (k : ℕ) → EachStill 1 p.guests q.guests → AskedOnce q r k → Still 3 (slice_get p.guests k) (slice_get r.guests k)
acted_once p q r k s once = still_then 1 2 (slice_get p.guests k) (slice_get q.guests k) (slice_get r.guests k) (s k) (once_still q r k once)

packet_given : (law : AStepKeepsItsPromises) (h : Host) (now number : ℕ) (packet : Outgoing) (p q x r : Places) → p.guests ≡ h.guests.items → EachStill 1 p.guests q.guests
    → ((k : ℕ) → AskedOnce q x k) → has_turn x.agenda.packets number ≡ true → PlaceTurns (GuestGives now (Ok (Some packet))) number (packet_passed x number) r → Given h (Ok (Some packet)) p.guests r.guests
unfolding Given
packet_given law h now number packet p q x r of s once has t =
    let sent : List (List ℕ) = packet_returned (Ok (Some packet)) in
    let is = ap (λ (x : Places). x.guests) t.is in
    let goes = gives_on law now (Ok (Some packet)) t.guest t.next t.turn in
    let less = slice_get_within x.guests number (Some t.guest) t.was in
    let mid : slice_get q.guests number ≡ Some (Some t.guest) = sym (not_asked q x number has (once number)) ∙ t.was in
    let was = (s number).from t.guest mid in
    let there : slice_get r.guests number ≡ Some (Some t.next) = ap (λ (l : List (Option Guest)). slice_get l number) is ∙ at_place x.guests number (Some t.next) less in (
      gave_at number sent,
      following.one number was.0 (ap (λ (l : List (Option Guest)). slice_get l number) (sym of) ∙ was.1),
      each_by 3 (MayTake None) (λ k. with_no_more) (gave_at number sent) over_none number p.guests r.guests
          (λ k other. (refl, gave_other number k sent other, refl))
          (λ k other. subst (Still 3 (slice_get p.guests k)) (sym (ap (λ (l : List (Option Guest)). slice_get l k) is ∙ beside x.guests number k (Some t.next) other)) (acted_once p q x k s (once k)))
          (subst (λ (l : List (List ℕ)). IsFollowed 3 (MayTake None) with_no_more l false (slice_get p.guests number) (slice_get r.guests number)) (sym (gave_same number sent))
          (λ f at_it a b programs m side meets here z. follows (then_does 1 2 (slice_get p.guests number) (slice_get q.guests number) (slice_get r.guests number) t.guest with_no_more sent false (s number) mid
          (λ c d ps n v ms same. subst (Led c d ps 2 n v with_no_more sent false t.guest) (sym there) (led t.next (goes.on c d ps n v ms same) (tells_on t.guest t.next goes.told))) f at_it a b programs m side meets here))),
    )

-- memory was refused to one that had a turn, and was not asked before
starved_given : (law : AStepKeepsItsPromises) (now number : ℕ) (p q x r : Places) → EachStill 1 p.guests q.guests → ((k : ℕ) → AskedOnce q x k) → has_turn x.agenda.packets number ≡ true
    → AsksPacket now number (Err NoMemory) x r → EachStill 3 p.guests r.guests
starved_given law now number p q x r s once has asked k = by (same_or_other k number) where
  by : (k ≡ number) ⊎ (k ≢ number) → Still 3 (slice_get p.guests k) (slice_get r.guests k)
  by (inl same) =
      let is : slice_get x.guests k ≡ slice_get q.guests k = not_asked q x k (ap (λ (n : ℕ). has_turn x.agenda.packets n) same ∙ has) (once k) in
      still_then 1 2 (slice_get p.guests k) (slice_get x.guests k) (slice_get r.guests k) (subst (Still 1 (slice_get p.guests k)) (sym is) (s k)) (no_packet law now number (Err NoMemory) x r refl asked k)
  by (inr apart) =
      subst (Still 3 (slice_get p.guests k)) (sym (ap (λ (y : Places). slice_get y.guests k) asked.is ∙ beside x.guests number k (Some asked.next) apart)) (acted_once p q x k s (once k))

next_given : (law : AStepKeepsItsPromises) (h : Host) (now wait : ℕ) (p q : Places) → p.guests ≡ h.guests.items → {result : Result (Option Outgoing) HostFault} {r : Places} → EachStill 1 p.guests q.guests → NextPacket now wait q result r → Given h result p.guests r.guests
next_given law h now wait p q of {result = result} {r = r} s (places.nothing before none) =
    none_given h result p.guests r.guests (following.none refl) (λ k. acted_once p q r k s (asked_once law now q before k))
next_given law h now wait p q of s (places.gives {q = x} {r = r} {packet = packet} number before first asked) =
    packet_given law h now number packet p q x r of s (asked_once law now q before) first.has asked
next_given law h now wait p q of s (places.starves {q = x} {r = r} number before first asked) =
    none_given h (Err NoMemory) p.guests r.guests (following.none refl) (starved_given law now number p q x r s (asked_once law now q before) first.has asked)

out_given : (law : AStepKeepsItsPromises) (now : ℕ) (result : Result (Option Outgoing) HostFault) (h j : Host) → GivesOut now result h j → (waiting : List Outgoing) → h.strays.waiting ≡ waiting
    → Given h result h.guests.items j.guests.items
out_given law now result h j g [] is = next_given law h (time_at h.clock now) h.settings.first_wait (places_of h) g.mid refl (all_act (time_at h.clock now) (places_of h) g.acts.one_by_one) (g.next is).0
out_given law now result h j g (o ∷ os) is =
    none_given h result h.guests.items j.guests.items (following.stray o os is (g.stray o os is).0) (each_then 1 2 h.guests.items g.mid.guests j.guests.items (all_act (time_at h.clock now) (places_of h) g.acts.one_by_one)
    (still_if 2 g.mid.guests j.guests.items (ap (λ (p : Places). p.guests) (g.stray o os is).1)))

pub given_followed : (law : AStepKeepsItsPromises) (now : ℕ) (result : Result (Option Outgoing) HostFault) (h j : Host) → GivesOut now result h j
    → (gave : ℕ → List (List ℕ)) × HasGiven h result gave × EachFollowed 3 (MayTake None) (λ k. with_no_more) gave over_none h j
unfolding Given
given_followed law now result h j g = out_given law now result h j g h.strays.waiting refl

-- ---- what comes

hears_at : (law : AStepKeepsItsPromises) (now number : ℕ) (bytes : List ℕ) (confirming : Bool) (p r : Places) → PlaceTurns (GuestHears now bytes confirming) number p r
    → (k : ℕ) → IsFollowed 1 (MayTake (Some bytes)) with_no_more [] false (slice_get p.guests k) (slice_get r.guests k)
hears_at law now number bytes confirming p r t =
    let is = ap (λ (x : Places). x.guests) t.is in
    let there : slice_get r.guests number ≡ Some (Some t.next) =
    ap (λ (l : List (Option Guest)). slice_get l number) is ∙ at_place p.guests number (Some t.next) (slice_get_within p.guests number (Some t.guest) t.was) in
    nothing_done 1 (MayTake (Some bytes)) number p.guests r.guests
    (λ k other. subst (Still 1 (slice_get p.guests k)) (sym (ap (λ (l : List (Option Guest)). slice_get l k) is ∙ beside p.guests number k (Some t.next) other)) (still 1 (slice_get p.guests k)))
    (λ g e a b programs m side meets here may.
    let same : t.guest ≡ g = one_guest t.guest g (sym t.was ∙ e) in
    following.stays t.next there (hears_it now bytes confirming t.guest t.next law t.turn a b programs m side meets (here ∙ ap (λ (x : Guest). x.connection.conversation) (sym same)) may))

opens_followed : (ends : AConnectionKeepsItsEnd) (now way : ℕ) (bytes : List ℕ) (packet : SppPacketModel) (w : Whole) → IsAllRegistered w.register w.places.guests → {register : Register} {strays : StrayQueue} {r : Places} → Opens now way bytes packet w register strays r
    → (k : ℕ) → IsFollowed 1 (MayTake (Some bytes)) with_no_more [] false (slice_get w.places.guests k) (slice_get r.guests k)
opens_followed ends now way bytes packet w all {r = r} (coming.opened {mid = mid} number id peer programs opener served seats turn) =
    let p = w.places in
    let is = ap (λ (x : Places). x.guests) seats.is in
    let to = ap (λ (x : Places). x.guests) turn.is in
    let there : slice_get r.guests number ≡ Some (Some turn.next)
    = ap (λ (l : List (Option Guest)). slice_get l number) to ∙ at_place mid.guests number (Some turn.next) (slice_get_within mid.guests number (Some turn.guest) turn.was) in
    nothing_done 1 (MayTake (Some bytes)) number p.guests r.guests
    (λ k other. subst (Still 1 (slice_get p.guests k)) (sym (ap (λ (l : List (Option Guest)). slice_get l k) to ∙ (beside mid.guests number k (Some turn.next) other
    ∙ (ap (λ (l : List (Option Guest)). slice_get l k) is ∙ taken_beside p number k seats.guest other)))) (still 1 (slice_get p.guests k)))
    (gives_way 1 (MayTake (Some bytes)) w.register p.guests (slice_get r.guests number) turn.next all seats.place there
    (subst (IsNextIdentifier w.register.identifiers) (sym (heard_id ends now bytes false turn.guest turn.next turn.turn ∙ ap id_of (one_guest turn.guest seats.guest (sym turn.was ∙ seats.there)))) seats.answering.next))
opens_followed ends now way bytes packet w all (coming.full why same complains) = λ k. followed 1 (MayTake (Some bytes)) (slice_get w.places.guests k) (slice_get w.places.guests k) (still 1 (slice_get w.places.guests k))
opens_followed ends now way bytes packet w all (coming.starved same) = λ k. followed 1 (MayTake (Some bytes)) (slice_get w.places.guests k) (slice_get w.places.guests k) (still 1 (slice_get w.places.guests k))

comes_followed : (law : AStepKeepsItsPromises) (ends : AConnectionKeepsItsEnd) (now way : ℕ) (bytes : List ℕ) (w : Whole) → IsAllRegistered w.register w.places.guests → {result : Bool} {n : Whole} → Comes now way bytes w result n
    → (k : ℕ) → IsFollowed 1 (MayTake (Some bytes)) with_no_more [] false (slice_get w.places.guests k) (slice_get n.places.guests k)
comes_followed law ends now way bytes w all (coming.foreign strange) k = followed 1 (MayTake (Some bytes)) (slice_get w.places.guests k) (slice_get w.places.guests k) (still 1 (slice_get w.places.guests k))
comes_followed law ends now way bytes w all (coming.echoes p taken is asks stray) k = followed 1 (MayTake (Some bytes)) (slice_get w.places.guests k) (slice_get w.places.guests k) (still 1 (slice_get w.places.guests k))
comes_followed law ends now way bytes w all (coming.refuses p taken {q = q} is quotes turn) k =
    followed 1 (MayTake (Some bytes)) (slice_get w.places.guests k) (slice_get q.guests k) (turns_still 1 (GuestUnserved now quotes.quote.error) quotes.number w.places q (λ g h s. record { on = not_served now quotes.quote.error g h s; told = ap (λ (p : Parts). p.told) s.parts ∙ unserved_told (parts_of g.connection) quotes.quote.error now }) turn k)
comes_followed law ends now way bytes w all (coming.hears p {q = q} is names turn) k = hears_at law now names.number bytes (confirms p) w.places q turn k
comes_followed law ends now way bytes w all (coming.opens p is opener o) k = opens_followed ends now way bytes p w all o k

arrives_followed : (law : AStepKeepsItsPromises) (ends : AConnectionKeepsItsEnd) (now way : ℕ) (bytes : List ℕ) (w : Whole) → IsAllRegistered w.register w.places.guests → {result : Bool} {n : Whole} → Arrives now way bytes w result n
    → (k : ℕ) → IsFollowed 1 (MayTake (Some bytes)) with_no_more [] false (slice_get w.places.guests k) (slice_get n.places.guests k)
arrives_followed law ends now way bytes w all (coming.meant c) k = comes_followed law ends now way bytes w all c k
arrives_followed law ends now way bytes w all (coming.unheard p taken c is served complains) k = followed 1 (MayTake (Some bytes)) (slice_get w.places.guests k) (slice_get w.places.guests k) (still 1 (slice_get w.places.guests k))
arrives_followed law ends now way bytes w all (coming.unmeant c never) k = followed 1 (MayTake (Some bytes)) (slice_get w.places.guests k) (slice_get w.places.guests k) (still 1 (slice_get w.places.guests k))

pub heard_followed : (law : AStepKeepsItsPromises) (ends : AConnectionKeepsItsEnd) (now way : ℕ) (bytes : List ℕ) (result : Bool) (h j : Host) → TakesIn now way bytes result h j
    → EachFollowed 1 (MayTake (Some bytes)) (λ k. with_no_more) gave_none over_none h j
heard_followed law ends now way bytes result h j t = arrives_followed law ends (time_at h.clock now) way bytes (whole_of h) h.registered t.comes
