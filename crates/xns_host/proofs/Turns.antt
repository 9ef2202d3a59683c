-- A step of a host from one of the connection in a place.
use Rattle.std.proofs.Common.{◌≡◌, ◌≢◌, ◌⊎◌, inl, inr, ◌<◌, ◌∙◌, ap, refl, sym, subst, ℕ, Bool, List, Option, Some, None, Result, Ok, get_or, slice_get, slice_set, length, true, false}
use Rattle.std.specs.Prelude.{◌||◌, if◌then◌else◌}
use Rattle.std.specs.Option.{is_some}
use Rattle.std.proofs.lemmas.List.{length-set}
use Rattle.std.proofs.lemmas.Option.{slice_get_read}
use Rattle.courier_messages.specs.declared.message.Message.{Message}
use Rattle.xns_agenda.specs.Agenda.{Plan, noted}
use Rattle.xns_agenda.specs.Clock.{time_at, told_at}
use Rattle.xns_agenda.specs.Waiting.{act_at}
use Rattle.xns_connection.specs.Deeds.{Deed, heard, told_by}
use Rattle.xns_connection.specs.Ends.{AConnectionKeepsItsEnd, KeepsEnd}
use Rattle.xns_host.specs.Events.{event_by, event_for, is_newly_open, later_event}
use Rattle.xns_host.specs.Hosting.{HasNoneDone, IsAllNoted, IsNotDone, IsNotDoneIn, IsNotedBut, facts_in, has_guest, may_go}
use Rattle.xns_host.specs.Knowing.{known_in, known_of_peer}
use Rattle.xns_host.specs.Places.{places_with, taken_by, vacated, vacated_if}
use Rattle.xns_host.specs.Registered.{HasStory, IsAllRegistered}
use Rattle.xns_connection.specs.Step.{AConnectionGivesWhatItMade, AMessageIsHandedAsByAStep, AStepKeepsItsPromises, Step}
use Rattle.xns_connection.specs.Story.{waiting_message, with_handed}
use Rattle.xns_connection.specs.Telling.{Goes}
use Rattle.xns_host.specs.Went.{GuestActs, GuestGives, GuestHears, GuestReports, GuestStep, GuestTagged, GuestTells, GuestUnserved, Went, hears, lost}
use Rattle.xns_connection.specs.declared.connection.Connection.{Connection}
use Rattle.xns_host.specs.declared.event.Event.{Event}
use Rattle.xns_host.specs.declared.event.Event.TheVariants.{Opened}
use Rattle.xns_host.specs.declared.guest.Guest.{Guest}
use Rattle.xns_host.specs.Turn.{Turn, places_of, whole_of}
use Rattle.xns_host.specs.declared.host.Host.{Host}
use Rattle.xns_host.specs.declared.host_fault.HostFault.{HostFault}
use Rattle.xns_host.specs.declared.outgoing.Outgoing.{Outgoing}
use Rattle.xns_host.specs.declared.register.Register.{Register}
use Rattle.xns_connection.specs.declared.why.Why.{Why}
use Rattle.xns_host.proofs.Ends.{from_story, goes_story, hears_story, still_keeps, still_story}
use Rattle.xns_host.proofs.Meant.{acts_so, given_so, handed_story, handing, handing_steps, heard_hears}
use Rattle.xns_agenda.proofs.Putting.{place_other, place_set, same_or_other}
use Rattle.xns_host.proofs.Apart.{set_apart}
use Rattle.xns_host.proofs.Noting.{kept_but}
use Rattle.xns_host.proofs.Placed.{set_back, settled_apart, settled_gone, settled_kept, taken_apart, taken_there}
use Rattle.xns_host.proofs.Registered.{still_registered}
use Rattle.xns_host.proofs.Undone.{came_not_done, not_done_act, not_done_after, not_done_steps, not_done_told, still_not_done, waits_on}

abbrev Places : Type 0
Places = List (Option Guest)

-- ---- a connection that went on

-- what a host knows of the connection is as it was; the connection keeps its end, and its story goes on
pub record Stays (g h : Guest) : Type 0 where
  pub known : known_of_peer h ≡ known_of_peer g
  pub keeps : KeepsEnd g.connection h.connection
  pub story : HasStory g → HasStory h

pub step_stays : AStepKeepsItsPromises → AConnectionKeepsItsEnd → (now : ℕ) (deed : Deed) (g h : Guest) → GuestStep now deed g h → Stays g h
step_stays law ends now deed g h s = record {
  known = ap known_of_peer s.same;
  keeps = ends.steps now deed g.connection h.connection s.step;
  story = from_story g h (told_by deed g.connection.conversation.side) (law now deed g.connection h.connection s.step).story;
}

pub step_undone : (now : ℕ) (deed : Deed) (c d : Connection) → Step now deed c d → IsNotDone c → IsNotDone d
step_undone now deed c d s = not_done_after c d s.told s.stays (λ at. waits_on now deed c.wait d.wait at s.steps)

pub heard_stays : AStepKeepsItsPromises → AConnectionKeepsItsEnd → (now : ℕ) (b : List ℕ) (confirming : Bool) (g h : Guest)
    → GuestHears now b confirming g h → Stays g h
heard_stays law ends now b confirming g h (hears is) = record {
  known = ap known_of_peer is.same;
  keeps = ends.steps now (heard b) g.connection h.connection is.step;
  story = hears_story g h b (heard_hears law now b g.connection h.connection is.step);
}
heard_stays law ends now b confirming g h (lost stores) =
    record { known = refl; keeps = still_keeps g.connection g.connection refl; story = λ e. e }

pub heard_undone : (now : ℕ) (b : List ℕ) (confirming : Bool) (g h : Guest) → GuestHears now b confirming g h → IsNotDone g.connection → IsNotDone h.connection
heard_undone now b confirming g h (hears is) = step_undone now (heard b) g.connection h.connection is.step
heard_undone now b confirming g h (lost stores) = λ was. was

pub unserved_stays : AConnectionKeepsItsEnd → (now error : ℕ) (g h : Guest) → GuestUnserved now error g h
    → Goes g.connection.conversation h.connection.conversation → Stays g h
unserved_stays ends now error g h is goes =
    record { known = ap known_of_peer is.same; keeps = ends.refused error now g.connection h.connection is.parts; story = goes_story g h goes }

pub acted_stays : AConnectionKeepsItsEnd → (now : ℕ) (g h : Guest) → GuestActs now g h → Goes g.connection.conversation h.connection.conversation → Stays g h
acted_stays ends now g h is goes =
    record { known = ap known_of_peer is.same; keeps = ends.acts now g.connection h.connection is.parts; story = goes_story g h goes }

pub acted_undone : (now : ℕ) (g h : Guest) → GuestActs now g h → may_go h.connection ≡ false → IsNotDone g.connection → IsNotDone h.connection
acted_undone now g h is left was =
    let k = acts_so now g.connection h.connection is.parts in
    not_done_act now g.connection h.connection (act_at g.connection.wait now) refl k.told k.closed k.wait left was

pub gave_stays : AConnectionGivesWhatItMade → AConnectionKeepsItsEnd → (now : ℕ) (r : Result (Option Outgoing) HostFault) (g h : Guest)
    → GuestGives now r g h → Stays g h
gave_stays law ends now r g h is = record {
  known = ap known_of_peer is.same;
  keeps = ends.gives now is.answer g.connection h.connection is.gave;
  story = goes_story g h (law now is.answer g.connection h.connection is.gave).goes;
}

pub gave_undone : (now : ℕ) (r : Result (Option Outgoing) HostFault) (g h : Guest) → GuestGives now r g h → IsNotDone g.connection → IsNotDone h.connection
gave_undone now r g h is =
    let k = given_so now is.answer g.connection h.connection is.gave in
    not_done_steps now g.connection h.connection k.0 k.1 is.gave.steps

-- ---- one that told something

later_by : AMessageIsHandedAsByAStep → AConnectionKeepsItsEnd → (now : ℕ) (g h : Guest) (o : Option Message)
    → waiting_message g.connection.conversation.side ≡ o → GuestTells now g h → Stays g h
later_by law ends now g h (Some m) waits t =
    let hands = t.handed (λ none. cc) in
    record {
      known = ap known_of_peer t.same;
      keeps = ends.hands now g.connection h.connection hands;
      story = from_story g h (λ s. with_handed g.connection.conversation.side s m) (handed_story law now g.connection h.connection m waits hands);
    }
later_by law ends now g h None waits t =
    let same = ap (λ (c : Connection). c.conversation) (t.closed waits) in
    record { known = ap known_of_peer t.same; keeps = still_keeps g.connection h.connection same; story = still_story g h same }

pub told_stays : AMessageIsHandedAsByAStep → AConnectionKeepsItsEnd → (now : ℕ) (g h : Guest) → GuestReports now g h → Stays g h
told_stays law ends now g h t = by (is_newly_open g) refl where
  by : (newly : Bool) → is_newly_open g ≡ newly → Stays g h
  by true is =
      let same = ap (λ (k : Guest). k.connection.conversation) (t.opened is) in
      record { known = ap known_of_peer (t.opened is); keeps = still_keeps g.connection h.connection same; story = still_story g h same }
  by false is = later_by law ends now g h (waiting_message g.connection.conversation.side) refl (t.later is)

has_why : (number tag : ℕ) (told : Bool) (why : Option Why) (e : Event) → event_by number tag None (if told then None else why) ≡ Some e → (told || is_some why) ≡ true
has_why number tag true why e some = refl
has_why number tag false None e some = absurd (cc)
has_why number tag false (Some w) e some = refl

undone_by : AMessageIsHandedAsByAStep → (now number : ℕ) (g h : Guest) (e : Event) (o : Option Message) → waiting_message g.connection.conversation.side ≡ o
    → later_event number g ≡ Some e → GuestTells now g h → may_go h.connection ≡ false → IsNotDone g.connection → IsNotDone h.connection
undone_by law now number g h e (Some m) waits some t left was =
    let hands = t.handed (λ none. cc) in
    let k = handing now g.connection h.connection hands in
    not_done_steps now g.connection h.connection k.told k.closed (handing_steps law now g.connection h.connection hands) was
undone_by law now number g h e None waits some t left was =
    let c = g.connection in
    let now_told : h.connection.told ≡ true = ap (λ (d : Connection). d.told) (t.closed waits) in
    let why : (c.told || is_some c.closed) ≡ true
    = has_why number g.tag c.told c.closed e (ap (λ (o : Option Message). event_by number g.tag o (if c.told then None else c.closed)) (sym waits) ∙ some) in
    not_done_told c h.connection (t.closed waits ∙ ap (λ (b : Bool). let d : Connection = record c { told = b } in d) (sym now_told)) (now_told ∙ sym why) left was

pub told_undone : AMessageIsHandedAsByAStep → (now number : ℕ) (g h : Guest) (e : Event) → event_for number g ≡ Some e → GuestReports now g h
    → may_go h.connection ≡ false → IsNotDone g.connection → IsNotDone h.connection
told_undone law now number g h e some t left was = by (is_newly_open g) refl where
  by : (newly : Bool) → is_newly_open g ≡ newly → IsNotDone h.connection
  by true is = subst IsNotDone (sym (ap (λ (k : Guest). k.connection) (t.opened is))) was
  by false is =
      let later : later_event number g ≡ Some e
      = ap (λ (newly : Bool). if newly then Some (Opened number g.tag) else later_event number g) (sym is) ∙ some in
      undone_by law now number g h e (waiting_message g.connection.conversation.side) refl later (t.later is) left was

-- ---- one that has a tag

pub tagged_stays : (tag : ℕ) (g h : Guest) → GuestTagged tag g h → Stays g h
tagged_stays tag g h is =
    let same = ap (λ (k : Guest). k.connection.conversation) is in
    record { known = ap known_of_peer is; keeps = still_keeps g.connection h.connection same; story = still_story g h same }

pub tagged_undone : (tag : ℕ) (g h : Guest) → GuestTagged tag g h → IsNotDone g.connection → IsNotDone h.connection
tagged_undone tag g h is = subst IsNotDone (sym (ap (λ (k : Guest). k.connection) is))

-- ---- in its place

pub is_there : (gs : Places) (n : ℕ) (old : Option Guest) (g : Guest) → n < length gs → old ≡ get_or gs n old → old ≡ Some g
    → slice_get gs n ≡ Some (Some g)
is_there gs n old g less read is = slice_get_read gs (length gs) n old refl less read ∙ ap Some is

pub stays_noted : (a : Plan) (gs hs : Places) (n : ℕ) (old : Option Guest) (g h : Guest) → IsAllNoted a gs → old ≡ Some g → Stays g h → n < length gs
    → old ≡ get_or gs n old → hs ≡ slice_set gs n (Some h) → IsNotedBut a hs n
stays_noted a gs hs n old g h all is stays less read items = kept_but a gs hs n old (Some h) all less read items (ap Some stays.known ∙ sym (ap known_in is))

pub stays_registered : (r : Register) (gs : Places) (n : ℕ) (old : Option Guest) (g h : Guest) → IsAllRegistered r gs → old ≡ Some g → Stays g h → n < length gs
    → old ≡ get_or gs n old → IsAllRegistered r (slice_set gs n (Some h))
stays_registered r gs n old g h all is stays less read =
    still_registered r gs n old g h all is stays.keeps stays.story less read

pub stays_undone : (gs : Places) (n : ℕ) (old : Option Guest) (g h : Guest) → HasNoneDone gs → old ≡ Some g → (IsNotDone g.connection → IsNotDone h.connection)
    → n < length gs → old ≡ get_or gs n old → HasNoneDone (slice_set gs n (Some h))
stays_undone gs n old g h all is undone less read = still_not_done gs n old (Some h) all (λ was. undone (subst IsNotDoneIn is was)) read less

-- nothing was done
pub back_registered : (r : Register) (gs : Places) (n : ℕ) (old v : Option Guest) → IsAllRegistered r gs → v ≡ old → old ≡ get_or gs n old
    → IsAllRegistered r (slice_set gs n v)
back_registered r gs n old v all same read = subst (λ (xs : Places). IsAllRegistered r xs) (sym (set_back gs n old v read same)) all

pub back_undone : (gs : Places) (n : ℕ) (old v : Option Guest) → HasNoneDone gs → v ≡ old → old ≡ get_or gs n old → HasNoneDone (slice_set gs n v)
back_undone gs n old v all same read = subst HasNoneDone (sym (set_back gs n old v read same)) all

pub put_registered : (r : Register) (gs : Places) (n : ℕ) (v : Option Guest) → IsAllRegistered r gs → v ≡ get_or gs n v → IsAllRegistered r (slice_set gs n v)
put_registered r gs n v all read = back_registered r gs n v v all refl read

pub put_undone : (gs : Places) (n : ℕ) (v : Option Guest) → HasNoneDone gs → v ≡ get_or gs n v → HasNoneDone (slice_set gs n v)
put_undone gs n v all read = back_undone gs n v v all refl read

-- where a new connection got a place, none that is done is in one
pub came_undone : (gs ks : Places) (x d : Plan) (n : ℕ) (g h : Guest) → HasNoneDone gs → g ≡ h
    → places_with ks d ≡ taken_by (vacated (places_with gs x) n) n g → n < length gs → IsNotDone h.connection → HasNoneDone ks
came_undone gs ks x d n g h all same is less new =
    came_not_done gs ks n g all (taken_apart gs ks x d n g is) (taken_there gs ks x d n g is less)
    (subst (λ (f : Guest). IsNotDone f.connection) (sym same) new)

-- where a connection that may go was forgotten, none that is done is left in a place
pub settled_undone : (gs ks : Places) (x d : Plan) (n : ℕ) (old : Option Guest) (g h : Guest) (done : Bool) → HasNoneDone gs → old ≡ Some g
    → (may_go h.connection ≡ false → IsNotDone g.connection → IsNotDone h.connection) → n < length gs → old ≡ get_or gs n old → done ≡ may_go h.connection
    → places_with ks d ≡ vacated_if done (places_with (slice_set gs n (Some h)) x) n → HasNoneDone ks
settled_undone gs ks x d n old g h false all is after less read done settled =
    subst HasNoneDone (sym (settled_kept (slice_set gs n (Some h)) ks x d n false settled refl)) (stays_undone gs n old g h all is (after (sym done)) less read)
settled_undone gs ks x d n old g h true all is after less read done settled = record { each = λ k f there. by k f there (same_or_other k n) } where
  mid : Places
  mid = slice_set gs n (Some h)

  size : n < length mid
  size = subst (λ (m : ℕ). n < m) (sym (length-set gs n (Some h))) less

  by : (k : ℕ) (f : Guest) → slice_get ks k ≡ Some (Some f) → (k ≡ n) ⊎ (k ≢ n) → IsNotDone f.connection
  by k f there (inl e) =
      let none : Some None ≡ Some (Some f) = sym (settled_gone mid ks x d n true settled size refl) ∙ subst (λ (m : ℕ). slice_get ks m ≡ Some (Some f)) e there in
      absurd (cc)
  by k f there (inr other) =
      all.each k f (sym (place_other gs n k (Some h) other) ∙ sym ((settled_apart mid ks x d n true settled).others k other) ∙ there)

pub went_set : (t u : ℕ) (deed : Deed) (gs : Places) (n : ℕ) (old : Option Guest) (g h : Guest) → t ≡ u → n < length gs → old ≡ get_or gs n old → old ≡ Some g
    → GuestStep t deed g h → Went u deed (slice_get gs n) (slice_get (slice_set gs n (Some h)) n)
went_set t u deed gs n old g h same less read is s =
    let there : slice_get gs n ≡ Some (Some g) = is_there gs n old g less read is in
    subst (λ (x : ℕ). Went x deed (slice_get gs n) (slice_get (slice_set gs n (Some h)) n)) same
    (subst (λ (p : Option (Option Guest)). Went t deed p (slice_get (slice_set gs n (Some h)) n)) (sym there)
    (subst (λ (p : Option (Option Guest)). Went t deed (Some (Some g)) p) (sym (place_set gs n (Some h) less)) s))

-- ---- as goals have them

pub not_none : (gs : Places) (n : ℕ) (g : Guest) → slice_get gs n ≡ Some (Some g) → has_guest (slice_get gs n) ≡ true
not_none gs n g there = ap has_guest there

-- who is in a place
pub who : (place : Option (Option Guest)) → has_guest place ≡ true → (g : Guest) × (place ≡ Some (Some g))
who None has = absurd (cc)
who (Some None) has = absurd (cc)
who (Some (Some g)) has = (g, refl)

-- a connection is in the place that was read, so a function that was called of it finds one
pub is_found : (gs : Places) (n : ℕ) (old : Option Guest) (g : Guest) → n < length gs → old ≡ get_or gs n old → old ≡ Some g → has_guest (slice_get gs n) ≡ false → ⊥
is_found gs n old g less read is none = let some = not_none gs n g (is_there gs n old g less read is) in absurd (cc)

pub one_guest : (gs : Places) (n : ℕ) (g f : Guest) → slice_get gs n ≡ Some (Some g) → slice_get gs n ≡ Some (Some f) → g ≡ f
one_guest gs n g f here there = cc

-- the connection in the place that was read is the one that has the number
pub is_the_one : (gs : Places) (n : ℕ) (old : Option Guest) (g f : Guest) → n < length gs → old ≡ get_or gs n old → old ≡ Some g → slice_get gs n ≡ Some (Some f) → g ≡ f
is_the_one gs n old g f less read is there = one_guest gs n g f (is_there gs n old g less read is) there

-- one deed was done at the connection with a number, and nothing else
pub turned : (now number t : ℕ) (deed : Deed) (old new : Host) (place : Option Guest) (g h : Guest) → t ≡ time_at old.clock now → number < length old.guests.items → place ≡ get_or old.guests.items number place
    → place ≡ Some g → GuestStep t deed g h → new.guests.items ≡ slice_set old.guests.items number (Some h)
    → ((p : Option Guest) → slice_get new.guests.items number ≡ Some p → new.agenda ≡ noted old.agenda number (facts_in p))
    → whole_of new ≡ record (whole_of old) { places = places_of new } → new.clock ≡ told_at old.clock now → Turn now number deed (Ok tt) old new
turned now number t deed old new place g h told less read is step there marked rest clock = record {
  went = subst (λ (gs : Places). Went (time_at old.clock now) deed (slice_get old.guests.items number) (slice_get gs number)) (sym there)
      (went_set t (time_at old.clock now) deed old.guests.items number place g h told less read is step);
  apart = set_apart old.guests.items new.guests.items number (Some h) there;
  noted = marked;
  unchanged = tt;
  unnoted = tt;
  rest = rest;
  clock = clock;
}
