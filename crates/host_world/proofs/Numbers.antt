-- What happens at each number where places change.
use Rattle.std.proofs.Common.{◌≡◌, ◌≢◌, ◌∙◌, ◌⊎◌, inl, inr, ap, refl, sym, subst, ℕ, ◌+◌, Bool, true, false, List, [], ◌∷◌, ◌++◌, length, Option, Some, None, arith}
use Rattle.std.specs.Prelude.{not, ◌&&◌, if◌then◌else◌, slice_get, slice_set}
use Rattle.std.specs.Option.{is_some, is_none, option_to_list}
use Rattle.std.proofs.lemmas.Option.{slice_get_within}
use Rattle.std.proofs.lemmas.Bool.{and_parts}
use Rattle.courier_sessions.proofs.Done.{none_there}
use Rattle.courier_messages.specs.Conversation.{conversation}
use Rattle.courier_sessions.specs.Talks.{count_if}
use Rattle.courier_sessions.specs.declared.program.Program.{Program}
use Rattle.xns_idp.specs.declared.address.Address.{Address}
use Rattle.xns_spp.specs.Held.{Held}
use Rattle.xns_spp.specs.State.{State}
use Rattle.xns_host.specs.Hosting.{IsConnected, IsAnswering, IsPlaceForNew, free_place, of_closed, of_stranger, lingers_no_more, may_go, tells as has_news}
use Rattle.xns_host.specs.Knowing.{id_of}
pub use Rattle.xns_agenda.proofs.Putting.{place_other as beside, place_set as at_place, same_or_other}
use Rattle.xns_agenda.specs.Waiting.{due_time}
use Rattle.xns_host.specs.Places.{AsksEvent, AsksInVain, NextEvent, Places, became, event_passed, seated, vacated_if}
use Rattle.xns_host.specs.Places as places
use Rattle.xns_connection.specs.Ends.{AConnectionKeepsItsEnd, opener_by, peer_that_opened}
use Rattle.xns_connection.specs.Story.{SideHas, new_story}
use Rattle.xns_host.specs.Identifiers.{Ids}
use Rattle.xns_host.specs.declared.settings.Settings.{Settings}
use Rattle.xns_connection.specs.declared.connection.Connection.{Connection}
use Rattle.xns_host.specs.declared.event.Event.{Event}
use Rattle.xns_host.specs.declared.guest.Guest.{Guest}
use Rattle.xns_connection.specs.declared.side.Side.{Side}
use Rattle.xns_connection.specs.declared.side.Side.TheVariants.{Calls, Answers}
use Rattle.xns_connection.specs.declared.why.Why.{Why}
use Rattle.host_world.specs.Dialogue.{Dialogue, new_dialogue, View, free, held, MayGo, Happening, connects, connecting, freeing, goes, opening, opens}
use Rattle.host_world.specs.Seen.{arriving, closed_since, guest_in, happened_at, news_of, number_of, said_at}
use Rattle.host_world.proofs.Dialogues.{course_on}
use Rattle.host_world.proofs.Happens.{arriving_ours, arriving_theirs, between_other, between_same, closed_between, leaving_told, nothing_between, said_here, said_there}
use Rattle.host_world.proofs.Reporting.{Reports, event_number, tells_it}
use Rattle.host_world.proofs.Shown.{Alone, Passes, Shows, ShowsIn, first, stays}
use Rattle.host_world.proofs.Sides.{Has}

-- ---- a place that changed

-- where a place changed in some way, and what stays changes in that way too, each place did
pub at_each_place : (P : (old new : Option (Option Guest)) → Type 0) → ((place : Option (Option Guest)) → P place place) → (gs : List (Option Guest)) (number : ℕ) (old new : Option Guest)
    → slice_get gs number ≡ Some old → P (Some old) (Some new) → (k : ℕ) → P (slice_get gs k) (slice_get (slice_set gs number new) k)
at_each_place P stays gs number old new is one k = by (same_or_other k number) where
  by : (k ≡ number) ⊎ (k ≢ number) → P (slice_get gs k) (slice_get (slice_set gs number new) k)
  by (inl same) =
      subst (λ (n : ℕ). P (slice_get gs n) (slice_get (slice_set gs number new) n)) (sym same)
      (subst (λ (o : Option (Option Guest)). P o (slice_get (slice_set gs number new) number)) (sym is)
      (subst (P (Some old)) (sym (at_place gs number new (slice_get_within gs number old is))) one))
  by (inr other) = subst (P (slice_get gs k)) (sym (beside gs number k new other)) (stays (slice_get gs k))

-- ---- one behind the other

pub passes_then : (xs ys : List Happening) (v : View) (a b : Option (Option Guest)) → Passes xs v a → ((w : View) → ShowsIn w a → Passes ys w b) → Passes (xs ++ ys) v b
passes_then xs ys v a b p next =
    let q = next p.view p.shows in
    record { view = q.view; shows = q.shows; course = course_on v xs p.view ys q.view p.course q.course }

-- ---- one place

-- where this is said, what happens leads from any view of the old place to one of the new place
abbrev pub LeadsAt : (said : List Happening) (old new : Option (Option Guest)) → Type 0
LeadsAt said old new = (v : View) → ShowsIn v old → Passes (happened_at said old new) v new

pub still_there : (place : Option (Option Guest)) → LeadsAt [] place place
still_there place v shows = subst (λ (xs : List Happening). Passes xs v place) (sym (nothing_between (guest_in place))) (stays v place shows)

-- a connection in its place became another, or left
pub of_guest : (g : Guest) (said : List Happening) (place : Option (Option Guest)) → ((d : Dialogue) → Shows d g → Passes (happened_at said (Some (Some g)) place) (held d) place)
    → LeadsAt said (Some (Some g)) place
of_guest g said place p free shows = absurd shows
of_guest g said place p (held d) shows = p d shows

pub same_there : (g h : Guest) (said : List Happening) → id_of h ≡ id_of g → ((d : Dialogue) → Shows d g → Passes (said ++ closed_between g h) (held d) (Some (Some h)))
    → LeadsAt said (Some (Some g)) (Some (Some h))
same_there g h said same each =
    of_guest g said (Some (Some h)) (λ d s. subst (λ (xs : List Happening). Passes xs (held d) (Some (Some h))) (sym (between_same said g h same)) (each d s))

-- ---- all places

-- at each number, where this is said there
abbrev pub Leads : (said : ℕ → List Happening) (old new : List (Option Guest)) → Type 0
Leads said old new = (k : ℕ) → LeadsAt (said k) (slice_get old k) (slice_get new k)

pub all_still : (old new : List (Option Guest)) → ((k : ℕ) → slice_get new k ≡ slice_get old k) → Leads (λ k. []) old new
all_still old new same k = subst (LeadsAt [] (slice_get old k)) (sym (same k)) (still_there (slice_get old k))

pub still_if : (old new : List (Option Guest)) → new ≡ old → Leads (λ k. []) old new
still_if old new same = all_still old new (λ k. ap (λ (gs : List (Option Guest)). slice_get gs k) same)

-- only the place with this number changed, and nothing was said elsewhere
pub one_changed : (said : ℕ → List Happening) (old new : List (Option Guest)) (number : ℕ) → ((k : ℕ) → k ≢ number → said k ≡ []) → ((k : ℕ) → k ≢ number → slice_get new k ≡ slice_get old k)
    → LeadsAt (said number) (slice_get old number) (slice_get new number) → Leads said old new
one_changed said old new number unsaid others here k = by (same_or_other k number) where
  by : (k ≡ number) ⊎ (k ≢ number) → LeadsAt (said k) (slice_get old k) (slice_get new k)
  by (inl is) = subst (λ (n : ℕ). LeadsAt (said n) (slice_get old n) (slice_get new n)) (sym is) here
  by (inr other) =
      subst (λ (xs : List Happening). LeadsAt xs (slice_get old k) (slice_get new k)) (sym (unsaid k other))
      (subst (LeadsAt [] (slice_get old k)) (sym (others k other)) (still_there (slice_get old k)))

-- what was said at one number leads on from its place, where each other place is as it was
pub one_said : (number : ℕ) (x : Happening) (old new : List (Option Guest)) → ((k : ℕ) → k ≢ number → slice_get new k ≡ slice_get old k)
    → LeadsAt (x ∷ []) (slice_get old number) (slice_get new number) → Leads (said_at number x) old new
one_said number x old new others here =
    one_changed (said_at number x) old new number (λ k other. said_there number x k other) others
    (subst (λ (xs : List Happening). LeadsAt xs (slice_get old number) (slice_get new number)) (sym (said_here number x)) here)

-- ---- a number that becomes free

pub may_be_told : (c : Connection) → may_go c ≡ true → c.told ≡ true
may_be_told c e = (and_parts c.told (lingers_no_more c) (and_parts (is_some c.closed) (c.told && lingers_no_more c) e).1).0

pub goes_from : (v : View) (g : Guest) → g.connection.told ≡ true → ShowsIn v (Some (Some g)) → Passes (goes ∷ []) v (Some None)
goes_from free g told shows = absurd shows
goes_from (held d) g told shows = first (held d) free goes [] (Some None) (freeing d (inl (sym shows.told ∙ told))) (stays free (Some None) tt)

-- ---- what the program is told

-- one that was told of its close left
tells_and_goes : (d : Dialogue) (g h : Guest) (event : Event) → Reports (news_of event) d g h → h.connection.told ≡ true → Passes (happened_at (news_of event ∷ []) (Some (Some g)) (Some None)) (held d) (Some None)
tells_and_goes d g h event r told =
    subst (λ (xs : List Happening). Passes (news_of event ∷ xs) (held d) (Some None)) (sym (leaving_told event))
    (subst (λ (xs : List Happening). Passes (news_of event ∷ (xs ++ goes ∷ [])) (held d) (Some None)) (r.over told)
    (passes_then (news_of event ∷ closed_between g h) (goes ∷ []) (held d) (Some (Some h)) (Some None) r.passes (λ w shows. goes_from w h told shows)))

-- the guest at this number told an event, and became another, which is forgotten where it may be
became_so : (p : Places) (number : ℕ) (g h : Guest) (event : Event) → slice_get p.guests number ≡ Some (Some g) → ((d : Dialogue) → Shows d g → Reports (news_of event) d g h)
    → Leads (said_at number (news_of event)) p.guests (became p number h).guests
became_so p number g h event was each = by (may_go h.connection) refl where
  there : slice_get (seated p number h).guests number ≡ Some (Some h)
  there = at_place p.guests number (Some h) (slice_get_within p.guests number (Some g) was)

  gone : slice_get (slice_set (seated p number h).guests number None) number ≡ Some None
  gone = at_place (seated p number h).guests number None (slice_get_within (seated p number h).guests number (Some h) there)

  told : (new : List (Option Guest)) → ((k : ℕ) → k ≢ number → slice_get new k ≡ slice_get p.guests k) → (place : Option (Option Guest)) → slice_get new number ≡ place
      → LeadsAt (news_of event ∷ []) (Some (Some g)) place → Leads (said_at number (news_of event)) p.guests new
  told new others place is leads =
      one_said number (news_of event) p.guests new others
      (subst (λ (o : Option (Option Guest)). LeadsAt (news_of event ∷ []) o (slice_get new number)) (sym was) (subst (LeadsAt (news_of event ∷ []) (Some (Some g))) (sym is) leads))

  by : (b : Bool) → may_go h.connection ≡ b → Leads (said_at number (news_of event)) p.guests (vacated_if b (seated p number h) number).guests
  by false is =
      told (seated p number h).guests (λ k other. beside p.guests number k (Some h) other) (Some (Some h)) there
      (of_guest g (news_of event ∷ []) (Some (Some h)) (λ d s.
      let r = each d s in
      subst (λ (xs : List Happening). Passes xs (held d) (Some (Some h))) (sym (between_same (news_of event ∷ []) g h r.id)) r.passes))
  by true is =
      told (slice_set (seated p number h).guests number None) (λ k other. beside (seated p number h).guests number k None other ∙ beside p.guests number k (Some h) other) (Some None) gone
      (of_guest g (news_of event ∷ []) (Some None) (λ d s. tells_and_goes d g h event (each d s) (may_be_told h.connection is)))

pub asked_none : (now number : ℕ) (p : Places) {r : Places} → AsksEvent now number p None r → r.guests ≡ p.guests
asked_none now number p (places.quiet place at none) = refl

pub in_vain : (now : ℕ) (p : Places) {r : Places} → AsksInVain now p r → r.guests ≡ p.guests
in_vain now p AsksInVain.nobody = refl
in_vain now p (AsksInVain.another {q = q} {r = r} number before first asked) = asked_none now number q asked ∙ in_vain now p before

asked_some : AConnectionKeepsItsEnd → (now number : ℕ) (p : Places) {r : Places} (event : Event) → AsksEvent now number p (Some event) r → Leads (said_at (number_of event) (news_of event)) p.guests r.guests
asked_some ends now number p event (places.tells g h e was is t) =
    subst (λ (n : ℕ). Leads (said_at n (news_of event)) p.guests (became (event_passed p number) number h).guests) (sym (event_number number g event is))
    (became_so (event_passed p number) number g h event was (λ d s. tells_it ends now number d g h event s t is))

pub next_event : AConnectionKeepsItsEnd → (now : ℕ) (p : Places) {r : Places} (event : Event) → NextEvent now p (Some event) r → Leads (said_at (number_of event) (news_of event)) p.guests r.guests
next_event ends now p event (places.told {q = q} {r = r} number before first asked) =
    subst (λ (gs : List (Option Guest)). Leads (said_at (number_of event) (news_of event)) gs r.guests) (in_vain now p before) (asked_some ends now number q event asked)

pub no_event : (now : ℕ) (p : Places) {r : Places} → NextEvent now p None r → r.guests ≡ p.guests
no_event now p (places.nothing before none) = in_vain now p before

-- ---- a new connection

nothing_waits : (n : ℕ) (b : Bool) → 0 ≡ n + count_if b → (n ≡ 0) × (b ≡ false)
nothing_waits n true e = absurd (omega (arith, e))
nothing_waits n false e = (omega (arith, e), refl)

no_message : {X : Type 0} (o : Option X) → length (option_to_list o) ≡ 0 → o ≡ None
no_message None e = refl
no_message (Some x) e = absurd (omega (arith, e))

new_calls : (s : State) (side : Side) → SideHas (new_story None s) side → Has true [] [] side
new_calls s (Answers a) has = let none = has.table in absurd (cc)
new_calls s (Calls t) has =
    let k = nothing_waits (length (conversation [])) t.waiting has.done.count in
    let none = no_message t.outcome (ap length has.done.messages ∙ k.0) in
    record {
      number = has.done.transaction;
      waits = λ z. let waits_not = k.1 in absurd (cc);
      has = λ m z. absurd (cc);
      even = λ y z. refl;
    }

new_answers : (programs : List Program) (s : State) (side : Side) → SideHas (new_story (Some programs) s) side → Has false [] [] side
new_answers programs s (Calls t) has = let some = has.table in absurd (cc)
new_answers programs s (Answers a) has =
    let none = no_message a.asked (sym (ap length has.done.numbers)) in
    record { asked = λ k z. absurd (cc); even = λ z. refl; single = λ m z. none }

pub connected_shows : {guests : List (Option Guest)} {number : ℕ} {settings : Settings} {ids : Ids} {own to : Address} {way now : ℕ}
    → (c : IsConnected guests number settings ids own to way now) → Shows (new_dialogue true) c.guest
connected_shows c = record {
  state = _;
  stands = c.tells.stands;
  side = new_calls _ c.guest.connection.conversation.side c.tells.has;
  ours = ap is_none c.opener;
  asked = λ z. absurd (cc);
  closed = c.made.made.unclosed;
  told = c.made.made.untold;
  over = λ z. absurd (cc);
  unheard = λ z y. refl;
  newly = λ z. (refl, refl, refl, refl);
}

pub opened_shows : {settings : Settings} {ids : Ids} {own opener : Address} {id way now : ℕ} {programs : List Program} (g : Guest)
    → IsAnswering settings ids own opener id way now programs g → Shows (new_dialogue false) g
opened_shows {programs = programs} g c = record {
  state = _;
  stands = c.tells.stands;
  side = new_answers programs _ g.connection.conversation.side c.tells.has;
  ours = ap (λ (e : Held). is_none (opener_by e.ends.role e.ends)) c.tells.stands.holds;
  asked = λ z. absurd (cc);
  closed = c.made.made.unclosed;
  told = c.made.made.untold;
  over = λ z. absurd (cc);
  unheard = λ z y. refl;
  newly = λ z. let off = c.opening in absurd (cc);
}

pub some_is_not : {X : Type 0} (o : Option X) → is_none o ≡ false → is_some o ≡ true
some_is_not None e = absurd (cc)
some_is_not (Some x) e = refl

-- a number that is free gets a connection of ours, or one that a peer opened, which has gone on since
pub connects_there : {guests : List (Option Guest)} {number : ℕ} {settings : Settings} {ids : Ids} {own to : Address} {way now : ℕ}
    → (c : IsConnected guests number settings ids own to way now) → Passes (connects ∷ arriving c.guest) free (Some (Some c.guest))
connects_there c =
    let d = new_dialogue true in
    let place : Option (Option Guest) = Some (Some c.guest) in
    subst (λ (xs : List Happening). Passes (connects ∷ xs) free place) (sym (arriving_ours c.guest c.opener c.made.made.unclosed))
    (first free (held d) connects [] place connecting (stays (held d) place (connected_shows c)))

pub opens_there : (g h : Guest) → Shows (new_dialogue false) g → Alone (new_dialogue false) g h → Passes (arriving h) free (Some (Some h))
opens_there g h s alone =
    let theirs = some_is_not (peer_that_opened h.connection) (ap is_none alone.continues.opener ∙ s.ours) in
    subst (λ (xs : List Happening). Passes xs free (Some (Some h))) (sym (arriving_theirs h theirs))
    (first free (held (new_dialogue false)) opens (closed_since None h.connection.closed) (Some (Some h)) opening
    (subst (λ (o : Option Why). Passes (closed_since o h.connection.closed) (held (new_dialogue false)) (Some (Some h))) s.closed alone.passes))

-- ---- its place

pub since_told : (a b : Bool) (o : Option ℕ) (t : ℕ) → (if a && b then o else None) ≡ Some t → b ≡ true
since_told true true o t e = refl
since_told true false o t e = absurd (cc)
since_told false b o t e = absurd (cc)

-- what is so of one whose peer is silent
pub since_stranger : (a b c d e : Bool) (t n : ℕ) → (if a && (not b && (not c && (not d && not e))) then Some n else None) ≡ Some t → (a ≡ true) × (c ≡ false) × (d ≡ false)
since_stranger true false false false false t n e = (refl, refl, refl)
since_stranger false b c d e t n x = absurd (cc)
since_stranger true true c d e t n x = absurd (cc)
since_stranger true false true d e t n x = absurd (cc)
since_stranger true false false true e t n x = absurd (cc)
since_stranger true false false false true t n x = absurd (cc)

some_is : {X : Type 0} (o : Option X) → is_some o ≡ true → is_none o ≡ false
some_is None e = absurd (cc)
some_is (Some x) e = refl

-- the connection in a place gives way to one of another identifier
gives_way : (g new : Guest) (said : List Happening) → id_of new ≢ id_of g → ((d : Dialogue) → Shows d g → MayGo d) → Passes (said ++ arriving new) free (Some (Some new))
    → LeadsAt said (Some (Some g)) (Some (Some new))
gives_way g new said other may gets =
    of_guest g said (Some (Some new)) (λ d s. subst (λ (xs : List Happening). Passes xs (held d) (Some (Some new))) (sym (between_other said g new other))
    (first (held d) free goes (said ++ arriving new) (Some (Some new)) (freeing d (may d s)) gets))

-- a new connection in a place that is free or gives way
pub taking : (gs : List (Option Guest)) {n : ℕ} (said : List Happening) (new : Guest) → IsPlaceForNew gs n → ((k : ℕ) (g : Guest) → slice_get gs k ≡ Some (Some g) → id_of new ≢ id_of g)
    → Passes (said ++ arriving new) free (Some (Some new)) → LeadsAt said (slice_get gs n) (Some (Some new))
taking gs said new (free_place k at) other gets = subst (λ (o : Option (Option Guest)). LeadsAt said o (Some (Some new))) (sym at) by where
  by : LeadsAt said (Some None) (Some (Some new))
  by free shows = gets
  by (held e) shows = absurd shows
taking gs said new (of_closed k t g full at since first) other gets =
    subst (λ (o : Option (Option Guest)). LeadsAt said o (Some (Some new))) (sym at)
    (gives_way g new said (other k g at) (λ d s. inl (sym s.told ∙ since_told (is_some g.connection.closed) g.connection.told (due_time g.connection.wait.due) t since)) gets)
taking gs said new (of_stranger k t g full none at since first) other gets =
    let x = since_stranger (is_some (peer_that_opened g.connection)) g.confirmed g.heard_of (is_some g.connection.closed) (has_news g.connection) t g.connection.wait.heard_at since in
    subst (λ (o : Option (Option Guest)). LeadsAt said o (Some (Some new))) (sym at)
    (gives_way g new said (other k g at) (λ d s.
    let theirs : d.ours ≡ false = sym s.ours ∙ some_is (peer_that_opened g.connection) x.0 in
    inr (theirs, s.unheard x.1 theirs, sym s.closed ∙ none_there g.connection.closed x.2)) gets)
