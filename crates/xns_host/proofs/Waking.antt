-- What a host's agenda says, said of its connections: when it wants to be asked, and who gives way.
use Rattle.std.proofs.Common.{◌≡◌, ◌≢◌, ◌∙◌, ◌⊎◌, inl, inr, ap, refl, subst, sym, ℕ, ◌<◌, ◌≤◌, Bool, true, false, List, [], length, get_or, Option, Some, None, slice_get, arith}
use Rattle.std.specs.Prelude.{position}
use Rattle.std.proofs.lemmas.Option.{slice_get-get_or, slice_get_within}
use Rattle.xns_agenda.specs.Agenda.{Plan, IsFor, IsWake, IsWantedAt, asked_at, packet_waits, event_waits, is_due, GivesWay, longest_closed, longest_silent}
use Rattle.xns_agenda.specs.Agenda.{GetsNumber, free_number, given_way, HasNoNumber}
use Rattle.xns_host.specs.Hosting.{IsAllNoted, IsNotedIn, facts_in, forgotten_at, stranger_heard_at, Wants, for_stray, for_packet, for_event, for_due, IsFirstWant, MayTell}
use Rattle.xns_host.specs.Events.{event_in}
use Rattle.xns_host.specs.Hosting.{IsFull, HasNoneSooner, IsPlaceForNew, free_place, of_closed, of_stranger, HasNoRoom}
use Rattle.xns_host.specs.Identifiers.{is_free}
use Rattle.xns_agenda.specs.Times.{IsBy, HasEarliest}
use Rattle.xns_agenda.specs.Turns.{HasNoTurn, has_turn}
use Rattle.xns_agenda.specs.Waiting.{due_time}
use Rattle.xns_agenda.specs.declared.facts.Facts.{Facts}
use Rattle.xns_host.specs.declared.guest.Guest.{Guest}
use Rattle.xns_host.specs.declared.outgoing.Outgoing.{Outgoing}
use Rattle.xns_agenda.proofs.Putting.{within}
use Rattle.xns_host.proofs.Ordered.{place_within}

abbrev Places : Type 0
Places = List (Option Guest)

-- a place with its connection
record HasPlace (gs : Places) (k : ℕ) : Type 0 where
  place : Option Guest
  there : slice_get gs k ≡ Some place

has_place : (gs : Places) (k : ℕ) → k < length gs → HasPlace gs k
has_place gs k less = record { place = get_or gs k None; there = slice_get-get_or gs k None less }

-- a connection that has such a time
pub record HasTime (gs : Places) (k t : ℕ) (since : Guest → Option ℕ) : Type 0 where
  pub guest : Guest
  pub there : slice_get gs k ≡ Some (Some guest)
  pub is : since guest ≡ Some t

time_in : (gs : Places) (k t : ℕ) (times : List (Option ℕ)) (p : Option Guest) (fact : Facts → Option ℕ) → fact (facts_in None) ≡ None
    → slice_get gs k ≡ Some p → slice_get times k ≡ Some (fact (facts_in p)) → slice_get times k ≡ Some (Some t) → HasTime gs k t (λ g. fact (facts_in (Some g)))
time_in gs k t times None fact nothing there noted is = absurd (cc)
time_in gs k t times (Some g) fact nothing there noted is = record { guest = g; there = there; is = cc }

abbrev Sized : Plan → Places → Type 0
Sized a gs = length gs ≡ length a.dues

pub has_time : (a : Plan) (gs : Places) (k t : ℕ) (times : List (Option ℕ)) (fact : Facts → Option ℕ) → length times ≡ length gs → fact (facts_in None) ≡ None
    → ((p : Option Guest) → slice_get gs k ≡ Some p → slice_get times k ≡ Some (fact (facts_in p))) → slice_get times k ≡ Some (Some t)
    → HasTime gs k t (λ g. fact (facts_in (Some g)))
has_time a gs k t times fact sized nothing noted is =
    let here : HasPlace gs k = has_place gs k (omega (arith, slice_get_within times k (Some t) is, sized)) in
    time_in gs k t times here.place fact nothing here.there (noted here.place here.there) is

-- ---- when a host wants to be asked

at_once : (time : Option ℕ) → time ≡ Some 0 → IsBy time 0
at_once time is = let least : 0 ≤ 0 = omega arith in subst (λ (o : Option ℕ). IsBy o 0) (sym is) least

abbrev Wake : Plan → Option ℕ → Type 0
Wake a time = IsWake a.packets a.events a.dues a.short time

told_in : (a : Plan) (k : ℕ) (p : Option Guest) (b : Bool) → IsNotedIn a k p → event_in k p ≢ None → has_turn a.events k ≡ b → has_turn a.events k ≡ true
told_in a k p true noted tells is = is
told_in a k p false noted tells is = absurd (tells (noted.event is))

least_by : {t : ℕ} (a : Plan) (gs : Places) (strays : List Outgoing) (time : Option ℕ) → IsAllNoted a gs → strays ≡ []
    → Wake a time → Wants strays gs a.short t → IsBy time t
least_by a gs strays time all empty wake (for_stray some) = absurd (some empty)
least_by a gs strays time all empty wake (for_packet k g there fresh) =
    wake.packet k ((all.each k (Some g) there).facts.packet ∙ fresh)
least_by a gs strays time all empty wake (for_event k g there tells) =
    at_once time (wake.event k (told_in a k (Some g) (has_turn a.events k) (all.each k (Some g) there) tells refl))
least_by a gs strays time all empty wake (for_due k t g there is) =
    wake.due.least k t ((all.each k (Some g) there).facts.due ∙ ap Some is)

abbrev May : List Outgoing → Places → Option ℕ → ℕ → Type 0
May strays gs short t = Wants strays gs short t ⊎ ((t ≡ 0) × MayTell gs)

packet_in : (a : Plan) (gs : Places) (strays : List Outgoing) (k : ℕ) (p : Option Guest) → IsNotedIn a k p → slice_get gs k ≡ Some p
    → has_turn a.packets k ≡ true → Wants strays gs a.short (asked_at a.short)
packet_in a gs strays k None noted there has = let no : has_turn a.packets k ≡ false = noted.facts.packet in absurd (cc)
packet_in a gs strays k (Some g) noted there has = for_packet k g there (sym noted.facts.packet ∙ has)

news_in : (a : Plan) (gs : Places) (k : ℕ) (p : Option Guest) → IsNotedIn a k p → slice_get gs k ≡ Some p → has_turn a.events k ≡ true → MayTell gs
news_in a gs k None noted there has = let no = noted.news has in absurd (cc)
news_in a gs k (Some g) noted there has = record { number = k; there = record { guest = g; there = there; is = noted.news has } }

wanted_by : {t : ℕ} (a : Plan) (gs : Places) (strays : List Outgoing) → IsAllNoted a gs → IsFor a (length a.dues) → Sized a gs
    → IsWantedAt a.packets a.events a.dues a.short t → May strays gs a.short t
wanted_by a gs strays all for_most sized (packet_waits k has) =
    let here : HasPlace gs k = has_place gs k (omega (arith, within a.packets.tickets k has, for_most.packets, sized)) in
    inl (packet_in a gs strays k here.place (all.each k here.place here.there) here.there has)
wanted_by a gs strays all for_most sized (event_waits k has) =
    let here : HasPlace gs k = has_place gs k (omega (arith, within a.events.tickets k has, for_most.events, sized)) in
    inr (refl, news_in a gs k here.place (all.each k here.place here.there) here.there has)
wanted_by a gs strays all for_most sized (is_due k t is) =
    let here : HasTime gs k t (λ g. due_time g.connection.wait.due)
    = has_time a gs k t a.dues (λ f. f.due) (sym sized) refl (λ p there. (all.each k p there).facts.due) is in
    inl (for_due k t here.guest here.there here.is)

pub waking : (a : Plan) (gs : Places) (strays : List Outgoing) (time : Option ℕ) → IsAllNoted a gs → IsFor a (length a.dues) → Sized a gs → strays ≡ []
    → Wake a time → IsFirstWant strays gs a.short time
waking a gs strays time all for_most sized empty wake = record {
  least = λ t w. least_by a gs strays time all empty wake w;
  wanted = λ t is. wanted_by a gs strays all for_most sized (wake.wanted t is);
}

pub stray_first : (gs : Places) (strays : List Outgoing) (short : Option ℕ) → strays ≢ [] → IsFirstWant strays gs short (Some 0)
stray_first gs strays short some = record {
  least = λ t w. let least : 0 ≤ t = omega arith in least;
  wanted = λ t is. let zero_is : 0 ≡ t = cc in subst (λ (n : ℕ). May strays gs short n) zero_is (inl (for_stray some));
}

-- ---- who gives way

full : (a : Plan) (gs : Places) → IsAllNoted a gs → HasNoTurn a.free → IsFull gs
full a gs all none = λ k there. let no = none k in let free = (all.each k None there).free in absurd (cc)

none_sooner : (gs : Places) (times : List (Option ℕ)) (since : Guest → Option ℕ) (first : Option ℕ)
    → ((k : ℕ) (g : Guest) → slice_get gs k ≡ Some (Some g) → slice_get times k ≡ Some (since g)) → HasEarliest times first → HasNoneSooner since gs first
none_sooner gs times since first noted earliest = λ k t g there is. earliest.least k t (noted k g there ∙ ap Some is)

none_closed : (a : Plan) (gs : Places) (first : Option ℕ) → IsAllNoted a gs → HasEarliest a.closed first
    → HasNoneSooner (λ h. forgotten_at h.connection) gs first
none_closed a gs first all earliest =
    none_sooner gs a.closed (λ h. forgotten_at h.connection) first (λ k g there. (all.each k (Some g) there).facts.closed) earliest

none_strange : (a : Plan) (gs : Places) (first : Option ℕ) → IsAllNoted a gs → HasEarliest a.strangers first → HasNoneSooner stranger_heard_at gs first
none_strange a gs first all earliest = none_sooner gs a.strangers stranger_heard_at first (λ k g there. (all.each k (Some g) there).facts.stranger) earliest

free_in : (a : Plan) (gs : Places) (k : ℕ) (p : Option Guest) → IsNotedIn a k p → slice_get gs k ≡ Some p → has_turn a.free k ≡ true → IsPlaceForNew gs k
free_in a gs k None noted there has = free_place k there
free_in a gs k (Some g) noted there has = let no : has_turn a.free k ≡ false = noted.free in absurd (cc)

way_in : {k : ℕ} (a : Plan) (gs : Places) → IsAllNoted a gs → IsFor a (length a.dues) → Sized a gs → HasNoTurn a.free
    → GivesWay a.closed a.strangers k → IsPlaceForNew gs k
way_in a gs all for_most sized none (longest_closed k t e) =
    let here : HasTime gs k t (λ g. forgotten_at g.connection)
    = has_time a gs k t a.closed (λ f. f.forgotten_at) (for_most.closed ∙ sym sized) refl (λ p there. (all.each k p there).facts.closed) e.there in
    of_closed k t here.guest (full a gs all none) here.there here.is (none_closed a gs (Some t) all e.least)
way_in a gs all for_most sized none (longest_silent k t nobody_closed e) =
    let here : HasTime gs k t stranger_heard_at
    = has_time a gs k t a.strangers (λ f. f.stranger_heard_at) (for_most.strangers ∙ sym sized) refl (λ p there. (all.each k p there).facts.stranger) e.there in
    of_stranger k t here.guest (full a gs all none) (none_closed a gs None all nobody_closed) here.there here.is (none_strange a gs (Some t) all e.least)

pub gets_place : {k : ℕ} (a : Plan) (gs : Places) → IsAllNoted a gs → IsFor a (length a.dues) → Sized a gs → GetsNumber a.free a.closed a.strangers k → IsPlaceForNew gs k
gets_place a gs all for_most sized (free_number k has) =
    let here : HasPlace gs k = has_place gs k (omega (arith, within a.free.tickets k has, for_most.free, sized)) in
    free_in a gs k here.place (all.each k here.place here.there) here.there has
gets_place a gs all for_most sized (given_way k none way) = way_in a gs all for_most sized none way

pub no_room : (a : Plan) (gs : Places) → IsAllNoted a gs → HasNoNumber a.free a.closed a.strangers → HasNoRoom gs
no_room a gs all none = record {
  full = full a gs all none.nobody;
  lingers = none_closed a gs None all none.lingers;
  strangers = none_strange a gs None all none.silent;
}

pub not_both : {k : ℕ} (gs : Places) → HasNoRoom gs → IsPlaceForNew gs k → ⊥
not_both gs none (free_place k there) = none.full k there
not_both gs none (of_closed k t g full there is first) = none.lingers k t g there is
not_both gs none (of_stranger k t g full closed there is first) = none.strangers k t g there is

-- ---- identifiers

in_use_by : (owners : List (Option ℕ)) (ahead : List ℕ) (given o : Option ℕ) → position (is_free owners) ahead ≡ o
    → ((place : ℕ) → position (is_free owners) ahead ≡ Some place → given ≡ slice_get ahead place) → given ≡ None → position (is_free owners) ahead ≡ None
in_use_by owners ahead given None is there none = is
in_use_by owners ahead given (Some place) is there none =
    let here : slice_get ahead place ≡ Some (get_or ahead place 0) = slice_get-get_or ahead place 0 (place_within ahead owners place is) in
    let same : given ≡ slice_get ahead place = there place is in
    absurd (cc)

pub all_in_use : (owners : List (Option ℕ)) (ahead : List ℕ) (given : Option ℕ)
    → ((place : ℕ) → position (is_free owners) ahead ≡ Some place → given ≡ slice_get ahead place) → given ≡ None → position (is_free owners) ahead ≡ None
all_in_use owners ahead given there none = in_use_by owners ahead given (position (is_free owners) ahead) refl there none
