-- What happens to one flow, with numbers in the place of fields.
use Rattle.std.specs.Prelude.{◌≡◌, ℕ, ◌+◌, ◌-◌, ◌≤◌, ◌<◌, nat_lt, ◌⊎◌, Bool, if◌then◌else◌, List, [], ◌∷◌, ◌++◌, Option, Some, None}
use Rattle.xns_spp.specs.Header.{is_system}
use Rattle.xns_spp.specs.declared.header.Header.{Header}
use Rattle.xns_calls.specs.declared.carried.Carried.{Carried}
use Rattle.xns_calls.specs.Exchange.{Scene, carried, is_repeat, up_to}
use Rattle.xns_calls.specs.Numbers.{most_early, near}
use Rattle.xns_calls.specs.Queue.{last_kept_number}
use Rattle.xns_calls.specs.Reading.{Told, brought, first_read, item_taken, read_next, with_kept_item}
use Rattle.xns_calls.specs.declared.early.Early.{Early}
use Rattle.xns_calls.specs.declared.due.Due.{Due}
use Rattle.xns_calls.specs.declared.heading.Heading.{Heading}
use Rattle.xns_calls.specs.declared.track.Track.{Track}
use Rattle.xns_calls.specs.Unanswered.{UnansweredCalls}

-- an item of the flow is captured, or takes effect what acknowledges all its items below a number, or the next item is read if it is kept;
-- or what other packets and lines do meanwhile, by which the calls without an answer, the text of the line, and whether something was refused, are others
pub data Event : Type 0 where
  captured : Heading → ℕ → Carried → Event
  acknowledged : Heading → ℕ → Event
  read : Heading → Event
  meanwhile : UnansweredCalls → List ℕ → Bool → Event

abbrev pub with_others : UnansweredCalls → List ℕ → Bool → Told → Told
with_others calls text is_refused t = record t { calls = calls; text = text; is_refused = is_refused }

abbrev pub brought_if : Heading → Option ℕ → Told → Told
brought_if heading None t = t
brought_if heading (Some number) t = brought heading number t

-- what an event does to the flow
abbrev pub after_event : Event → Told → Told
after_event (captured heading number item) t = if is_repeat number t.track then t else item_taken heading number item t
after_event (acknowledged heading number) t = brought_if heading (up_to (last_kept_number t.track.early) (Some number)) t
after_event (read heading) t = first_read heading t
after_event (meanwhile calls text is_refused) t = with_others calls text is_refused t

abbrev pub after_events : List Event → Told → Told
after_events [] t = t
after_events (e ∷ more) t = after_events more (after_event e t)

-- ---- the events of packets

abbrev pub captured_event : Heading → Option ℕ → Carried → List Event
captured_event heading None item = []
captured_event heading (Some number) item = captured heading number item ∷ []

-- what is acknowledged takes effect
abbrev pub acknowledged_event : Heading → Option ℕ → List Event
acknowledged_event heading None = []
acknowledged_event heading (Some number) = acknowledged heading number ∷ []

-- the events of a packet of the flow, once the flow behind is brought to what takes effect of that
abbrev pub own_events : Heading → Due → Header → List ℕ → Track → Scene → List Event
own_events heading due f content track s =
    meanwhile (record { own = s.own.call; asked = s.other.call }) s.text s.is_refused
    ∷ (if is_system f then [] else captured_event heading (near track.next f.sequence) (carried heading due.acknowledged f content)) ++ acknowledged_event heading due.own

-- ---- where nothing is missing: the items that are kept are read, without a line of missing ones

abbrev pub read_below_over : Heading → ℕ → List Early → Told → Told
read_below_over heading number [] t = t
read_below_over heading number (early ∷ rest) t =
    if nat_lt early.number number then read_below_over heading number rest
    (read_next heading (early.number + 1) early.item.item (record t { track = record t.track { early = rest } }))
    else t

-- the items below the number are read
abbrev pub read_below : Heading → ℕ → Told → Told
read_below heading number t = read_below_over heading number t.track.early t

abbrev pub read_below_if : Heading → Option ℕ → Told → Told
read_below_if heading None t = t
read_below_if heading (Some number) t = read_below heading number t

abbrev pub read_first_over : Heading → List Early → Told → Told
read_first_over heading [] t = t
read_first_over heading (early ∷ rest) t =
    if nat_lt t.track.next early.number then t
    else read_next heading (early.number + 1) early.item.item (record t { track = record t.track { early = rest } })

abbrev pub after_whole_event : Event → Told → Told
after_whole_event (captured heading number item) t =
    if is_repeat number t.track then t else with_kept_item number item (read_below heading (number - most_early) t)
after_whole_event (acknowledged heading number) t = read_below_if heading (up_to (last_kept_number t.track.early) (Some number)) t
after_whole_event (read heading) t = read_first_over heading t.track.early t
after_whole_event (meanwhile calls text is_refused) t = with_others calls text is_refused t

abbrev pub after_whole_events : List Event → Told → Told
after_whole_events [] t = t
after_whole_events (e ∷ more) t = after_whole_events more (after_whole_event e t)

-- ---- which items are captured

abbrev pub IsAmong : ℕ → List ℕ → Type 0
IsAmong number [] = ⊥
IsAmong number (n ∷ more) = (number ≡ n) ⊎ IsAmong number more

abbrev pub with_captured : Event → List ℕ → List ℕ
with_captured (captured heading number item) before = number ∷ before
with_captured (acknowledged heading number) before = before
with_captured (read heading) before = before
with_captured (meanwhile calls text is_refused) before = before

-- the numbers of the items that are captured, those of `before` among them
abbrev pub captured_in : List Event → List ℕ → List ℕ
captured_in [] before = before
captured_in (e ∷ more) before = captured_in more (with_captured e before)

-- the items from `first` on which were sent so long before the event that they have to be captured by then: they lie 64 or more before an
-- item, or what acknowledges them takes effect
abbrev pub IsLate : Event → ℕ → Type 0
IsLate (captured heading number item) n = n + most_early < number
IsLate (acknowledged heading number) n = n < number
IsLate (read heading) n = ⊥
IsLate (meanwhile calls text is_refused) n = ⊥

-- each item from `first` on is captured within 63 numbers of its place, and before what acknowledges it takes effect
abbrev pub AreWithinReach : ℕ → List ℕ → List Event → Type 0
AreWithinReach first before [] = Unit {0}
AreWithinReach first before (e ∷ more) = ((n : ℕ) → first ≤ n → IsLate e n → IsAmong n before)
    × AreWithinReach first (with_captured e before) more
