-- At which line what happens to a flow happens.
use Rattle.std.proofs.Common.{◌≡◌, refl, subst, arith, ℕ, ◌+◌, ◌<◌, ◌≤◌, ◌==◌, Bool, true, false, cond, List, [], ◌∷◌, ◌++◌, length, Option, Some, None}
use Rattle.std.specs.Prelude.{nat_lt, ◌-◌}
use Rattle.std.proofs.lemmas.Bool.{cond_both}
use Rattle.xns_spp.specs.declared.item.Item.{Item}
use Rattle.xns_calls.specs.Capture.{heading_at}
use Rattle.xns_calls.specs.declared.carried.Carried.{Carried}
use Rattle.xns_calls.specs.declared.heading.Heading.{Heading}
use Rattle.xns_calls.specs.declared.early.Early.{Early}
use Rattle.xns_calls.specs.Events.{Event, acknowledged, acknowledged_event, after_event, captured, captured_event, meanwhile, read}
use Rattle.xns_calls.specs.Exchange.{is_repeat, up_to}
use Rattle.xns_calls.specs.Input.{AreAtLines, FlowName}
use Rattle.xns_calls.specs.Naming.{Programs}
use Rattle.xns_calls.specs.Numbers.{most_early}
use Rattle.xns_calls.specs.Origins.{line_origin}
use Rattle.xns_calls.specs.Queue.{last_kept_number}
use Rattle.xns_calls.specs.Reading.{Told, read_next}
use Rattle.xns_calls.specs.Speech.{heard_of}
use Rattle.xns_calls.specs.Whole.{ToldHeard, flow_heard, heard_below, heard_below_if, heard_first, heard_with, new_heard}
use Rattle.xns_calls.proofs.Steps.{with_early}

-- the events are of a flow at one line
abbrev pub AreAt : Heading → List Event → Type 0
AreAt h [] = Unit {0}
AreAt h (captured heading number item ∷ more) = (heading ≡ h) × AreAt h more
AreAt h (acknowledged heading number ∷ more) = (heading ≡ h) × AreAt h more
AreAt h (read heading ∷ more) = (heading ≡ h) × AreAt h more
AreAt h (meanwhile calls text is_refused ∷ more) = AreAt h more

pub both_at : (h : Heading) (xs ys : List Event) → AreAt h xs → AreAt h ys → AreAt h (xs ++ ys)
both_at h [] ys a b = b
both_at h (captured heading number item ∷ xs) ys a b = (a.0, both_at h xs ys a.1 b)
both_at h (acknowledged heading number ∷ xs) ys a b = (a.0, both_at h xs ys a.1 b)
both_at h (read heading ∷ xs) ys a b = (a.0, both_at h xs ys a.1 b)
both_at h (meanwhile calls text is_refused ∷ xs) ys a b = both_at h xs ys a b

pub ack_at : (h : Heading) (o : Option ℕ) → AreAt h (acknowledged_event h o)
ack_at h None = tt
ack_at h (Some n) = (refl, tt)

pub captured_at : (h : Heading) (o : Option ℕ) (item : Carried) → AreAt h (captured_event h o item)
captured_at h None item = tt
captured_at h (Some n) item = (refl, tt)

pub item_at : (p : Bool) (h : Heading) (o : Option ℕ) (item : Carried) (a : Option ℕ) → AreAt h (cond p [] (captured_event h o item) ++ acknowledged_event h a)
item_at true h o item a = ack_at h a
item_at false h o item a = both_at h (captured_event h o item) (acknowledged_event h a) (captured_at h o item) (ack_at h a)

-- ---- lines, one after the other

abbrev pub line_heading : Programs → ℕ → Bool → ℕ → Heading
line_heading programs m b n = heading_at (line_origin programs n) m b

-- the events are of a flow at lines from one number on, before another, in their order
abbrev pub AreBetween : (ℕ → Heading) → ℕ → ℕ → List Event → Type 0
AreBetween at_line first behind [] = Unit {0}
AreBetween at_line first behind (captured heading number item ∷ more) = (n : ℕ) × (first ≤ n) × (n < behind) × (heading ≡ at_line n) × AreBetween at_line n behind more
AreBetween at_line first behind (acknowledged heading number ∷ more) = (n : ℕ) × (first ≤ n) × (n < behind) × (heading ≡ at_line n) × AreBetween at_line n behind more
AreBetween at_line first behind (read heading ∷ more) = (n : ℕ) × (first ≤ n) × (n < behind) × (heading ≡ at_line n) × AreBetween at_line n behind more
AreBetween at_line first behind (meanwhile calls text is_refused ∷ more) = AreBetween at_line first behind more

from_before : (at_line : ℕ → Heading) (first less behind : ℕ) (xs : List Event) → less ≤ first → AreBetween at_line first behind xs → AreBetween at_line less behind xs
from_before at_line first less behind [] le a = tt
from_before at_line first less behind (captured heading number item ∷ xs) le a = (a.0, let up = a.1 in omega (arith, le, up), a.2, a.3, a.4)
from_before at_line first less behind (acknowledged heading number ∷ xs) le a = (a.0, let up = a.1 in omega (arith, le, up), a.2, a.3, a.4)
from_before at_line first less behind (read heading ∷ xs) le a = (a.0, let up = a.1 in omega (arith, le, up), a.2, a.3, a.4)
from_before at_line first less behind (meanwhile calls text is_refused ∷ xs) le a = from_before at_line first less behind xs le a

-- the events of one line, and the events behind it
one_between : (at_line : ℕ → Heading) (n behind : ℕ) (xs ys : List Event) → n < behind → AreAt (at_line n) xs → AreBetween at_line n behind ys → AreBetween at_line n behind (xs ++ ys)
one_between at_line n behind [] ys lt a b = b
one_between at_line n behind (captured heading number item ∷ xs) ys lt a b = (n, omega arith, lt, a.0, one_between at_line n behind xs ys lt a.1 b)
one_between at_line n behind (acknowledged heading number ∷ xs) ys lt a b = (n, omega arith, lt, a.0, one_between at_line n behind xs ys lt a.1 b)
one_between at_line n behind (read heading ∷ xs) ys lt a b = (n, omega arith, lt, a.0, one_between at_line n behind xs ys lt a.1 b)
one_between at_line n behind (meanwhile calls text is_refused ∷ xs) ys lt a b = one_between at_line n behind xs ys lt a b

pub line_between : (at_line : ℕ → Heading) (n : ℕ) (lines : List (List ℕ)) (line : List ℕ) (xs ys : List Event) → AreAt (at_line n) xs → AreBetween at_line (n + 1) ((n + 1) + length lines) ys
    → AreBetween at_line n (n + length (line ∷ lines)) (xs ++ ys)
line_between at_line n lines line xs ys a b =
    let one : (n + 1) + length lines ≡ n + length (line ∷ lines) = omega arith in
    one_between at_line n (n + length (line ∷ lines)) xs ys (omega arith) a (from_before at_line (n + 1) n (n + length (line ∷ lines)) ys (omega arith) (subst (λ e. AreBetween at_line (n + 1) e ys) one b))

-- the events of the last line
only_between : (at_line : ℕ → Heading) (first last : ℕ) (ys : List Event) → first ≤ last → AreAt (at_line last) ys → AreBetween at_line first (1 + last) ys
only_between at_line first last [] le a = tt
only_between at_line first last (captured heading number item ∷ ys) le a = (last, le, omega arith, a.0, only_between at_line last last ys (omega arith) a.1)
only_between at_line first last (acknowledged heading number ∷ ys) le a = (last, le, omega arith, a.0, only_between at_line last last ys (omega arith) a.1)
only_between at_line first last (read heading ∷ ys) le a = (last, le, omega arith, a.0, only_between at_line last last ys (omega arith) a.1)
only_between at_line first last (meanwhile calls text is_refused ∷ ys) le a = only_between at_line first last ys le a

behind_between : (at_line : ℕ → Heading) (first last : ℕ) (xs ys : List Event) → first ≤ last → AreAt (at_line last) ys → AreBetween at_line first (1 + last) xs → AreBetween at_line first (1 + last) (xs ++ ys)
behind_between at_line first last [] ys le a b = only_between at_line first last ys le a
behind_between at_line first last (captured heading number item ∷ xs) ys le a b = (b.0, b.1, b.2, b.3, behind_between at_line b.0 last xs ys (let lt = b.2 in omega (arith, lt)) a b.4)
behind_between at_line first last (acknowledged heading number ∷ xs) ys le a b = (b.0, b.1, b.2, b.3, behind_between at_line b.0 last xs ys (let lt = b.2 in omega (arith, lt)) a b.4)
behind_between at_line first last (read heading ∷ xs) ys le a b = (b.0, b.1, b.2, b.3, behind_between at_line b.0 last xs ys (let lt = b.2 in omega (arith, lt)) a b.4)
behind_between at_line first last (meanwhile calls text is_refused ∷ xs) ys le a b = behind_between at_line first last xs ys le a b

pub last_between : (at_line : ℕ → Heading) (last : ℕ) (xs ys : List Event) → 1 ≤ last → AreAt (at_line last) ys → AreBetween at_line 1 (1 + last) xs → AreBetween at_line 1 (1 + last) (xs ++ ys)
last_between at_line last xs ys some a b = behind_between at_line 1 last xs ys some a b

-- ---- what is heard with them

-- all is heard at one line
abbrev AreHeardAt : Heading → List ToldHeard → Type 0
AreHeardAt h [] = Unit {0}
AreHeardAt h (x ∷ more) = (x.0 ≡ h) × AreHeardAt h more

both_heard_at : (h : Heading) (xs ys : List ToldHeard) → AreHeardAt h xs → AreHeardAt h ys → AreHeardAt h (xs ++ ys)
both_heard_at h [] ys a b = b
both_heard_at h (x ∷ xs) ys a b = (a.0, both_heard_at h xs ys a.1 b)

with_heard_at : (h : Heading) (item : Item) (t : Told) → AreHeardAt h (heard_with h item t)
with_heard_at h item t = cond_both (item.stream == 0) ((h, t.calls, heard_of t.track.speech item) ∷ []) [] (AreHeardAt h) (λ e. (refl, tt)) (λ e. tt)

below_heard_at : (h : Heading) (n : ℕ) (es : List Early) (t : Told) → AreHeardAt h (heard_below h n es t)
below_heard_at h n [] t = tt
below_heard_at h n (e ∷ rest) t =
    let one = heard_with h e.item.item t in
    let more = heard_below h n rest (read_next h (e.number + 1) e.item.item (with_early rest t)) in
    cond_both (nat_lt e.number n) (one ++ more) [] (AreHeardAt h)
    (λ less. both_heard_at h one more (with_heard_at h e.item.item t) (below_heard_at h n rest (read_next h (e.number + 1) e.item.item (with_early rest t))))
    (λ above. tt)

if_heard_at : (h : Heading) (o : Option ℕ) (t : Told) → AreHeardAt h (heard_below_if h o t)
if_heard_at h None t = tt
if_heard_at h (Some n) t = below_heard_at h n t.track.early t

first_heard_at : (h : Heading) (es : List Early) (t : Told) → AreHeardAt h (heard_first h es t)
first_heard_at h [] t = tt
first_heard_at h (e ∷ rest) t = cond_both (nat_lt t.track.next e.number) [] (heard_with h e.item.item t) (AreHeardAt h) (λ later. tt) (λ due. with_heard_at h e.item.item t)

module _ (programs : Programs) (p : FlowName) (last : ℕ) where
  heard_between : (n : ℕ) (xs ys : List ToldHeard) → n ≤ last → AreHeardAt (line_heading programs p.connection p.is_behind n) xs → AreAtLines programs p n last ys → AreAtLines programs p n last (xs ++ ys)
  heard_between n [] ys le a b = b
  heard_between n (x ∷ xs) ys le a b = (n, omega arith, le, a.0, heard_between n xs ys le a.1 b)

  lines_before : (first less : ℕ) (xs : List ToldHeard) → less ≤ first → AreAtLines programs p first last xs → AreAtLines programs p less last xs
  lines_before first less [] le a = tt
  lines_before first less (x ∷ xs) le a = (a.0, let up = a.1 in omega (arith, le, up), a.2, a.3, a.4)

  -- an event at a line, and those behind it
  event_between : (first n : ℕ) (heading : Heading) (xs ys : List ToldHeard) → first ≤ n → n < 1 + last → heading ≡ line_heading programs p.connection p.is_behind n → AreHeardAt heading xs → AreAtLines programs p n last ys
      → AreAtLines programs p first last (xs ++ ys)
  event_between first n heading xs ys le lt is a b =
      lines_before n first (xs ++ ys) le (heard_between n xs ys (omega (arith, lt)) (subst (λ h. AreHeardAt h xs) is a) b)

  events_between : (first : ℕ) (events : List Event) (t : Told) → AreBetween (line_heading programs p.connection p.is_behind) first (1 + last) events → AreAtLines programs p first last (flow_heard events t)
  events_between first [] t a = tt
  events_between first (captured heading number item ∷ more) t a =
      event_between first a.0 heading (new_heard (captured heading number item) t) (flow_heard more (after_event (captured heading number item) t)) a.1 a.2 a.3
      (cond_both (is_repeat number t.track) [] (heard_below heading (number - most_early) t.track.early t) (AreHeardAt heading) (λ old. tt) (λ new. below_heard_at heading (number - most_early) t.track.early t))
      (events_between a.0 more (after_event (captured heading number item) t) a.4)
  events_between first (acknowledged heading number ∷ more) t a =
      event_between first a.0 heading (new_heard (acknowledged heading number) t) (flow_heard more (after_event (acknowledged heading number) t)) a.1 a.2 a.3
      (if_heard_at heading (up_to (last_kept_number t.track.early) (Some number)) t)
      (events_between a.0 more (after_event (acknowledged heading number) t) a.4)
  events_between first (read heading ∷ more) t a =
      event_between first a.0 heading (new_heard (read heading) t) (flow_heard more (after_event (read heading) t)) a.1 a.2 a.3
      (first_heard_at heading t.track.early t)
      (events_between a.0 more (after_event (read heading) t) a.4)
  events_between first (meanwhile calls text is_refused ∷ more) t a = events_between first more (after_event (meanwhile calls text is_refused) t) a

  pub told_between : (events : List Event) (start : Told) → AreBetween (line_heading programs p.connection p.is_behind) 1 (1 + last) events → AreAtLines programs p 1 last (flow_heard events start)
  told_between events start a = events_between 1 events start a
