-- A new agenda: each number is free, and nothing is to be done.
use Rattle.std.proofs.Common.{zero, suc, ◌≡◌, ◌≢◌, ◌∙◌, ◌⊎◌, inl, inr, ap, refl, subst, sym, ℕ, ◌+◌, ◌<◌, true, false, List, length, replicate, Option, Some, None, slice_get, arith, add-one}
use Rattle.std.specs.Option.{is_some}
use Rattle.std.proofs.lemmas.List.{get_or-replicate, get_or-set_other, get_or-set_same, length-replicate, length-set}
use Rattle.std.proofs.lemmas.Option.{slice_get-get_or}
use Rattle.xns_agenda.specs.Agenda.{HasNobody, IsFor, Plan, new_agenda}
use Rattle.xns_agenda.specs.Turns.{Line, empty_line, has_turn, lined_up, with_last}
use Rattle.xns_agenda.proofs.Putting.{same_or_other}

pub lined_none : (most : ℕ) → lined_up most 0 ≡ empty_line most
unfolding lined_up
lined_none most = refl

pub lined_more : (most n : ℕ) → lined_up most (n + 1) ≡ with_last (lined_up most n) n
unfolding lined_up
lined_more most n = rw add-one refl

abbrev none : ℕ → List (Option ℕ)
none most = replicate most None

length-none : (most : ℕ) → length (none most) ≡ most
length-none most = length-replicate {A = Option ℕ} most None

pub lined_size : (most n : ℕ) → length (lined_up most n).tickets ≡ most
unfolding lined_up
lined_size most zero = length-none most
lined_size most (suc n) = length-set (lined_up most n).tickets n (Some (lined_up most n).next) ∙ lined_size most n

-- a number that is put last has a turn
pub last_same : (line : Line) (n : ℕ) → n < length line.tickets → has_turn (with_last line n) n ≡ true
last_same line n less = ap is_some (get_or-set_same line.tickets n (Some line.next) None less)

-- another number has a turn as it had
pub last_other : (line : Line) (n k : ℕ) → k ≢ n → has_turn (with_last line n) k ≡ has_turn line k
last_other line n k other = ap is_some (get_or-set_other line.tickets n k (Some line.next) None other)

one_more : (line : Line) (n k : ℕ) → n < length line.tickets → k < suc n → (k < n → has_turn line k ≡ true) → (k ≡ n) ⊎ (k ≢ n)
    → has_turn (with_last line n) k ≡ true
one_more line n k room less before (inl e) = subst (λ (m : ℕ). has_turn (with_last line n) m ≡ true) (sym e) (last_same line n room)
one_more line n k room less before (inr other) = last_other line n k other ∙ before (omega (arith, less, other))

-- a number that took a turn has one
has_lined : (most n k : ℕ) → n < suc most → k < n → has_turn (lined_up most n) k ≡ true
unfolding lined_up
has_lined most zero k some less = absurd (omega (arith, less))
has_lined most (suc n) k some less =
    let size = lined_size most n in
    one_more (lined_up most n) n k (omega (arith, size, some)) less (λ below. has_lined most n k (omega (arith, some)) below) (same_or_other k n)

pub new_room : (most : ℕ) → IsFor (new_agenda most) most
new_room most = record {
  dues = length-none most;
  packets = length-none most;
  events = length-none most;
  closed = length-none most;
  strangers = length-none most;
  free = lined_size most most;
}

pub for_most : (a : Plan) (most : ℕ) → a ≡ new_agenda most → IsFor a most
for_most a most is = subst (λ (p : Plan). IsFor p most) (sym is) (new_room most)

pub room_of : (a : Plan) (most : ℕ) → a ≡ new_agenda most → IsFor a (length a.dues)
room_of a most is =
    let size : length a.dues ≡ most = ap (λ (p : Plan). length p.dues) is ∙ length-none most in
    subst (λ (n : ℕ). IsFor a n) (sym size) (for_most a most is)

nothing_at : (most k : ℕ) → k < most → slice_get (none most) k ≡ Some None
nothing_at most k less = slice_get-get_or (none most) k None (let size = length-none most in omega (arith, size, less)) ∙ ap Some (get_or-replicate most k None None less)

idle_at : (most k : ℕ) → k < most → has_turn (empty_line most) k ≡ false
idle_at most k less = ap is_some (get_or-replicate most k None None less)

pub nobody_yet : (most k : ℕ) → k < most → HasNobody (new_agenda most) k
nobody_yet most k less = record {
  facts = record {
    due = nothing_at most k less;
    packet = idle_at most k less;
    closed = nothing_at most k less;
    stranger = nothing_at most k less;
  };
  event = idle_at most k less;
  free = has_lined most most k (omega arith) less;
}

pub nobody_in : (a : Plan) (most k : ℕ) → a ≡ new_agenda most → k < most → HasNobody a k
nobody_in a most k is less = subst (λ (p : Plan). HasNobody p k) (sym is) (nobody_yet most k less)
