-- How what two flows keep is read at the end, item by item.
use Rattle.std.proofs.Common.{◌≡◌, ◌∙◌, ap, sym, refl, subst, arith, ℕ, zero, suc, ◌+◌, ◌<◌, ◌≤◌, Bool, true, false, cond, List, [], ◌∷◌, length, Option, Some, None}
use Rattle.std.specs.Prelude.{nat_lt, option_map}
use Rattle.std.proofs.lemmas.Bool.{cond_both, lt-ltb}
use Rattle.xns_calls.specs.AtEnd.{both_ended, earliest, end_line, end_turn, ended_of, ended_times, first_at_end, first_in, one_ended, own_ended, read_behind}
use Rattle.xns_calls.specs.Exchange.{Scene, advance_other, advanced, in_flow, in_track, of_other, other_reached, reached, seen_from_other, told_of}
use Rattle.xns_calls.specs.Read.{kept_item_count}
use Rattle.xns_calls.specs.Reading.{Told, brought, brought_over, item_read, passed}
use Rattle.xns_calls.specs.Turns.{first_line}
use Rattle.xns_calls.specs.declared.early.Early.{Early}
use Rattle.xns_calls.specs.declared.first_kept.FirstKept.{FirstKept}
use Rattle.xns_calls.specs.declared.heading.Heading.{Heading}
use Rattle.xns_calls.specs.declared.track.Track.{Track}
use Rattle.xns_calls.proofs.Kept.{earliest_number}
use Rattle.xns_calls.proofs.LessKept.{count}
use Rattle.xns_calls.proofs.Packets.{flow_other, reached_own}
use Rattle.xns_calls.proofs.Steps.{early_of, passed_early, read_early, with_early}

-- ---- a flow that is brought to a number keeps no more

over_less : (h : Heading) (n : ℕ) (es : List Early) (t : Told) → early_of t ≡ es → length (early_of (brought_over h n es t)) ≤ length es
over_less h n [] t same = let left : length (early_of (passed h n t)) ≡ 0 = ap length (passed_early h n t ∙ same) in omega (arith, left)
over_less h n (e ∷ rest) t same =
    let u = item_read h e (with_early rest t) in
    cond_both (nat_lt e.number n) (brought_over h n rest u) (passed h n t) (λ (x : Told). length (early_of x) ≤ suc (length rest))
    (λ due. let le = over_less h n rest u (read_early h e (with_early rest t)) in omega (arith, le))
    (λ later. let left : length (early_of (passed h n t)) ≡ suc (length rest) = ap length (passed_early h n t ∙ same) in omega (arith, left))

brought_less : (h : Heading) (n : ℕ) (t : Told) → length (early_of (brought h n t)) ≤ length (early_of t)
unfolding brought
brought_less h n t = over_less h n t.track.early t refl

-- a flow that is brought behind its first item keeps an item less
first_less : (h : Heading) (e : Early) (rest : List Early) (t : Told) → early_of t ≡ e ∷ rest → length (early_of (brought h (e.number + 1) t)) ≤ length rest
unfolding brought
first_less h e rest t at =
    let u = item_read h e (with_early rest t) in
    let n = e.number + 1 in
    let read : brought_over h n (early_of t) t ≡ brought_over h n rest u =
    ap (λ es. brought_over h n es t) at ∙ ap (λ p. cond p (brought_over h n rest u) (passed h n t)) (lt-ltb e.number n (omega arith)) in
    subst (λ (x : Told). length (early_of x) ≤ length rest) (sym read) (over_less h n rest u (read_early h e (with_early rest t)))

advanced_less : (h : Heading) (n : ℕ) (s : Scene) → kept_item_count (advanced h n s).own.track ≤ kept_item_count s.own.track
unfolding in_flow
advanced_less h n s = by_track s.own.track refl
  where
    by_track : (o : Option Track) → s.own.track ≡ o → kept_item_count (in_track (brought h n) o s).own.track ≤ kept_item_count o
    by_track None at = let none : kept_item_count s.own.track ≡ 0 = ap kept_item_count at in omega (arith, none)
    by_track (Some track) at = brought_less h n (told_of track s)

first_advanced : (h : Heading) (e : Early) (rest : List Early) (track : Track) (s : Scene) → s.own.track ≡ Some track → track.early ≡ e ∷ rest → kept_item_count (advanced h (e.number + 1) s).own.track ≤ length rest
unfolding in_flow
first_advanced h e rest track s at first =
    subst (λ o. kept_item_count (in_track (brought h (e.number + 1)) o s).own.track ≤ length rest) (sym at) (first_less h e rest (told_of track s) first)

reached_less : (h : Heading) (number : Option ℕ) (s : Scene) → kept_item_count (other_reached h number s).other.track ≤ kept_item_count s.other.track
unfolding other_reached
reached_less h number s = by_number (reached s.other.track number)
  where
    by_number : (o : Option ℕ) → kept_item_count (advance_other h o s).other.track ≤ kept_item_count s.other.track
    by_number None = omega arith
    by_number (Some n) = advanced_less (of_other h) n (seen_from_other s)

-- ---- so an item less is kept with each turn

own_less : (h : Heading) (s : Scene) (line : ℕ) → end_line s.own.track ≡ Some line → count (own_ended h s) < count s
unfolding own_ended
own_less h s line is = by_track s.own.track refl is
  where
    by_early : (track : Track) → s.own.track ≡ Some track → (es : List Early) → track.early ≡ es → option_map (λ (x : FirstKept). x.line) (first_at_end es) ≡ Some line
        → count (read_behind h (first_at_end es) s) < count s
    by_early track at [] e is = (cc)
    by_early track at (early ∷ rest) e is =
        let start : FirstKept = record { number = early.number; acknowledged = early.item.acknowledged; line = early.item.line } in
        let first = earliest start (early ∷ rest) in
        let known = other_reached h first.acknowledged s in
        let same : first.number ≡ early.number = earliest_number start (early ∷ rest) in
        let own : kept_item_count (advanced h (early.number + 1) known).own.track ≤ length rest =
        first_advanced h early rest track known (reached_own h first.acknowledged s ∙ at) e in
        let still : kept_item_count (advanced h (early.number + 1) known).other.track ≡ kept_item_count known.other.track = ap kept_item_count (flow_other (brought h (early.number + 1)) known) in
        let other : kept_item_count known.other.track ≤ kept_item_count s.other.track = reached_less h first.acknowledged s in
        let mine : kept_item_count s.own.track ≡ suc (length rest) = ap kept_item_count at ∙ ap length e in
        subst (λ n. count (advanced h (n + 1) known) < count s) (sym same) (omega (arith, own, still, other, mine))

    by_track : (o : Option Track) → s.own.track ≡ o → end_line o ≡ Some line → count (read_behind h (first_in o) s) < count s
    by_track None at is = (cc)
    by_track (Some track) at is = by_early track at track.early refl is

count_less : (h : Heading) (turn : Bool) (s : Scene) → end_turn s.own.track s.other.track ≡ Some turn → count (ended_of h (Some turn) s) < count s
count_less h turn s is = by_lines (end_line s.own.track) (end_line s.other.track) turn refl refl is
  where
    other_less : (line : ℕ) → end_line s.other.track ≡ Some line → count (ended_of h (Some true) s) < count s
    other_less line e = let one = own_less (of_other h) (seen_from_other s) line e in omega (arith, one)

    by_lines : (a b : Option ℕ) (turn : Bool) → end_line s.own.track ≡ a → end_line s.other.track ≡ b → first_line a b ≡ Some turn → count (ended_of h (Some turn) s) < count s
    by_lines None None turn ea eb is = (cc)
    by_lines (Some a) None false ea eb is = own_less h s a ea
    by_lines (Some a) None true ea eb is = (cc)
    by_lines None (Some b) true ea eb is = other_less b eb
    by_lines None (Some b) false ea eb is = (cc)
    by_lines (Some a) (Some b) false ea eb is = own_less h s a ea
    by_lines (Some a) (Some b) true ea eb is = other_less b eb

next_less : (h : Heading) (turn : Bool) (s : Scene) → end_turn s.own.track s.other.track ≡ Some turn → count (one_ended h s) < count s
next_less h turn s is = subst (λ o. count (ended_of h o s) < count s) (sym is) (count_less h turn s is)

-- ---- until none is kept

times_end : (n : ℕ) (h : Heading) (s : Scene) → end_turn s.own.track s.other.track ≡ None → ended_times n h s ≡ s
times_end zero h s is = refl
times_end (suc n) h s is = ap (ended_times n h) (ap (λ o. ended_of h o s) is) ∙ times_end n h s is

none_left : (h : Heading) (s : Scene) → count s ≤ 0 → end_turn s.own.track s.other.track ≡ None
none_left h s le = by_turn (end_turn s.own.track s.other.track) refl
  where
    by_turn : (o : Option Bool) → end_turn s.own.track s.other.track ≡ o → end_turn s.own.track s.other.track ≡ None
    by_turn None is = is
    by_turn (Some turn) is = let lt = count_less h turn s is in absurd (omega (arith, le, lt))

-- more turns than items lead where as many do
enough : (n m : ℕ) (h : Heading) (s : Scene) → count s ≤ n → count s ≤ m → ended_times n h s ≡ ended_times m h s
enough zero m h s le le' = sym (times_end m h s (none_left h s le))
enough (suc n) zero h s le le' = times_end (suc n) h s (none_left h s le')
enough (suc n) (suc m) h s le le' = by_turn (enough n m h (one_ended h s)) (end_turn s.own.track s.other.track) refl
  where
    by_turn : (count (one_ended h s) ≤ n → count (one_ended h s) ≤ m → ended_times n h (one_ended h s) ≡ ended_times m h (one_ended h s))
        → (o : Option Bool) → end_turn s.own.track s.other.track ≡ o → ended_times (suc n) h s ≡ ended_times (suc m) h s
    by_turn rest None is = times_end (suc n) h s is ∙ sym (times_end (suc m) h s is)
    by_turn rest (Some turn) is = let lt = next_less h turn s is in rest (omega (arith, le, lt)) (omega (arith, le', lt))

turn_by : (n : ℕ) (h : Heading) (turn : Bool) (s : Scene) → count s ≡ n → end_turn s.own.track s.other.track ≡ Some turn
    → ended_times (count (ended_of h (Some turn) s)) h (ended_of h (Some turn) s) ≡ ended_times (count s) h s
turn_by zero h turn s size is = let lt = count_less h turn s is in absurd (omega (arith, lt, size))
turn_by (suc n) h turn s size is =
    let s' = ended_of h (Some turn) s in
    let lt : count s' < count s = count_less h turn s is in
    enough (count s') n h s' (omega arith) (omega (arith, lt, size)) ∙ ap (λ o. ended_times n h (ended_of h o s)) (sym is)
    ∙ ap (λ m. ended_times m h s) (sym size)

pub turn_ended : (h : Heading) (turn : Bool) (s : Scene) → end_turn s.own.track s.other.track ≡ Some turn → both_ended h (ended_of h (Some turn) s) ≡ both_ended h s
unfolding both_ended
turn_ended h turn s is = turn_by (count s) h turn s refl is

pub turn_end : (h : Heading) (s : Scene) → end_turn s.own.track s.other.track ≡ None → both_ended h s ≡ s
unfolding both_ended
turn_end h s is = times_end (count s) h s is

pub turn_smaller : (h : Heading) (turn : Bool) (s s' : Scene) → end_turn s.own.track s.other.track ≡ Some turn → s' ≡ ended_of h (Some turn) s → count s' < count s
turn_smaller h turn s s' is e = let one = count_less h turn s is in let same = ap count e in omega (arith, one, same)

times_left : (n : ℕ) (h : Heading) (s : Scene) → count s ≤ n → end_turn (ended_times n h s).own.track (ended_times n h s).other.track ≡ None
times_left zero h s le = none_left h s le
times_left (suc n) h s le = by_turn (times_left n h (one_ended h s)) (end_turn s.own.track s.other.track) refl
  where
    by_turn : (count (one_ended h s) ≤ n → end_turn (ended_times n h (one_ended h s)).own.track (ended_times n h (one_ended h s)).other.track ≡ None)
        → (o : Option Bool) → end_turn s.own.track s.other.track ≡ o
        → end_turn (ended_times (suc n) h s).own.track (ended_times (suc n) h s).other.track ≡ None
    by_turn rest None is = subst (λ (x : Scene). end_turn x.own.track x.other.track ≡ None) (sym (times_end (suc n) h s is)) is
    by_turn rest (Some turn) is = let lt = next_less h turn s is in rest (omega (arith, le, lt))

pub both_left : (h : Heading) (s : Scene) → end_turn (both_ended h s).own.track (both_ended h s).other.track ≡ None
unfolding both_ended
both_left h s = times_left (count s) h s (omega arith)

-- a flow that has no turn keeps no item
line_none : (track : Track) → end_line (Some track) ≡ None → track.early ≡ []
line_none track is = by_early track.early is
  where
    by_early : (es : List Early) → option_map (λ (x : FirstKept). x.line) (first_at_end es) ≡ None → es ≡ []
    by_early [] is = refl
    by_early (e ∷ rest) is = (cc)

pub first_none : (a b : Option ℕ) → first_line a b ≡ None → (a ≡ None) × (b ≡ None)
first_none None None is = (refl, refl)
first_none (Some a) None is = (cc)
first_none None (Some b) is = (cc)
first_none (Some a) (Some b) is = (cc)

pub own_left : (track : Track) (a b : Option Track) → a ≡ Some track → end_turn a b ≡ None → track.early ≡ []
own_left track a b at is = line_none track (ap end_line (sym at) ∙ (first_none (end_line a) (end_line b) is).0)

pub other_left : (track : Track) (a b : Option Track) → b ≡ Some track → end_turn a b ≡ None → track.early ≡ []
other_left track a b at is = line_none track (ap end_line (sym at) ∙ (first_none (end_line a) (end_line b) is).1)
