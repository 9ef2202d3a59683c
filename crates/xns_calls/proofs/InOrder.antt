-- Which item that is kept may be read.
use Rattle.std.proofs.Common.{◌≡◌, ◌∙◌, ap, sym, refl, subst, arith, inl, inr, ℕ, zero, suc, ◌+◌, ◌<◌, ◌≤◌, ◌⊎◌, Bool, true, false, cond, List, [], ◌∷◌, Option, Some, None}
use Rattle.std.specs.Prelude.{max, nat_lt, not, ◌&&◌, ◌||◌, ◌-◌}
use Rattle.std.proofs.lemmas.Bool.{le-ltb, lt-ltb, ltb-false, ltb-true}
use Rattle.std.proofs.Math.Bool.{or-true}
use Rattle.xns_spp.specs.Ends.{most_pending}
use Rattle.xns_calls.specs.AtEnd.{both_ended}
use Rattle.xns_calls.specs.Exchange.{Scene}
use Rattle.xns_calls.specs.InOrder.{CanBeRead, WaitsForNone, KeptItemsAreReadInTurn}
use Rattle.xns_calls.specs.Read.{one_read, read_of, read_times, settled}
use Rattle.xns_calls.specs.Turns.{first_kept, first_line, is_behind, waits_for_none, next_turn, readable, readable_first}
use Rattle.xns_calls.specs.declared.early.Early.{Early}
use Rattle.xns_calls.specs.declared.given.Given.{Given}
use Rattle.xns_calls.specs.declared.heading.Heading.{Heading}
use Rattle.xns_calls.specs.declared.track.Track.{Track}
use Rattle.xns_calls.proofs.LessAtEnd.{both_left, other_left, own_left}
use Rattle.xns_calls.proofs.LessKept.{count, count_less}

-- ---- what waits for nothing

behind_is : (next given number : ℕ) → is_behind next given number ≡ true → (number ≤ next) ⊎ ((number ≤ given) ⊎ (next + most_pending < number))
behind_is next given number is = by_most (nat_lt (max next given) number) refl is
  where
    by_most : (p : Bool) → nat_lt (max next given) number ≡ p → (not p || nat_lt most_pending (number - next)) ≡ true → (number ≤ next) ⊎ ((number ≤ given) ⊎ (next + most_pending < number))
    by_most false e is = by_next (nat_lt next number) refl
      where
        by_next : (q : Bool) → nat_lt next number ≡ q → (number ≤ next) ⊎ ((number ≤ given) ⊎ (next + most_pending < number))
        by_next false d = inl (ltb-false next number d)
        by_next true d =
            let most = ltb-false (max next given) number e in
            let lt = ltb-true next number d in inr (inl (omega (arith, most, lt)))
    by_most true e is = let far = ltb-true most_pending (number - next) is in inr (inr (omega (arith, far)))

is_behind_so : (next given number : ℕ) → (number ≤ next) ⊎ ((number ≤ given) ⊎ (next + most_pending < number)) → is_behind next given number ≡ true
is_behind_so next given number (inl le) = ap (λ p. not p || nat_lt most_pending (number - next)) (le-ltb (max next given) number (omega (arith, le)))
is_behind_so next given number (inr (inl le)) = ap (λ p. not p || nat_lt most_pending (number - next)) (le-ltb (max next given) number (omega (arith, le)))
is_behind_so next given number (inr (inr far)) =
    ap (λ p. not (nat_lt (max next given) number) || p) (lt-ltb most_pending (number - next) (omega (arith, far))) ∙ or-true (not (nat_lt (max next given) number))

free_is : (behind : Option Track) (given : ℕ) (a : Option ℕ) → waits_for_none behind given a ≡ true → WaitsForNone behind given a
free_is None given a is = tt
free_is (Some behind) given None is = tt
free_is (Some behind) given (Some number) is = behind_is behind.next given number is

is_free_so : (behind : Option Track) (given : ℕ) (a : Option ℕ) → WaitsForNone behind given a → waits_for_none behind given a ≡ true
is_free_so None given a free = refl
is_free_so (Some behind) given None free = refl
is_free_so (Some behind) given (Some number) free = is_behind_so behind.next given number free

-- ---- an item that can be read

can_is : (track : Track) (behind : Option Track) (given line : ℕ) → readable (Some track) behind given ≡ Some line → (early : Early) × CanBeRead track behind given early
can_is track behind given line is = by_early track.early refl is
  where
    by_early : (es : List Early) → track.early ≡ es → readable_first track.next behind given (first_kept es) ≡ Some line → (early : Early) × CanBeRead track behind given early
    by_early [] at is = (cc)
    by_early (e ∷ rest) at is = by_next (nat_lt track.next e.number) (waits_for_none behind given e.item.acknowledged) refl refl is
      where
        by_next : (p q : Bool) → nat_lt track.next e.number ≡ p → waits_for_none behind given e.item.acknowledged ≡ q → cond (not p && q) (Some e.item.line) None ≡ Some line
            → (early : Early) × CanBeRead track behind given early
        by_next true q d f is = (cc)
        by_next false false d f is = (cc)
        by_next false true d f is = (e, record { rest = rest; first = at; next = ltb-false track.next e.number d; free = free_is behind given e.item.acknowledged f })

pub can_so : (track : Track) (behind : Option Track) (given : ℕ) (early : Early) → CanBeRead track behind given early → readable (Some track) behind given ≡ Some early.item.line
can_so track behind given early can =
    ap (λ es. readable_first track.next behind given (first_kept es)) can.first
    ∙ ap (λ p. cond (not p && waits_for_none behind given early.item.acknowledged) (Some early.item.line) None) (le-ltb track.next early.number can.next)
    ∙ ap (λ p. cond p (Some early.item.line) None) (is_free_so behind given early.item.acknowledged can.free)

-- ---- what is read

can_read : (own behind : Option Track) (given line : ℕ) → readable own behind given ≡ Some line → (track : Track) × (own ≡ Some track) × (early : Early) × CanBeRead track behind given early
can_read None behind given line is = (cc)
can_read (Some track) behind given line is = let w = can_is track behind given line is in (track, refl, w.0, w.1)

own_first : (a b : Option ℕ) → first_line a b ≡ Some false → (line : ℕ) × (a ≡ Some line)
own_first None None is = (cc)
own_first None (Some b) is = (cc)
own_first (Some a) b is = (a, refl)

other_first : (a b : Option ℕ) → first_line a b ≡ Some true → (line : ℕ) × (b ≡ Some line)
other_first None None is = (cc)
other_first (Some a) None is = (cc)
other_first a (Some b) is = (b, refl)

own_can : (given : Given) (own other : Option Track) → next_turn given own other ≡ Some false → (track : Track) × (own ≡ Some track) × (early : Early) × CanBeRead track other given.other early
own_can given own other is = let first = own_first (readable own other given.other) (readable other own given.own) is in can_read own other given.other first.0 first.1

other_can : (given : Given) (own other : Option Track) → next_turn given own other ≡ Some true → (track : Track) × (other ≡ Some track) × (early : Early) × CanBeRead track own given.own early
other_can given own other is = let first = other_first (readable own other given.other) (readable other own given.own) is in can_read other own given.own first.0 first.1

turn_first : (given : Given) (own other : Track) (a b : Early) → CanBeRead own (Some other) given.other a → CanBeRead other (Some own) given.own b
    → next_turn given (Some own) (Some other) ≡ Some (nat_lt b.item.line a.item.line)
turn_first given own other a b can can' =
    ap (λ o. first_line o (readable (Some other) (Some own) given.own)) (can_so own (Some other) given.other a can)
    ∙ ap (first_line (Some a.item.line)) (can_so other (Some own) given.own b can')

-- ---- and what is left

none_turn : (h : Heading) (given : Given) (s : Scene) → count s ≤ 0 → next_turn given s.own.track s.other.track ≡ None
none_turn h given s le = by_turn (next_turn given s.own.track s.other.track) refl
  where
    by_turn : (o : Option Bool) → next_turn given s.own.track s.other.track ≡ o → next_turn given s.own.track s.other.track ≡ None
    by_turn None is = is
    by_turn (Some turn) is = let one = count_less h given turn s is in absurd (omega (arith, le, one))

times_left : (n : ℕ) (h : Heading) (given : Given) (s : Scene) → count s ≤ n → next_turn given (read_times n h given s).own.track (read_times n h given s).other.track ≡ None
times_left zero h given s le = none_turn h given s le
times_left (suc n) h given s le = by_turn (times_left n h given (one_read h given s)) (next_turn given s.own.track s.other.track) refl
  where
    stays : (n : ℕ) → next_turn given s.own.track s.other.track ≡ None → read_times n h given s ≡ s
    stays zero is = refl
    stays (suc n) is = ap (read_times n h given) (ap (λ o. read_of h o s) is) ∙ stays n is

    by_turn : (count (one_read h given s) ≤ n
        → next_turn given (read_times n h given (one_read h given s)).own.track (read_times n h given (one_read h given s)).other.track ≡ None)
        → (o : Option Bool) → next_turn given s.own.track s.other.track ≡ o
        → next_turn given (read_times (suc n) h given s).own.track (read_times (suc n) h given s).other.track ≡ None
    by_turn rest None is = subst (λ (x : Scene). next_turn given x.own.track x.other.track ≡ None) (sym (stays (suc n) is)) is
    by_turn rest (Some turn) is =
        let one = count_less h given turn s is in
        let next : count (one_read h given s) ≡ count (read_of h (Some turn) s) = ap (λ o. count (read_of h o s)) is in
        rest (omega (arith, le, one, next))

pub settled_left : (h : Heading) (given : Given) (s : Scene) → next_turn given (settled h given s).own.track (settled h given s).other.track ≡ None
unfolding settled
settled_left h given s = times_left (count s) h given s (omega arith)

no_turn : (a b : Option ℕ) (line : ℕ) → (a ≡ Some line) ⊎ (b ≡ Some line) → first_line a b ≡ None → ⊥
no_turn None None line (inl at) is = (cc)
no_turn None None line (inr at) is = (cc)
no_turn None (Some b) line at is = (cc)
no_turn (Some a) None line at is = (cc)
no_turn (Some a) (Some b) line at is = (cc)

none_left : (h : Heading) (given : Given) (s : Scene) (line : ℕ) → let u = settled h given s in
    (readable u.own.track u.other.track given.other ≡ Some line) ⊎ (readable u.other.track u.own.track given.own ≡ Some line) → ⊥
none_left h given s line at =
    let u = settled h given s in no_turn (readable u.own.track u.other.track given.other) (readable u.other.track u.own.track given.own) line at (settled_left h given s)

own_left_none : (h : Heading) (given : Given) (s : Scene) (track : Track) (early : Early) → (settled h given s).own.track ≡ Some track
    → CanBeRead track (settled h given s).other.track given.other early → ⊥
own_left_none h given s track early at can =
    let behind = (settled h given s).other.track in none_left h given s early.item.line (inl (ap (λ o. readable o behind given.other) at ∙ can_so track behind given.other early can))

other_left_none : (h : Heading) (given : Given) (s : Scene) (track : Track) (early : Early) → (settled h given s).other.track ≡ Some track
    → CanBeRead track (settled h given s).own.track given.own early → ⊥
other_left_none h given s track early at can =
    let behind = (settled h given s).own.track in none_left h given s early.item.line (inr (ap (λ o. readable o behind given.own) at ∙ can_so track behind given.own early can))

all_ended : (h : Heading) (s : Scene) (track : Track) → ((both_ended h s).own.track ≡ Some track) ⊎ ((both_ended h s).other.track ≡ Some track) → track.early ≡ []
all_ended h s track (inl at) = own_left track (both_ended h s).own.track (both_ended h s).other.track at (both_left h s)
all_ended h s track (inr at) = other_left track (both_ended h s).own.track (both_ended h s).other.track at (both_left h s)

pub in_turn : KeptItemsAreReadInTurn
in_turn = record {
  can = own_can;
  can_behind = other_can;
  first = λ given own other a b can can'. (
    λ lt. turn_first given own other a b can can' ∙ ap Some (lt-ltb b.item.line a.item.line lt),
    λ le. turn_first given own other a b can can' ∙ ap Some (le-ltb b.item.line a.item.line le),
  );
  left = own_left_none;
  left_behind = other_left_none;
  ended = all_ended;
}
