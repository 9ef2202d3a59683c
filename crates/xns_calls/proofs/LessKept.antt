-- How what two flows keep is read, item by item.
use Rattle.std.proofs.Common.{◌≡◌, ◌∙◌, ap, sym, refl, arith, ℕ, zero, suc, ◌+◌, ◌<◌, ◌≤◌, Bool, true, false, cond, List, [], ◌∷◌, length, Option, Some, None}
use Rattle.std.specs.Prelude.{nat_lt, not, ◌&&◌}
use Rattle.std.proofs.lemmas.Bool.{ltb-false}
use Rattle.xns_calls.specs.Exchange.{Scene, in_flow, in_track, of_other, seen_from_other, told_of}
use Rattle.xns_calls.specs.Read.{kept_item_count, one_read, own_read, read_of, read_times, settled}
use Rattle.xns_calls.specs.Reading.{Told, first_read}
use Rattle.xns_calls.specs.Turns.{first_kept, first_line, waits_for_none, next_turn, readable, readable_first}
use Rattle.xns_calls.specs.declared.early.Early.{Early}
use Rattle.xns_calls.specs.declared.given.Given.{Given}
use Rattle.xns_calls.specs.declared.heading.Heading.{Heading}
use Rattle.xns_calls.specs.declared.track.Track.{Track}
use Rattle.xns_calls.proofs.Packets.{read_other}
use Rattle.xns_calls.proofs.Steps.{first_some, read_early, with_early}

-- ---- an item less is kept

first_due : (next : ℕ) (behind : Option Track) (given : ℕ) (e : Early) (rest : List Early) (line : ℕ) → readable_first next behind given (first_kept (e ∷ rest)) ≡ Some line → e.number ≤ next
first_due next behind given e rest line is = by_test (nat_lt next e.number) refl is
  where
    by_test : (p : Bool) → nat_lt next e.number ≡ p → cond (not p && waits_for_none behind given e.item.acknowledged) (Some e.item.line) None ≡ Some line → e.number ≤ next
    by_test true test is = (cc)
    by_test false test is = ltb-false next e.number test

less_in : (h : Heading) (given : ℕ) (o : Option Track) (line : ℕ) (s : Scene) → readable o s.other.track given ≡ Some line → kept_item_count o ≡ suc (kept_item_count (in_track (first_read h) o s).own.track)
less_in h given None line s is = (cc)
less_in h given (Some track) line s is = by_early track.early refl is
  where
    t : Told
    t = told_of track s

    by_early : (es : List Early) → track.early ≡ es → readable_first track.next s.other.track given (first_kept es) ≡ Some line → length track.early ≡ suc (length (first_read h t).track.early)
    by_early [] at is = (cc)
    by_early (e ∷ rest) at is =
        let left : (first_read h t).track.early ≡ rest =
        ap (λ (x : Told). x.track.early) (first_some h e rest t at (first_due track.next s.other.track given e rest line is)) ∙ read_early h e (with_early rest t) in
        ap length at ∙ ap (λ es. suc (length es)) (sym left)

less : (h : Heading) (given line : ℕ) (s : Scene) → readable s.own.track s.other.track given ≡ Some line → kept_item_count s.own.track ≡ suc (kept_item_count (own_read h s).own.track)
unfolding in_flow
less h given line s is = less_in h given s.own.track line s is

abbrev pub count : Scene → ℕ
count s = kept_item_count s.own.track + kept_item_count s.other.track

pub count_less : (h : Heading) (given : Given) (turn : Bool) (s : Scene) → next_turn given s.own.track s.other.track ≡ Some turn → count s ≡ suc (count (read_of h (Some turn) s))
count_less h given turn s is = by_lines (readable s.own.track s.other.track given.other) (readable s.other.track s.own.track given.own) turn refl refl is
  where
    own_less : (line : ℕ) → readable s.own.track s.other.track given.other ≡ Some line → count s ≡ suc (count (own_read h s))
    own_less line e =
        let one = less h given.other line s e in
        let same = ap kept_item_count (read_other h s) in omega (arith, one, same)

    other_less : (line : ℕ) → readable s.other.track s.own.track given.own ≡ Some line → count s ≡ suc (count (seen_from_other (own_read (of_other h) (seen_from_other s))))
    other_less line e =
        let one = less (of_other h) given.own line (seen_from_other s) e in
        let same = ap kept_item_count (read_other (of_other h) (seen_from_other s)) in omega (arith, one, same)

    by_lines : (a b : Option ℕ) (turn : Bool) → readable s.own.track s.other.track given.other ≡ a → readable s.other.track s.own.track given.own ≡ b → first_line a b ≡ Some turn → count s ≡ suc (count (read_of h (Some turn) s))
    by_lines None None turn ea eb is = (cc)
    by_lines (Some a) None false ea eb is = own_less a ea
    by_lines (Some a) None true ea eb is = (cc)
    by_lines None (Some b) true ea eb is = other_less b eb
    by_lines None (Some b) false ea eb is = (cc)
    by_lines (Some a) (Some b) false ea eb is = own_less a ea
    by_lines (Some a) (Some b) true ea eb is = other_less b eb

-- ---- reading on leads where all of it does

pub turn_settled : (h : Heading) (given : Given) (turn : Bool) (s : Scene) → next_turn given s.own.track s.other.track ≡ Some turn → settled h given (read_of h (Some turn) s) ≡ settled h given s
unfolding settled
turn_settled h given turn s is =
    let next : one_read h given s ≡ read_of h (Some turn) s = ap (λ o. read_of h o s) is in
    sym (ap (λ n. read_times n h given s) (count_less h given turn s is) ∙ ap (read_times (count (read_of h (Some turn) s)) h given) next)

times_end : (n : ℕ) (h : Heading) (given : Given) (s : Scene) → next_turn given s.own.track s.other.track ≡ None → read_times n h given s ≡ s
times_end zero h given s is = refl
times_end (suc n) h given s is = ap (read_times n h given) (ap (λ o. read_of h o s) is) ∙ times_end n h given s is

pub turn_end : (h : Heading) (given : Given) (s : Scene) → next_turn given s.own.track s.other.track ≡ None → settled h given s ≡ s
unfolding settled
turn_end h given s is = times_end (count s) h given s is

pub turn_smaller : (h : Heading) (given : Given) (turn : Bool) (s s' : Scene) → next_turn given s.own.track s.other.track ≡ Some turn → s' ≡ read_of h (Some turn) s → count s' < count s
turn_smaller h given turn s s' is e = let one = count_less h given turn s is in let same = ap count e in omega (arith, one, same)
