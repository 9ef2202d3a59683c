-- What is read of one flow, where both are seen.
use Rattle.std.proofs.Common.{◌≡◌, ◌∙◌, ap, sym, refl, subst, arith, ℕ, ◌+◌, ◌<◌, ◌≤◌, ◌==◌, cond, List, [], ◌∷◌, ◌++◌, length, map, Option, Some, None}
use Rattle.std.specs.Prelude.{◌-◌}
use Rattle.courier_messages.specs.Phases.{run, said}
use Rattle.courier_messages.specs.Text.{byte, end_of, foreign, signs}
use Rattle.xns_spp.specs.declared.item.Item.{Item}
use Rattle.xns_calls.specs.Exchange.{Scene, advanced, after_new, after_told, in_flow, in_track, items_of, keeping, next_of, next_read, told_of, with_items}
use Rattle.xns_calls.specs.Numbers.{most_early}
use Rattle.xns_calls.specs.Queue.{HasNoDue, HasNoneBelow, IsFirstBelow, IsFirstDue}
use Rattle.xns_calls.specs.Read.{own_read}
use Rattle.xns_calls.specs.Reading.{Told, after_heard, brought, first_read, item_read, passed, read_next, said_item, with_kept_item}
use Rattle.xns_calls.specs.Speech.{behind, heard_at, heard_of, speech_after, speech_at}
use Rattle.xns_calls.specs.declared.carried.Carried.{Carried}
use Rattle.xns_calls.specs.declared.early.Early.{Early}
use Rattle.xns_calls.specs.declared.heading.Heading.{Heading}
use Rattle.xns_calls.specs.declared.heard.Heard.TheVariants as heard
use Rattle.xns_calls.specs.declared.speech.Speech.{Speech}
use Rattle.xns_calls.specs.declared.speech.Speech.TheVariants.{Waiting, Hearing}
use Rattle.xns_calls.specs.declared.track.Track.{Track}
use Rattle.xns_calls.proofs.Packets.{put_back}
use Rattle.xns_calls.proofs.Steps.{brought_end, brought_first, first_none, first_some, read_early, with_early}

-- ---- what is read of a flow, in two steps

-- something is read, and then more
then_more : (reads more : Told → Told) (s : Scene) → in_flow more (in_flow reads s) ≡ in_flow (λ t. more (reads t)) s
unfolding in_flow
then_more reads more s = by_track s.own.track refl
  where
    by_track : (o : Option Track) → s.own.track ≡ o → in_track more (in_track reads o s).own.track (in_track reads o s) ≡ in_track (λ t. more (reads t)) o s
    by_track None at = ap (λ o. in_track more o s) at
    by_track (Some track) at = refl

-- what is not there is passed over, and then the item is read
pub passed_and_read : (h : Heading) (early : Early) (s : Scene)
    → next_read h (early.number + 1) early.item.item (in_flow (passed h early.number) s) ≡ in_flow (item_read h early) s
unfolding next_read item_read
passed_and_read h early s = then_more (passed h early.number) (read_next h (early.number + 1) early.item.item) s

-- the flow is brought so far that the item is within reach, and then it is kept
pub brought_and_kept : (h : Heading) (number : ℕ) (item : Carried) (s : Scene)
    → in_flow (with_kept_item number item) (in_flow (brought h (number - most_early)) s) ≡ after_new h number item s
unfolding after_new
brought_and_kept h number item s = then_more (brought h (number - most_early)) (with_kept_item number item) s

-- ---- whether an item is marked for attention says nothing

signs_alike : (x y : Item) → x.stream ≡ y.stream → x.last ≡ y.last → x.body ≡ y.body → signs x ≡ signs y
signs_alike x y stream last body =
    ap (λ n. cond (n == 0) (map byte x.body ++ end_of x.last) (foreign n ∷ [])) stream
    ∙ ap (λ l. cond (y.stream == 0) (map byte x.body ++ end_of l) (foreign y.stream ∷ [])) last
    ∙ ap (λ bytes. cond (y.stream == 0) (map byte bytes ++ end_of y.last) (foreign y.stream ∷ [])) body

said_alike : (h : Heading) (x y : Item) (t : Told) → signs x ≡ signs y → x.last ≡ y.last → said_item h x t ≡ said_item h y t
unfolding said_item
said_alike h x y t same last = by_speech t.track.speech
  where
    saying : Speech → Told
    saying speech = record t { track = record t.track { speech = speech } }

    by_speech : (speech : Speech) → after_heard h (heard_of speech x) (saying (speech_after speech x)) ≡ after_heard h (heard_of speech y) (saying (speech_after speech y))
    by_speech Waiting = ap (λ l. after_heard h heard.Nothing (saying (behind l))) last
    by_speech (Hearing phase) =
        ap (λ text. after_heard h (heard_at (said phase text) (run phase text)) (saying (speech_at x.last (run phase text)))) same
        ∙ ap (λ l. after_heard h (heard_at (said phase (signs y)) (run phase (signs y))) (saying (speech_at l (run phase (signs y))))) last

pub read_alike : (h : Heading) (next : ℕ) (x y : Item) (s : Scene) → x.stream ≡ y.stream → x.last ≡ y.last → x.body ≡ y.body → next_read h next x s ≡ next_read h next y s
unfolding next_read in_flow
read_alike h next x y s stream last body = by_track s.own.track
  where
    onwards : Track → Told
    onwards track = record (told_of track s) { track = record track { next = next } }

    by_track : (o : Option Track) → in_track (read_next h next x) o s ≡ in_track (read_next h next y) o s
    by_track None = refl
    by_track (Some track) =
        ap (λ n. after_told (cond (n == 0) (said_item h x (onwards track)) (onwards track)) s) stream
        ∙ ap (λ u. after_told (cond (y.stream == 0) u (onwards track)) s) (said_alike h x y (onwards track) (signs_alike x y stream last body) last)

-- ---- the first item that a flow keeps

abbrev pub without_first : Scene → List Early → Scene
without_first s rest = record s { own = with_items rest s.own }

-- the first item is taken out, and what is done then does what is done to all
taken_out : (does reads : Told → Told) (early : Early) (rest : List Early) (s : Scene) → items_of s.own.track ≡ early ∷ rest
    → ((t : Told) → s.own.track ≡ Some t.track → does (with_early rest t) ≡ reads t) → in_flow does (without_first s rest) ≡ in_flow reads s
unfolding in_flow
taken_out does reads early rest s first same = by_track s.own.track refl first
  where
    by_track : (o : Option Track) → s.own.track ≡ o → items_of o ≡ early ∷ rest → in_track does (keeping rest o) (without_first s rest) ≡ in_track reads o s
    by_track None at is = (cc)
    by_track (Some track) at is = ap (λ u. after_told u s) (same (told_of track s) at)

-- an item below the number is read: the rest leads where all of it does
pub first_brought : (h : Heading) (n : ℕ) (early : Early) (s s' : Scene) → IsFirstBelow n early (items_of s.own.track) (items_of s'.own.track)
    → s' ≡ without_first s (items_of s'.own.track) → advanced h n (in_flow (item_read h early) s') ≡ advanced h n s
first_brought h n early s s' is taken =
    let rest = items_of s'.own.track in
    let does : Told → Told = λ t. brought h n (item_read h early t) in
    then_more (item_read h early) (brought h n) s' ∙ ap (in_flow does) taken
    ∙ taken_out does (brought h n) early rest s is.first
    (λ t at. brought_first h n early rest t (item_read h early (with_early rest t)) (sym (ap items_of at) ∙ is.first) is.below refl)

-- an item less is kept then
pub item_less : (h : Heading) (n : ℕ) (early : Early) (s s' s'' : Scene) → IsFirstBelow n early (items_of s.own.track) (items_of s'.own.track)
    → s'' ≡ in_flow (item_read h early) s' → length (items_of s''.own.track) < length (items_of s.own.track)
unfolding in_flow
item_less h n early s s' s'' is read =
    let left : length (items_of s''.own.track) ≡ length (items_of s'.own.track) = ap (λ (x : Scene). length (items_of x.own.track)) read ∙ by_track s'.own.track refl in
    let all = ap length is.first in omega (arith, left, all)
  where
    by_track : (o : Option Track) → s'.own.track ≡ o → length (items_of (in_track (item_read h early) o s').own.track) ≡ length (items_of s'.own.track)
    by_track None at = refl
    by_track (Some track) at = ap length (read_early h early (told_of track s') ∙ sym (ap items_of at))

-- where none is below the number, what is not kept is passed over
pub none_below : (h : Heading) (n : ℕ) (s : Scene) → HasNoneBelow n (items_of s.own.track) → in_flow (passed h n) s ≡ advanced h n s
unfolding in_flow
none_below h n s none = by_track s.own.track none
  where
    by_track : (o : Option Track) → HasNoneBelow n (items_of o) → in_track (passed h n) o s ≡ in_track (brought h n) o s
    by_track None none = refl
    by_track (Some track) none = ap (λ u. after_told u s) (sym (brought_end h n (told_of track s) none))

-- the first item comes next, and is read
pub next_taken : (h : Heading) (early : Early) (s s' : Scene) → IsFirstDue (next_of s.own.track) early (items_of s.own.track) (items_of s'.own.track)
    → s' ≡ without_first s (items_of s'.own.track) → in_flow (item_read h early) s' ≡ own_read h s
next_taken h early s s' is taken =
    let rest = items_of s'.own.track in
    ap (in_flow (item_read h early)) taken
    ∙ taken_out (item_read h early) (first_read h) early rest s is.first
    (λ t at. sym (first_some h early rest t (sym (ap items_of at) ∙ is.first) (subst (λ o. early.number ≤ next_of o) at is.due)))

-- where none comes next, nothing is read
pub none_next : (h : Heading) (s : Scene) → HasNoDue (next_of s.own.track) (items_of s.own.track) → own_read h s ≡ s
unfolding in_flow
none_next h s none = by_track s.own.track refl none
  where
    by_track : (o : Option Track) → s.own.track ≡ o → HasNoDue (next_of o) (items_of o) → in_track (first_read h) o s ≡ s
    by_track None at none = refl
    by_track (Some track) at none = ap (λ u. after_told u s) (first_none h (told_of track s) none) ∙ put_back s track at
