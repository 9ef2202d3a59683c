-- An item that comes next, waits for nothing and finds nothing kept is read where it lies.
use Rattle.std.proofs.Common.{◌≡◌, ◌∙◌, ap, sym, refl, subst, arith, ℕ, ◌+◌, ◌-◌, ◌==◌, Bool, true, false, cond, List, [], ◌∷◌, length, Option, Some, None, Result, Ok, Err}
use Rattle.std.specs.Prelude.{not, OnOk, ◌&&◌, ◌||◌}
use Rattle.std.specs.Option.{is_some}
use Rattle.std.specs.List.{list_any}
use Rattle.std.proofs.lemmas.Bool.Decides.{nat_tests}
use Rattle.std.proofs.lemmas.Bool.{and_parts, eqb-true, le-ltb, not-true}
use Rattle.xns_idp.specs.Packet.{PacketModel}
use Rattle.xns_spp.specs.Header.{is_system}
use Rattle.xns_spp.specs.Item.{item_with}
use Rattle.xns_spp.specs.declared.header.Header.{Header}
use Rattle.xns_calls.specs.Exchange.{Scene, advance_other, after_content, after_data, after_packet, after_told, begin_track, begun, brings_new, carried, in_flow, in_track, is_repeat, next_read, other_reached, own_reached, reached, scene, take_number, told_of, unless_repeat, up_to, wants_memory}
use Rattle.xns_calls.specs.Events.{after_events, captured_event}
use Rattle.xns_calls.specs.Numbers.{most_early, near}
use Rattle.xns_calls.specs.Queue.{kept, last_kept_number}
use Rattle.xns_calls.specs.Read.{alone_number, begins_first, comes_next, handled, is_alone, keeps_none, kept_item_count, read_of, read_once, read_times, settled}
use Rattle.xns_calls.specs.Reading.{Told, brought, first_read, item_read, item_taken, passed, read_next, with_kept_item}
use Rattle.xns_calls.specs.Turns.{first_kept, first_line, waits_for_none, next_turn, readable, readable_first}
use Rattle.xns_calls.specs.declared.carried.Carried.{Carried}
use Rattle.xns_calls.specs.declared.due.Due.{Due}
use Rattle.xns_calls.specs.declared.early.Early.{Early}
use Rattle.xns_calls.specs.declared.given.Given.{Given}
use Rattle.xns_calls.specs.declared.heading.Heading.{Heading}
use Rattle.xns_calls.specs.declared.side.Side.{Side}
use Rattle.xns_calls.specs.declared.track.Track.{Track}
use Rattle.xns_lines.specs.declared.page.Page.{Page}
use Rattle.xns_calls.proofs.Known.{new_ordered}
use Rattle.xns_calls.proofs.Ordered.{brought_same}
use Rattle.xns_calls.proofs.Packets.{content_events, none_own}
use Rattle.xns_calls.proofs.Wanted.{data_wants, no_number, none_brings}
use Rattle.xns_calls.proofs.Steps.{first_some, passed_same, with_early}

no_items : (es : List Early) → (length es == 0) ≡ true → es ≡ []
no_items [] test = refl
no_items (early ∷ es) test =
    let none : length (early ∷ es) ≡ 0 = grind (arith, nat_tests) in
    absurd (omega (arith, none))

-- nothing takes effect of a flow that keeps nothing
none_reached : (o : Option Track) (number : Option ℕ) → keeps_none o ≡ true → reached o number ≡ None
none_reached None number e = refl
none_reached (Some track) number e = ap (λ es. up_to (last_kept_number es) number) (no_items track.early e)

none_readable : (o behind : Option Track) (given : ℕ) → keeps_none o ≡ true → readable o behind given ≡ None
none_readable None behind given e = refl
none_readable (Some track) behind given e = ap (λ es. readable_first track.next behind given (first_kept es)) (no_items track.early e)

none_count : (o : Option Track) → keeps_none o ≡ true → kept_item_count o ≡ 0
none_count None e = refl
none_count (Some track) e = ap length (no_items track.early e)

other_same : (h : Heading) (number : Option ℕ) (s : Scene) → keeps_none s.other.track ≡ true → other_reached h number s ≡ s
unfolding other_reached
other_same h number s e = ap (λ o. advance_other h o s) (none_reached s.other.track number e)

-- the item is the only one that is kept
taken_once : (h : Heading) (n : ℕ) (item : Carried) (t : Told) → t.track.next ≡ n → t.track.early ≡ []
    → (after_events (captured_event h (Some n) item) t) ≡ with_early (record { number = n; item = item } ∷ []) t
taken_once h n item t at none =
    let old : is_repeat n t.track ≡ false =
    ap (λ p. p || list_any (λ (e : Early). e.number == n) t.track.early) (le-ltb n t.track.next (omega (arith, at))) ∙ ap (λ es. list_any (λ (e : Early). e.number == n) es) none in
    let same : brought h (n - most_early) t ≡ t = brought_same h (n - most_early) t (new_ordered t none) (omega (arith, at)) in
    ap (λ p. cond p t (item_taken h n item t)) old ∙ ap (with_kept_item n item) same ∙ ap (λ es. with_early es t) (ap (kept n item) none)

-- the only item that is kept is read, where it comes next
first_once : (h : Heading) (e : Early) (t : Told) → t.track.next ≡ e.number → t.track.early ≡ [] → first_read h (with_early (e ∷ []) t) ≡ read_next h (e.number + 1) e.item.item t
unfolding item_read
first_once h e t at none =
    let u : Told = with_early (e ∷ []) t in
    let left : with_early [] u ≡ t = ap (λ es. with_early es t) (sym none) in
    first_some h e [] u refl (omega (arith, at)) ∙ ap (λ x. read_next h (e.number + 1) e.item.item (passed h e.number x)) left
    ∙ ap (read_next h (e.number + 1) e.item.item) (passed_same h e.number t (omega (arith, at)))

settled_once : (h : Heading) (given : Given) (s : Scene) (track : Track) (e : Early) → track.next ≡ e.number → track.early ≡ [] → keeps_none s.other.track ≡ true → waits_for_none s.other.track given.other e.item.acknowledged ≡ true
    → settled h given (after_told (with_early (e ∷ []) (told_of track s)) s) ≡ after_told (read_next h (e.number + 1) e.item.item (told_of track s)) s
unfolding settled in_flow
settled_once h given s track e at none quiet free =
    let t = told_of track s in
    let x = after_told (with_early (e ∷ []) t) s in
    let few : kept_item_count x.own.track + kept_item_count x.other.track ≡ 1 = let c = none_count s.other.track quiet in omega (arith, c) in
    let line : readable x.own.track x.other.track given.other ≡ Some e.item.line =
    ap (λ p. cond (not p && waits_for_none s.other.track given.other e.item.acknowledged) (Some e.item.line) None) (le-ltb track.next e.number (omega (arith, at)))
    ∙ ap (λ p. cond p (Some e.item.line) None) free in
    let turn : next_turn given x.own.track x.other.track ≡ Some false =
    ap (λ o. first_line o (readable x.other.track x.own.track given.own)) line ∙ ap (first_line (Some e.item.line)) (none_readable s.other.track x.own.track given.own quiet) in
    ap (λ n. read_times n h given x) few ∙ ap (λ o. read_of h o x) turn ∙ ap (λ u. after_told u s) (first_once h e t at none)

pub once : (h : Heading) (due : Due) (packet : PacketModel) (f : Header) (content : List ℕ) (number : ℕ) (s : Scene) → comes_next due f s.own.track s.other.track ≡ Some number
    → handled h due packet f content s ≡ read_once h number f content s
unfolding next_read in_flow after_packet
once h due packet f content number s comes = by_track s.own.track refl comes
  where
    Goal : Option Track → Type 0
    Goal o = settled h due.given (own_reached h due.own (after_content h due.acknowledged packet f content (other_reached h due.other s))) ≡ in_track (read_next h (number + 1) (item_with f content)) o s

    at_once : (track : Track) → s.own.track ≡ Some track → near track.next f.sequence ≡ Some number → is_alone due f number track s.other.track ≡ true → Goal (Some track)
    at_once track is near_is e =
        let parts = and_parts ((not (is_system f) && not (is_some due.own)) && (number == track.next && length track.early == 0)) (keeps_none s.other.track && waits_for_none s.other.track due.given.other due.acknowledged) e in
        let front = and_parts (not (is_system f) && not (is_some due.own)) (number == track.next && length track.early == 0) parts.0 in
        let kind = and_parts (not (is_system f)) (not (is_some due.own)) front.0 in
        let first = and_parts (number == track.next) (length track.early == 0) front.1 in
        let others = and_parts (keeps_none s.other.track) (waits_for_none s.other.track due.given.other due.acknowledged) parts.1 in
        let none : track.early ≡ [] = no_items track.early first.1 in
        let at : track.next ≡ number = sym (eqb-true number track.next first.0) in
        let item = carried h due.acknowledged f content in
        let early : Early = record { number = number; item = item } in
        let t = told_of track s in
        let kept_now : after_content h due.acknowledged packet f content s ≡ after_told (with_early (early ∷ []) t) s =
        content_events h due.acknowledged packet f content s track is
        ∙ ap (λ p. after_told (after_events (cond p [] (captured_event h (near track.next f.sequence) item)) t) s) (not-true (is_system f) kind.0)
        ∙ ap (λ o. after_told (after_events (captured_event h o item) t) s) near_is
        ∙ ap (λ u. after_told u s) (taken_once h number item t at none) in
        ap (λ x. settled h due.given (own_reached h due.own (after_content h due.acknowledged packet f content x))) (other_same h due.other s others.0)
        ∙ ap (λ x. settled h due.given (own_reached h due.own x)) kept_now
        ∙ ap (λ o. settled h due.given (own_reached h o (after_told (with_early (early ∷ []) t) s))) (no_number due.own (not-true (is_some due.own) kind.1))
        ∙ ap (settled h due.given) (none_own h (after_told (with_early (early ∷ []) t) s))
        ∙ settled_once h due.given s track early at none others.0 others.1

    by_alone : (track : Track) → s.own.track ≡ Some track → (n : ℕ) → near track.next f.sequence ≡ Some n → (p : Bool) → is_alone due f n track s.other.track ≡ p → cond p (Some n) None ≡ Some number → Goal (Some track)
    by_alone track is n near_is false e some = (cc)
    by_alone track is n near_is true e some =
        let same : n ≡ number = (cc) in
        at_once track is (near_is ∙ ap Some same) (subst (λ m. is_alone due f m track s.other.track ≡ true) same e)

    by_near : (track : Track) → s.own.track ≡ Some track → (o : Option ℕ) → near track.next f.sequence ≡ o → alone_number due f o track s.other.track ≡ Some number → Goal (Some track)
    by_near track is None near_is e = (cc)
    by_near track is (Some n) near_is e = by_alone track is n near_is (is_alone due f n track s.other.track) refl e

    by_track : (o : Option Track) → s.own.track ≡ o → comes_next due f o s.other.track ≡ Some number → Goal o
    by_track None is e = (cc)
    by_track (Some track) is e = by_near track is (near track.next f.sequence) refl e

pub on_ok_once : {T E : Type 0} (r : Result T E) (h : Heading) (due : Due) (packet : PacketModel) (f : Header) (content : List ℕ) (number : ℕ) (s u : Scene) → comes_next due f s.own.track s.other.track ≡ Some number
    → OnOk r (u ≡ read_once h number f content s) → OnOk r (u ≡ handled h due packet f content s)
on_ok_once (Ok x) h due packet f content number s u comes e = e ∙ sym (once h due packet f content number s comes)
on_ok_once (Err x) h due packet f content number s u comes e = tt

-- an item that is told at once is no repeat
pub once_wants : (due : Due) (f : Header) (number : ℕ) (own other : Side) (page : Page) → comes_next due f own.track other.track ≡ Some number → wants_memory due f (scene own other page) ≡ true
once_wants due f number own other page comes = by_track own.track refl comes
  where
    wanted : (track : Track) → own.track ≡ Some track → near track.next f.sequence ≡ Some number → is_alone due f number track other.track ≡ true → wants_memory due f (scene own other page) ≡ true
    wanted track is near_is e =
        let parts = and_parts ((not (is_system f) && not (is_some due.own)) && (number == track.next && length track.early == 0)) (keeps_none other.track && waits_for_none other.track due.given.other due.acknowledged) e in
        let front = and_parts (not (is_system f) && not (is_some due.own)) (number == track.next && length track.early == 0) parts.0 in
        let kind = and_parts (not (is_system f)) (not (is_some due.own)) front.0 in
        let first = and_parts (number == track.next) (length track.early == 0) front.1 in
        let none : track.early ≡ [] = no_items track.early first.1 in
        let at : track.next ≡ number = sym (eqb-true number track.next first.0) in
        let old : is_repeat number track ≡ false =
        ap (λ p. p || list_any (λ (x : Early). x.number == number) track.early) (le-ltb number track.next (omega (arith, at))) ∙ ap (λ es. list_any (λ (x : Early). x.number == number) es) none in
        let new : brings_new own.track f.sequence ≡ true =
        ap (λ o. brings_new o f.sequence) is ∙ ap (λ o. is_some (unless_repeat track o)) near_is ∙ ap (λ p. is_some (cond p None (Some number))) old in
        data_wants due f own other page (not-true (is_system f) kind.0) new

    by_alone : (track : Track) → own.track ≡ Some track → (n : ℕ) → near track.next f.sequence ≡ Some n → (p : Bool) → is_alone due f n track other.track ≡ p → cond p (Some n) None ≡ Some number → wants_memory due f (scene own other page) ≡ true
    by_alone track is n near_is false e some = (cc)
    by_alone track is n near_is true e some =
        let same : n ≡ number = (cc) in
        wanted track is (near_is ∙ ap Some same) (subst (λ m. is_alone due f m track other.track ≡ true) same e)

    by_near : (track : Track) → own.track ≡ Some track → (o : Option ℕ) → near track.next f.sequence ≡ o → alone_number due f o track other.track ≡ Some number → wants_memory due f (scene own other page) ≡ true
    by_near track is None near_is e = (cc)
    by_near track is (Some n) near_is e = by_alone track is n near_is (is_alone due f n track other.track) refl e

    by_track : (o : Option Track) → own.track ≡ o → comes_next due f o other.track ≡ Some number → wants_memory due f (scene own other page) ≡ true
    by_track None is e = (cc)
    by_track (Some track) is e = by_near track is (near track.next f.sequence) refl e

-- ---- a flow that begins

begun_twice : (h : Heading) (packet : PacketModel) (f : Header) (s : Scene) → begun h packet f (begun h packet f s) ≡ begun h packet f s
unfolding begun
begun_twice h packet f s = by_track s.own.track refl
  where
    by_track : (o : Option Track) → s.own.track ≡ o → begin_track h packet f (begin_track h packet f o s).own.track (begin_track h packet f o s) ≡ begin_track h packet f o s
    by_track None is = refl
    by_track (Some track) is = ap (λ x. begin_track h packet f x s) is

begun_other : (h : Heading) (packet : PacketModel) (f : Header) (s : Scene) → (begun h packet f s).other.track ≡ s.other.track
unfolding begun
begun_other h packet f s = by_track s.own.track
  where
    by_track : (o : Option Track) → (begin_track h packet f o s).other.track ≡ s.other.track
    by_track None = refl
    by_track (Some track) = refl

-- where the flow behind keeps nothing, it can begin before that is brought on
begun_first : (h : Heading) (due : Due) (packet : PacketModel) (f : Header) (content : List ℕ) (s : Scene) → is_system f ≡ false → keeps_none s.other.track ≡ true
    → handled h due packet f content (begun h packet f s) ≡ handled h due packet f content s
unfolding after_packet after_content after_data
begun_first h due packet f content s plain quiet =
    let a = due.acknowledged in
    let b = begun h packet f s in
    let item = carried h a f content in
    let finish : Scene → Scene = λ x. settled h due.given (own_reached h due.own x) in
    ap (λ x. finish (cond (is_system f) x (take_number h f item (begun h packet f x)))) (other_same h due.other b (ap keeps_none (begun_other h packet f s) ∙ quiet))
    ∙ ap (λ p. finish (cond p b (take_number h f item (begun h packet f b)))) plain
    ∙ ap (λ x. finish (take_number h f item x)) (begun_twice h packet f s)
    ∙ sym (ap (λ p. finish (cond p s (take_number h f item (begun h packet f s)))) plain)
    ∙ sym (ap (λ x. finish (cond (is_system f) x (take_number h f item (begun h packet f x)))) (other_same h due.other s quiet))

pub on_ok_begun : {T E : Type 0} (r : Result T E) (h : Heading) (due : Due) (packet : PacketModel) (f : Header) (content : List ℕ) (s b u : Scene) → begins_first f s.own.track s.other.track ≡ true
    → b ≡ begun h packet f s → OnOk r (u ≡ handled h due packet f content b) → OnOk r (u ≡ handled h due packet f content s)
on_ok_begun (Ok x) h due packet f content s b u first is e =
    let both = and_parts (not (is_system f) && not (is_some s.own.track)) (keeps_none s.other.track) first in
    let kind = and_parts (not (is_system f)) (not (is_some s.own.track)) both.0 in
    e ∙ ap (handled h due packet f content) is ∙ begun_first h due packet f content s (not-true (is_system f) kind.0) both.1
on_ok_begun (Err x) h due packet f content s b u first is e = tt

-- a data packet that begins its flow wants memory
pub first_wants : (due : Due) (f : Header) (own other : Side) (page : Page) → begins_first f own.track other.track ≡ true → wants_memory due f (scene own other page) ≡ true
first_wants due f own other page first =
    let both = and_parts (not (is_system f) && not (is_some own.track)) (keeps_none other.track) first in
    let kind = and_parts (not (is_system f)) (not (is_some own.track)) both.0 in
    data_wants due f own other page (not-true (is_system f) kind.0) (none_brings own f.sequence (not_begun own.track (not-true (is_some own.track) kind.1)))
  where
    not_begun : (o : Option Track) → is_some o ≡ false → o ≡ None
    not_begun None e = refl
    not_begun (Some track) e = (cc)
