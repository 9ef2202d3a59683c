-- What a data packet does is the event of its item.
use Rattle.std.proofs.Common.{◌≡◌, ◌∙◌, ap, sym, refl, subst, ℕ, ◌-◌, Bool, true, false, cond, Option, Some, None}
use Rattle.xns_spp.specs.declared.header.Header.{Header}
use Rattle.xns_calls.specs.declared.carried.Carried.{Carried}
use Rattle.xns_calls.specs.declared.heading.Heading.{Heading}
use Rattle.xns_calls.specs.declared.track.Track.{Track}
use Rattle.xns_calls.specs.Events.{after_event, captured}
use Rattle.xns_calls.specs.Exchange.{Scene, after_new, after_number, after_told, in_flow, is_repeat, new_number, take_number, told_of, unless_repeat}
use Rattle.xns_calls.specs.Numbers.{most_early, near}
use Rattle.xns_calls.specs.Reading.{brought}
use Rattle.xns_calls.proofs.Known.{with_item}

-- ---- what a data packet does is an event

at_side : (h : Heading) (p : Bool) (number : ℕ) (item : Carried) (track : Track) (s : Scene) → s.own.track ≡ Some track
    → after_number h (cond p None (Some number)) item s ≡ after_told (cond p (told_of track s) (with_item number item (brought h (number - most_early) (told_of track s)))) s
unfolding after_new in_flow
at_side h p number item track s e = subst (At p) (sym e) (both p)
  where
    with_track : Option Track → Scene
    with_track o = record s { own = record s.own { track = o } }

    At : Bool → Option Track → Type 0
    At q o = after_number h (cond q None (Some number)) item (with_track o)
        ≡ after_told (cond q (told_of track (with_track o)) (with_item number item (brought h (number - most_early) (told_of track (with_track o))))) (with_track o)

    both : (q : Bool) → At q (Some track)
    both true = refl
    both false = refl

pub item_event : (h : Heading) (f : Header) (item : Carried) (s : Scene) (track : Track) (number : ℕ) → s.own.track ≡ Some track → near track.next f.sequence ≡ Some number
    → take_number h f item s ≡ after_told (after_event (captured h number item) (told_of track s)) s
item_event h f item s track number e at =
    let named : new_number s.own.track f.sequence ≡ cond (is_repeat number track) None (Some number) = ap (λ o. new_number o f.sequence) e ∙ ap (unless_repeat track) at in
    ap (λ o. after_number h o item s) named ∙ at_side h (is_repeat number track) number item track s e
