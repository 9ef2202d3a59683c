-- What an end's own steps do to the world.
use Rattle.std.proofs.Common.{◌≡◌, ◌∙◌, ap, sym, refl, subst, ℕ, zero, suc, true, false, List, [], ◌∷◌, ◌++◌, append-nil, append_assoc, map, length, Some}
use Rattle.std.specs.Prelude.{slice_get, slice_set, is_ok}
use Rattle.std.specs.Option.{option_to_list}
use Rattle.std.proofs.lemmas.List.{map-append}
use Rattle.std.proofs.lemmas.Option.{get_or_from_slice_get, slice_get_within}
use Rattle.xns_spp.specs.Fronts.{last_of}
use Rattle.xns_spp.specs.Growth.{Begins}
use Rattle.xns_spp.specs.Item.{IsItem, IsShortItem}
use Rattle.xns_spp.specs.Sending.{send_answer, after_send, after_take, flush_answer, after_flush}
use Rattle.xns_spp.specs.State.{State, IsState}
use Rattle.xns_spp.specs.Telling.{resend_answer, after_resend, told_answer}
use Rattle.xns_spp.specs.declared.item.Item.{Item}
use Rattle.item_world.specs.EndLaws.{EndLaws}
use Rattle.item_world.specs.Events.{SmallStep, IsStep, stepped, sending, taking, flushing, resending, telling}
use Rattle.item_world.specs.Invariant.{Holds}
use Rattle.item_world.specs.Laws.{EachStepKeepsTheOrder}
use Rattle.item_world.specs.Side.{other}
use Rattle.item_world.specs.World.{World, end_at, moved, moment, emitted, sent_packets, sender_and_bytes, sends}
use Rattle.item_world.specs.declared.emitted.Emitted.{Emitted}
use Rattle.item_world.specs.declared.moment.Moment.{Moment}
use Rattle.item_world.specs.declared.side.Side.{Side}
use Rattle.xns_connection.specs.Story.{Runs, start, sends as accepts, takes, flushes, resends, tells, made_on}
use Rattle.item_world.proofs.Fronts.{begins_get, front_get}
use Rattle.item_world.proofs.Sides.{moved_nowhere, same_end, same_other}
use Rattle.host_world.specs.Meeting.{led}
use Rattle.host_world.specs.Pairing.{AreKept}

-- ---- one move

abbrev pub by : Side → List ℕ → Side × List ℕ
by side bytes = (side, bytes)

sent_by : (side : Side) (at : Moment) (bs : List (List ℕ)) → map sender_and_bytes (map (emitted side at) bs) ≡ map (by side) bs
sent_by side at [] = refl
sent_by side at (b ∷ bs) = ap (λ (l : List (Side × List ℕ)). (side, b) ∷ l) (sent_by side at bs)

pub moved_bag : (w : World) (side : Side) (s : State) (bs : List (List ℕ)) → sent_packets (moved w side s bs) ≡ sent_packets w ++ map (by side) bs
moved_bag w side s bs =
    let at : Moment = moment s (end_at w (other side)) in
    map-append sender_and_bytes w.bag (map (emitted side at) bs) ∙ ap (λ (l : List (Side × List ℕ)). sent_packets w ++ l) (sent_by side at bs)

-- ---- the world after all steps of an end

pub led_end : (w : World) (side : Side) {s v : State} (p : Runs s v) → end_at w side ≡ s → end_at (led w side p) side ≡ v
led_end w side start e = e
led_end w side (accepts p x) e = let u : World = led w side p in same_end u side (after_send (end_at u side) x) [] ∙ ap (λ (s : State). after_send s x) (led_end w side p e)
led_end w side (takes p) e = let u : World = led w side p in same_end u side (after_take (end_at u side)) [] ∙ ap after_take (led_end w side p e)
led_end w side (flushes p) e = let u : World = led w side p in same_end u side (after_flush (end_at u side)) (flush_answer (end_at u side)) ∙ ap after_flush (led_end w side p e)
led_end w side (resends p) e = let u : World = led w side p in same_end u side (after_resend (end_at u side)) (option_to_list (resend_answer (end_at u side))) ∙ ap after_resend (led_end w side p e)
led_end w side (tells p asks) e = let u : World = led w side p in same_end u side (end_at u side) (option_to_list (told_answer (end_at u side) asks)) ∙ led_end w side p e

pub led_other : (w : World) (side : Side) {s v : State} (p : Runs s v) → end_at (led w side p) (other side) ≡ end_at w (other side)
led_other w side start = refl
led_other w side (accepts p x) = let u : World = led w side p in same_other u side (after_send (end_at u side) x) [] ∙ led_other w side p
led_other w side (takes p) = let u : World = led w side p in same_other u side (after_take (end_at u side)) [] ∙ led_other w side p
led_other w side (flushes p) = let u : World = led w side p in same_other u side (after_flush (end_at u side)) (flush_answer (end_at u side)) ∙ led_other w side p
led_other w side (resends p) = let u : World = led w side p in same_other u side (after_resend (end_at u side)) (option_to_list (resend_answer (end_at u side))) ∙ led_other w side p
led_other w side (tells p asks) = let u : World = led w side p in same_other u side (end_at u side) (option_to_list (told_answer (end_at u side) asks)) ∙ led_other w side p

-- ---- the bag has what was made on the way

abbrev Sent : Type 0
Sent = List (Side × List ℕ)

more_made : (before now base : Sent) (side : Side) (made bs cs : List (List ℕ)) → now ≡ before ++ map (by side) bs → before ≡ base ++ map (by side) made → bs ≡ cs → now ≡ base ++ map (by side) (made ++ cs)
more_made before now base side made bs cs one some same =
    one ∙ ap (λ (l : Sent). l ++ map (by side) bs) some ∙ append_assoc base (map (by side) made) (map (by side) bs)
    ∙ ap (λ (l : Sent). base ++ l) (sym (map-append (by side) made bs) ∙ ap (λ (l : List (List ℕ)). map (by side) (made ++ l)) same)

none_made : (before now base : Sent) (side : Side) (made : List (List ℕ)) → now ≡ before ++ [] → before ≡ base ++ map (by side) made → now ≡ base ++ map (by side) made
none_made before now base side made one some = one ∙ append-nil before ∙ some

pub led_bag : (w : World) (side : Side) {s v : State} (p : Runs s v) → end_at w side ≡ s → sent_packets (led w side p) ≡ sent_packets w ++ map (by side) (made_on p)
led_bag w side start e = sym (append-nil (sent_packets w))
led_bag w side (accepts p x) e =
    let u : World = led w side p in
    none_made (sent_packets u) (sent_packets (led w side (accepts p x))) (sent_packets w) side (made_on p) (moved_bag u side (after_send (end_at u side) x) []) (led_bag w side p e)
led_bag w side (takes p) e =
    let u : World = led w side p in
    none_made (sent_packets u) (sent_packets (led w side (takes p))) (sent_packets w) side (made_on p) (moved_bag u side (after_take (end_at u side)) []) (led_bag w side p e)
led_bag w side (flushes {v = v} p) e =
    let u : World = led w side p in
    more_made (sent_packets u) (sent_packets (led w side (flushes p))) (sent_packets w) side (made_on p) (flush_answer (end_at u side)) (flush_answer v)
    (moved_bag u side (after_flush (end_at u side)) (flush_answer (end_at u side))) (led_bag w side p e) (ap flush_answer (led_end w side p e))
led_bag w side (resends {v = v} p) e =
    let u : World = led w side p in
    more_made (sent_packets u) (sent_packets (led w side (resends p))) (sent_packets w) side (made_on p) (option_to_list (resend_answer (end_at u side))) (option_to_list (resend_answer v))
    (moved_bag u side (after_resend (end_at u side)) (option_to_list (resend_answer (end_at u side)))) (led_bag w side p e) (ap (λ (s : State). option_to_list (resend_answer s)) (led_end w side p e))
led_bag w side (tells {v = v} p asks) e =
    let u : World = led w side p in
    more_made (sent_packets u) (sent_packets (led w side (tells p asks))) (sent_packets w) side (made_on p) (option_to_list (told_answer (end_at u side) asks)) (option_to_list (told_answer v asks))
    (moved_bag u side (end_at u side) (option_to_list (told_answer (end_at u side) asks))) (led_bag w side p e) (ap (λ (s : State). option_to_list (told_answer s asks)) (led_end w side p e))

-- ---- what was made is kept

pub kept_itself : (bag : List Emitted) → AreKept bag bag
kept_itself bag = record { each = λ k x e. (x, e, refl) }

pub kept_then : (xs ys zs : List Emitted) → AreKept xs ys → AreKept ys zs → AreKept xs zs
kept_then xs ys zs p q = record {
  each = λ k x e.
      let one = p.each k x e in
      let two = q.each k one.0 one.1 in
      (two.0, two.1, two.2 ∙ ap (λ (y : Emitted). let z : Emitted = record y { delivered = two.0.delivered } in z) one.2);
}

kept_in_front : (xs ys : List Emitted) → AreKept xs (xs ++ ys)
kept_in_front xs ys = record { each = λ k x e. (x, front_get xs ys k x e, refl) }

pub kept_moved : (w : World) (side : Side) (s : State) (bs : List (List ℕ)) → AreKept w.bag (moved w side s bs).bag
kept_moved w side s bs = kept_in_front w.bag (map (emitted side (moment s (end_at w (other side)))) bs)

pub led_kept : (w : World) (side : Side) {s v : State} (p : Runs s v) → AreKept w.bag (led w side p).bag
led_kept w side start = kept_itself w.bag
led_kept w side (accepts p x) = let u : World = led w side p in kept_then w.bag u.bag (moved u side (after_send (end_at u side) x) []).bag (led_kept w side p) (kept_moved u side (after_send (end_at u side) x) [])
led_kept w side (takes p) = let u : World = led w side p in kept_then w.bag u.bag (moved u side (after_take (end_at u side)) []).bag (led_kept w side p) (kept_moved u side (after_take (end_at u side)) [])
led_kept w side (flushes p) =
    let u : World = led w side p in
    let bs = flush_answer (end_at u side) in
    kept_then w.bag u.bag (moved u side (after_flush (end_at u side)) bs).bag (led_kept w side p) (kept_moved u side (after_flush (end_at u side)) bs)
led_kept w side (resends p) =
    let u : World = led w side p in
    let bs = option_to_list (resend_answer (end_at u side)) in
    kept_then w.bag u.bag (moved u side (after_resend (end_at u side)) bs).bag (led_kept w side p) (kept_moved u side (after_resend (end_at u side)) bs)
led_kept w side (tells p asks) =
    let u : World = led w side p in
    let bs = option_to_list (told_answer (end_at u side) asks) in
    kept_then w.bag u.bag (moved u side (end_at u side) bs).bag (led_kept w side p) (kept_moved u side (end_at u side) bs)

kept_first : (x y : Emitted) (xs ys : List Emitted) → y ≡ record x { delivered = y.delivered } → AreKept xs ys → AreKept (x ∷ xs) (y ∷ ys)
kept_first x y xs ys same rest = record { each = each } where
  each : (k : ℕ) (z : Emitted) → slice_get (x ∷ xs) k ≡ Some z → (u : Emitted) × (slice_get (y ∷ ys) k ≡ Some u) × (u ≡ record z { delivered = u.delivered })
  each zero z e =
      let is : x ≡ z = cc in
      (y, refl, same ∙ ap (λ (u : Emitted). let v : Emitted = record u { delivered = y.delivered } in v) is)
  each (suc k) z e = rest.each k z e

-- a packet that came is marked as delivered, and kept
pub kept_marked : (bag : List Emitted) (k : ℕ) (x : Emitted) → slice_get bag k ≡ Some x → AreKept bag (slice_set bag k (record x { delivered = true }))
kept_marked [] k x at = kept_itself []
kept_marked (b ∷ bag) zero x at =
    let is : b ≡ x = cc in
    kept_first b (record x { delivered = true }) bag bag (ap (λ (u : Emitted). let v : Emitted = record u { delivered = true } in v) (sym is)) (kept_itself bag)
kept_marked (b ∷ bag) (suc k) x at = kept_first b b bag (slice_set bag k (record x { delivered = true })) refl (kept_marked bag k x at)

-- ---- what is true at every moment stays so

-- the accepted items have numbers within their types' bounds
abbrev AreItems : State → Type 0
AreItems s = (k : ℕ) (x : Item) → slice_get s.accepted k ≡ Some x → IsItem x

pub are_items : (s : State) → IsState s → AreItems s
are_items s fits k x is = let i : IsShortItem x = subst IsShortItem (get_or_from_slice_get s.accepted k x x is) (fits.items k x (slice_get_within s.accepted k x is)) in i.fits

-- as far as a step only accepts more
fewer_items : (s v : State) → Begins s.accepted v.accepted → AreItems v → AreItems s
fewer_items s v b items k x is = items k x (begins_get s.accepted v.accepted k x b is)

same_begins : (s v : State) → v.accepted ≡ s.accepted → Begins s.accepted v.accepted
same_begins s v e = ([], append-nil s.accepted ∙ sym e)

-- what each small step keeps is true after all of them
pub led_keeps : EndLaws → (P : World → Type 0) → ((w : World) (s : SmallStep) → IsStep s → P w → P (stepped w s)) → (w : World) (side : Side) {s v : State} (p : Runs s v) → end_at w side ≡ s → AreItems v → P w → P (led w side p)
led_keeps laws P each w side start e items h = h
led_keeps laws P each w side (accepts {v = v} p x) e items h =
    let u : World = led w side p in
    let here : end_at u side ≡ v = led_end w side p e in
    let grows : Begins v.accepted (after_send v x).accepted = (laws.grows.send v x).accepted in
    let before : P u = led_keeps laws P each w side p e (fewer_items v (after_send v x) grows items) h in
    elim (is_ok (send_answer v x)) as (λ b. is_ok (send_answer v x) ≡ b → P (sends u side x)) [
      | true ↦ λ yes.
          let more : v.accepted ++ x ∷ [] ≡ (after_send v x).accepted = sym (ap (λ (s : State). s.accepted) (laws.accepts.accepted v x yes)) in
          each u (sending side x) (items (length v.accepted) x (last_of v.accepted x (after_send v x).accepted ([], append-nil (v.accepted ++ x ∷ []) ∙ more))) before
      | false ↦ λ no.
          let same : after_send (end_at u side) x ≡ end_at u side = ap (λ (s : State). after_send s x) here ∙ laws.accepts.refused v x no ∙ sym here in
          subst P (sym (ap (λ (s : State). moved u side s []) same ∙ moved_nowhere u side)) before
    ] refl
led_keeps laws P each w side (takes {v = v} p) e items h = each (led w side p) (taking side) tt (led_keeps laws P each w side p e (fewer_items v (after_take v) (laws.grows.take v).accepted items) h)
led_keeps laws P each w side (flushes {v = v} p) e items h = each (led w side p) (flushing side) tt (led_keeps laws P each w side p e (fewer_items v (after_flush v) (same_begins v (after_flush v) (laws.stays.flush v).accepted) items) h)
led_keeps laws P each w side (resends {v = v} p) e items h = each (led w side p) (resending side) tt (led_keeps laws P each w side p e (fewer_items v (after_resend v) (same_begins v (after_resend v) (laws.stays.resend v).accepted) items) h)
led_keeps laws P each w side (tells p asks) e items h = each (led w side p) (telling side asks) tt (led_keeps laws P each w side p e items h)

pub led_holds : EndLaws → EachStepKeepsTheOrder → (w : World) (side : Side) {s v : State} (p : Runs s v) → end_at w side ≡ s → AreItems v → Holds w → Holds (led w side p)
led_holds laws keeps = led_keeps laws Holds keeps.each
