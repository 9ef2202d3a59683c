-- A world goes on: both ends take no less, and what was sent stays in the bag.
use Rattle.std.proofs.Common.{◌≡◌, ℕ, zero, suc, ◌-◌, ◌<◌, ◌≤◌, Bool, true, false, nat_lt, List, [], ◌∷◌, length, map, set, Option, Some, None, refl, sym, ◌∙◌, ap, subst, arith}
use Rattle.std.specs.Prelude.{slice_get, if◌then◌else◌, ◌||◌}
use Rattle.std.proofs.lemmas.Bool.{ltb-true, lt-ltb}
use Rattle.std.proofs.lemmas.List.{map-append, map-set, set-get_or}
use Rattle.std.proofs.lemmas.Option.{get_or_from_slice_get}
use Rattle.xns_spp.specs.Receiving.{after_receive}
use Rattle.xns_spp.specs.Sending.{after_send, after_tick, after_take}
use Rattle.xns_spp.specs.State.{State}
use Rattle.xns_spp.specs.Telling.{after_resend}
use Rattle.xns_spp.specs.Fronts.{begins_itself, begins_then, begins_map, begins_length}
use Rattle.item_world.proofs.Fronts.{begins_same, begins_get}
use Rattle.item_world.proofs.Sides.{each_end, same_marked, has_landed, noise_changes_nothing}
use Rattle.item_world.specs.EndLaws.{EndLaws}
use Rattle.item_world.specs.Events.{SmallStep, arrival, noise, sending, taking, flushing, ticking, resending, telling, stepped, all_stepped, steps_of, happens, world_after}
use Rattle.xns_spp.specs.Growth.{Begins, HearsNothing}
use Rattle.item_world.specs.Landing.{with_arrival, landed, landing, world_reached}
use Rattle.item_world.specs.Later.{Later, as_sent}
use Rattle.item_world.specs.Network.{is_settled}
use Rattle.item_world.specs.Side.{other}
use Rattle.item_world.specs.World.{World, end_at, moment, emitted, moved, has_passed, lifetime, flushes, marked_delivered, sender_and_bytes, sent_packets}
use Rattle.item_world.specs.declared.emitted.Emitted.{Emitted}
use Rattle.item_world.specs.declared.event.Event.{Event}
use Rattle.item_world.specs.declared.moment.Moment.{Moment}
use Rattle.item_world.specs.declared.side.Side.{Side}

pub later_itself : (w : World) → Later w w
later_itself w = record { taken = λ side. omega arith; bag = begins_itself (map as_sent w.bag) }

pub later_then : (u v w : World) → Later u v → Later v w → Later u w
later_then u v w p q = record {
  taken = λ side. omega (arith, p.taken side, q.taken side);
  bag = begins_then (map as_sent u.bag) (map as_sent v.bag) (map as_sent w.bag) p.bag q.bag;
}

pub moved_later : (w : World) (side : Side) (s : State) (bs : List (List ℕ)) → length (end_at w side).taken ≤ length s.taken → Later w (moved w side s bs)
moved_later w side s bs h =
    let new : List Emitted = map (emitted side (moment s (end_at w (other side)))) bs in
    record {
      taken = λ t. each_end w side s bs (λ u v. length (end_at w u).taken ≤ length v.taken) h t (omega arith);
      bag = (map as_sent new, sym (map-append as_sent w.bag new));
    }

marked_same : (w : World) (k : ℕ) (x : Emitted) → slice_get w.bag k ≡ Some x → map as_sent (marked_delivered w k x).bag ≡ map as_sent w.bag
marked_same w k x h =
    map-set as_sent w.bag k (record x { delivered = true })
    ∙ (sym (map-set as_sent w.bag k x)
    ∙ ap (map as_sent) (ap (set w.bag k) (sym (get_or_from_slice_get w.bag k x x h)) ∙ set-get_or w.bag k x))

pub marked_later : (w : World) (k : ℕ) (x : Emitted) → slice_get w.bag k ≡ Some x → Later w (marked_delivered w k x)
marked_later w k x h = record {
  taken = λ side. omega (arith, ap (λ (s : State). length s.taken) (same_marked w k x side));
  bag = begins_same (map as_sent w.bag) (map as_sent (marked_delivered w k x).bag) (marked_same w k x h);
}

-- ---- each small step

no_less : (s t : State) → HearsNothing s t → length s.taken ≤ length t.taken
no_less s t h = omega (arith, ap length h.taken)

pub flushes_later : EndLaws → (w : World) (side : Side) → Later w (flushes w side)
flushes_later laws w side = moved_later w side _ _ (no_less _ _ (laws.hears.flush (end_at w side)))

pub landing_later : EndLaws → (w : World) (k : ℕ) (l : Side × World) → landing w k ≡ Some l → Later w l.1
landing_later laws w k l e =
    let i = has_landed w k l e in
    let x : Emitted = i.packet in
    let v : World = marked_delivered w k x in
    let s : State = end_at v (other x.side) in
    let more = moved_later v (other x.side) (after_receive s x.bytes) _ (begins_length s.taken (after_receive s x.bytes).taken (laws.grows.receive s x.bytes).taken) in
    subst (λ (m : Side × World). Later w m.1) i.leads (later_then w v (with_arrival w k x) (marked_later w k x i.is) more)

reached_later : EndLaws → (w : World) (k : ℕ) (o : Option (Side × World)) → landing w k ≡ o → Later w (world_reached w o)
reached_later laws w k None e = later_itself w
reached_later laws w k (Some l) e = landing_later laws w k l e

step_later : EndLaws → (w : World) (s : SmallStep) → Later w (stepped w s)
step_later laws w (arrival k) = reached_later laws w k (landing w k) refl
step_later laws w (noise side bytes) = subst (λ (v : World). Later w v) (sym (noise_changes_nothing laws w side bytes)) (later_itself w)
step_later laws w (sending side x) = moved_later w side (after_send (end_at w side) x) [] (no_less _ _ (laws.hears.send (end_at w side) x))
step_later laws w (taking side) = moved_later w side (after_take (end_at w side)) [] (no_less _ _ (laws.hears.take (end_at w side)))
step_later laws w (flushing side) = flushes_later laws w side
step_later laws w (ticking side) = moved_later w side (after_tick (end_at w side)) _ (no_less _ _ (laws.hears.tick (end_at w side)))
step_later laws w (resending side) = moved_later w side (after_resend (end_at w side)) _ (no_less _ _ (laws.hears.resend (end_at w side)))
step_later laws w (telling side asks) = moved_later w side (end_at w side) _ (omega arith)

pub all_later : EndLaws → (w : World) (ss : List SmallStep) → Later w (all_stepped w ss)
all_later laws w [] = later_itself w
all_later laws w (s ∷ ss) = later_then w (stepped w s) (all_stepped (stepped w s) ss) (step_later laws w s) (all_later laws (stepped w s) ss)

pub run_later : EndLaws → (w : World) (es : List Event) → Later w (world_after w es)
run_later laws w [] = later_itself w
run_later laws w (e ∷ es) = later_then w (happens w e) (world_after (happens w e) es) (all_later laws w (steps_of w e)) (run_later laws (happens w e) es)

all_as_sent : (xs : List Emitted) → map sender_and_bytes (map as_sent xs) ≡ map sender_and_bytes xs
all_as_sent [] = refl
all_as_sent (x ∷ xs) = ap (λ (l : List (Side × List ℕ)). sender_and_bytes x ∷ l) (all_as_sent xs)

packets_as_sent : (w : World) → map sender_and_bytes (map as_sent w.bag) ≡ sent_packets w
packets_as_sent w = all_as_sent w.bag

pub run_stays : EndLaws → (w : World) (es : List Event) → Begins (sent_packets w) (sent_packets (world_after w es))
run_stays laws w es =
    let v : World = world_after w es in
    let b = begins_map sender_and_bytes (map as_sent w.bag) (map as_sent v.bag) (run_later laws w es).bag in
    subst (λ (l : List (Side × List ℕ)). Begins l (sent_packets v)) (packets_as_sent w) (subst (λ (l : List (Side × List ℕ)). Begins (map sender_and_bytes (map as_sent w.bag)) l) (packets_as_sent v) b)

-- ---- a packet that lives no longer

past_later : (n m k : ℕ) → n ≤ m → nat_lt lifetime (n - k) ≡ true → nat_lt lifetime (m - k) ≡ true
past_later n m k l h = let before : lifetime < n - k = ltb-true lifetime (n - k) h in lt-ltb lifetime (m - k) (omega arith)

either_later : (p q r s : Bool) → (p ≡ true → r ≡ true) → (q ≡ true → s ≡ true) → (p || q) ≡ true → (r || s) ≡ true
either_later true q r s f g h = ap (λ (b : Bool). b || s) (f refl)
either_later false q true s f g h = refl
either_later false q false s f g h = g h

pub passed_later : (w v : World) (x : Emitted) → Later w v → has_passed w x ≡ true → has_passed v x ≡ true
passed_later w v x h =
    let m : ℕ = length (end_at w x.side).taken in
    let n : ℕ = length (end_at w (other x.side)).taken in
    let m' : ℕ = length (end_at v x.side).taken in
    let n' : ℕ = length (end_at v (other x.side)).taken in
    let at : Moment = x.at in
    either_later (nat_lt lifetime (m - at.sender)) (nat_lt lifetime (n - at.receiver)) (nat_lt lifetime (m' - at.sender)) (nat_lt lifetime (n' - at.receiver))
    (past_later m m' at.sender (h.taken x.side))
    (past_later n n' at.receiver (h.taken (other x.side)))

pub settled_later : (w v : World) (x : Emitted) → Later w v → is_settled w x ≡ true → is_settled v x ≡ true
settled_later w v x h = either_later x.delivered (has_passed w x) x.delivered (has_passed v x) (λ e. e) (passed_later w v x h)

get_map : (xs : List Emitted) (k : ℕ) (x : Emitted) → slice_get xs k ≡ Some x → slice_get (map as_sent xs) k ≡ Some (as_sent x)
get_map [] k x h = absurd (cc)
get_map (y ∷ xs) zero x h = let same : y ≡ x = cc in ap (λ (z : Emitted). Some (as_sent z)) same
get_map (y ∷ xs) (suc k) x h = get_map xs k x h

get_of_map : (xs : List Emitted) (k : ℕ) (x : Emitted) → slice_get (map as_sent xs) k ≡ Some x → (y : Emitted) × (slice_get xs k ≡ Some y) × (as_sent y ≡ x)
get_of_map [] k x h = absurd (cc)
get_of_map (y ∷ xs) zero x h = (y, refl, cc)
get_of_map (y ∷ xs) (suc k) x h = get_of_map xs k x h

-- nothing comes any more of a packet that lived no longer before
pub lands_nowhere : (w v : World) (k : ℕ) (x : Emitted) → Later w v → slice_get w.bag k ≡ Some x → has_passed w x ≡ true → landing v k ≡ None
lands_nowhere w v k x h is past =
    let there = begins_get (map as_sent w.bag) (map as_sent v.bag) k (as_sent x) h.bag (get_map w.bag k x is) in
    let e = get_of_map v.bag k (as_sent x) there in
    let y : Emitted = e.0 in
    let now : has_passed v y ≡ true = ap (has_passed v) e.2 ∙ passed_later w v x h past in
    ap (landed v k) e.1 ∙ ap (λ (b : Bool). if b then None else Some (other y.side, with_arrival v k y)) now
