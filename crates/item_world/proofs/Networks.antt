-- What the program's network stands for as packets join it and are delivered.
use Rattle.std.proofs.Common.{◌≡◌, ℕ, zero, suc, ◌+◌, ◌<◌, ◌≤◌, Bool, true, false, List, [], ◌∷◌, ◌++◌, length, map, take, drop, set, get_or, Option, Some, refl, sym, ◌∙◌, ap, subst, arith, append_assoc, append-nil, length-append, length-set}
use Rattle.std.specs.Option.{option_to_list}
use Rattle.xns_spp.specs.Held.{Held, StandsFor}
use Rattle.xns_spp.specs.Receiving.{receive_answer, after_receive}
use Rattle.std.proofs.lemmas.List.{take-append-le}
use Rattle.std.proofs.lemmas.List.Elements.{All-set, All-more, All-head, All-tail, All-weaker}
use Rattle.std.proofs.lemmas.Option.{get_or_from_slice_get, slice_get_within}
use Rattle.std.specs.Prelude.{All, slice_get, slice_set, if◌then◌else◌}
use Rattle.xns_spp.specs.State.{State}
use Rattle.item_world.proofs.Later.{settled_later, moved_later, marked_later}
use Rattle.item_world.proofs.Sides.{each_end, same_end, same_marked, comes_as}
use Rattle.item_world.specs.Network.{CountsOn, count_of, moment_of, is_settled, AreRested, unsettled, IsNetwork, IsEnd}
use Rattle.item_world.specs.Side.{other}
use Rattle.item_world.specs.World.{World, end_at, moment, emitted, with_packets, moved, marked_delivered, receives}
use Rattle.item_world.specs.declared.counts.Counts.{Counts}
use Rattle.item_world.specs.declared.emitted.Emitted.{Emitted}
use Rattle.item_world.specs.declared.moment.Moment.{Moment}
use Rattle.item_world.specs.declared.network.Network.{Network}
use Rattle.item_world.specs.declared.side.Side.{Side}
use Rattle.item_world.specs.declared.side.Side.TheVariants.{A, B}

-- ---- the packets that are settled

abbrev IsSettled : World → Emitted → Type 0
IsSettled w x = is_settled w x ≡ true

rested_moved : (n : ℕ) (w : World) (side : Side) (s : State) (bs : List (List ℕ)) → length (end_at w side).taken ≤ length s.taken → AreRested n w → AreRested n (moved w side s bs)
rested_moved n w side s bs l h =
    let v : World = moved w side s bs in
    let new : List Emitted = map (emitted side (moment s (end_at w (other side)))) bs in
    record {
      within = omega (arith, h.within, length-append w.bag new);
      settled = subst (All (IsSettled v)) (sym (take-append-le n w.bag new h.within))
          (All-weaker (IsSettled w) (IsSettled v) (λ x. settled_later w v x (moved_later w side s bs l)) (take n w.bag) h.settled);
    }

take-set_any : (n : ℕ) (xs : List Emitted) (k : ℕ) (y : Emitted) → take n (set xs k y) ≡ set (take n xs) k y
take-set_any zero xs k y = refl
take-set_any (suc n) [] k y = refl
take-set_any (suc n) (x ∷ xs) zero y = refl
take-set_any (suc n) (x ∷ xs) (suc k) y = ap (λ (l : List Emitted). x ∷ l) (take-set_any n xs k y)

rested_marked : (n : ℕ) (w : World) (k : ℕ) (x : Emitted) → slice_get w.bag k ≡ Some x → AreRested n w → AreRested n (marked_delivered w k x)
rested_marked n w k x is h =
    let y : Emitted = record x { delivered = true } in
    let v : World = marked_delivered w k x in
    let before : All (IsSettled v) (take n w.bag) = All-weaker (IsSettled w) (IsSettled v) (λ z. settled_later w v z (marked_later w k x is)) (take n w.bag) h.settled in
    record {
      within = omega (arith, h.within, length-set w.bag k y);
      settled = subst (All (IsSettled v)) (sym (take-set_any n w.bag k y)) (All-set (IsSettled v) (take n w.bag) k y refl before);
    }

-- one packet more
pub rested_more : (n : ℕ) (w : World) (x : Emitted) → slice_get w.bag n ≡ Some x → is_settled w x ≡ true → AreRested n w → AreRested (n + 1) w
rested_more n w x is h r =
    let l : n < length w.bag = slice_get_within w.bag n x is in
    record {
      within = omega arith;
      settled = All-more (IsSettled w) w.bag n x l r.settled (subst (IsSettled w) (sym (get_or_from_slice_get w.bag n x x is)) h);
    }

-- ---- the counts

-- the counts are those of the ends
abbrev AreCounts : Counts → World → Type 0
AreCounts c w = (side : Side) → count_of c side ≡ length (end_at w side).taken

counted : (c d : Counts) (w : World) (side : Side) (s : State) (bs : List (List ℕ)) → CountsOn c d side (length s.taken) → AreCounts c w → AreCounts d (moved w side s bs)
counted c d w A s bs on h A = on.here
counted c d w A s bs on h B = on.there ∙ h B
counted c d w B s bs on h A = on.there ∙ h A
counted c d w B s bs on h B = on.here

-- an end moves that takes nothing
counted_on : (c : Counts) (w : World) (side : Side) (s : State) (bs : List (List ℕ)) → length s.taken ≡ length (end_at w side).taken → AreCounts c w → AreCounts c (moved w side s bs)
counted_on c w side s bs is h = λ t. each_end w side s bs (λ u v. count_of c u ≡ length v.taken) (h side ∙ sym is) t (h t)

-- ---- packets join

moments_are : (c : Counts) (w : World) (side : Side) (s : State) → count_of c side ≡ length s.taken → count_of c (other side) ≡ length (end_at w (other side)).taken → moment_of c side ≡ moment s (end_at w (other side))
moments_are c w side s here there =
    let at : ℕ → ℕ → Moment = λ m n. record { sender = m; receiver = n } in
    ap (λ (m : ℕ). at m (count_of c (other side))) here ∙ ap (at (length s.taken)) there

pub emits : (n m : Network) (w : World) (side : Side) (s : State) (at : Moment) (bs : List (List ℕ)) → IsNetwork n w → length s.taken ≡ length (end_at w side).taken → at ≡ moment_of n.taken side
    → m.packets ≡ with_packets n.packets side at bs → m.taken ≡ n.taken → m.rested ≡ n.rested → IsNetwork m (moved w side s bs)
emits n m w side s at bs h is at_is joins taken rested =
    let v : World = moved w side s bs in
    let now : at ≡ moment s (end_at w (other side)) = at_is ∙ moments_are n.taken w side s (h.taken side ∙ sym is) (h.taken (other side)) in
    record {
      bag = joins ∙ (ap (λ (l : List Emitted). with_packets l side at bs) h.bag ∙ ap (λ (a : Moment). with_packets w.bag side a bs) now);
      taken = subst (λ (c : Counts). AreCounts c v) (sym taken) (counted_on n.taken w side s bs is h.taken);
      rested = subst (λ (k : ℕ). AreRested k v) (sym rested) (rested_moved n.rested w side s bs (omega (arith, is)) h.rested);
    }

-- a move that sends and takes nothing
pub quiet : (n : Network) (w : World) (side : Side) (s : State) → IsNetwork n w → length s.taken ≡ length (end_at w side).taken → IsNetwork n (moved w side s [])
quiet n w side s h is = record {
  bag = h.bag ∙ sym (append-nil w.bag);
  taken = counted_on n.taken w side s [] is h.taken;
  rested = rested_moved n.rested w side s [] (omega (arith, is)) h.rested;
}

-- ---- a packet is delivered

pub delivers_it : (n m : Network) (w : World) (side : Side) (k : ℕ) (x : Emitted) (s : State) (took : ℕ) (at : Moment) (counts : Counts) (bs : List (List ℕ)) → IsNetwork n w → slice_get w.bag k ≡ Some x → length (end_at w side).taken + took ≡ length s.taken
    → CountsOn n.taken counts side (length s.taken) → at ≡ moment_of counts side
    → m.packets ≡ with_packets (slice_set w.bag k (record x { delivered = true })) side at bs → m.taken ≡ counts → m.rested ≡ n.rested → IsNetwork m (moved (marked_delivered w k x) side s bs)
delivers_it n m w side k x s took at counts bs h is more on at_is joins taken rested =
    let u : World = marked_delivered w k x in
    let v : World = moved u side s bs in
    let before : AreCounts n.taken u = λ t. h.taken t ∙ ap (λ (q : State). length q.taken) (sym (same_marked w k x t)) in
    let now : at ≡ moment s (end_at u (other side)) =
    at_is ∙ moments_are counts u side s on.here (on.there ∙ before (other side)) in
    record {
      bag = joins ∙ ap (λ (a : Moment). with_packets u.bag side a bs) now;
      taken = subst (λ (d : Counts). AreCounts d v) (sym taken) (counted n.taken counts u side s bs on before);
      rested = subst (λ (j : ℕ). AreRested j v) (sym rested)
          (rested_moved n.rested u side s bs (omega (arith, more, ap (λ (q : State). length q.taken) (same_marked w k x side))) (rested_marked n.rested w k x is h.rested));
    }

-- what is read from a place is what stands there
pub read_from : (bag : List Emitted) (k : ℕ) (x y : Emitted) → slice_get bag k ≡ Some x → y ≡ get_or bag k y → y ≡ x
read_from bag k x y h is = is ∙ get_or_from_slice_get bag k x y h

-- ---- the numbers of the packets that are not settled

drop_at : (bag : List Emitted) (k : ℕ) (x : Emitted) → slice_get bag k ≡ Some x → drop k bag ≡ x ∷ drop (suc k) bag
drop_at [] k x h = absurd (cc)
drop_at (y ∷ bag) zero x h = let is : y ≡ x = cc in ap (λ (z : Emitted). z ∷ bag) is
drop_at (y ∷ bag) (suc k) x h = drop_at bag k x h

drop_all : (bag : List Emitted) (n : ℕ) → length bag ≤ n → drop n bag ≡ []
drop_all [] zero h = refl
drop_all [] (suc n) h = refl
drop_all (x ∷ bag) zero h = absurd (omega (arith, h))
drop_all (x ∷ bag) (suc n) h = drop_all bag n (omega (arith, h))

-- the numbers of the packets that are not settled, where the first n packets from number i on are settled
unsettled_rested : (w : World) (n i : ℕ) (bag : List Emitted) → n ≤ length bag → All (IsSettled w) (take n bag) → unsettled w i bag ≡ unsettled w (i + n) (drop n bag)
unsettled_rested w zero i bag l h = ap (λ (k : ℕ). unsettled w k bag) (omega arith)
unsettled_rested w (suc n) i [] l h = absurd (omega arith)
unsettled_rested w (suc n) i (x ∷ bag) l h =
    let count : i + 1 + n ≡ i + suc n = omega arith in
    ap (λ (b : Bool). if b then unsettled w (i + 1) bag else i ∷ unsettled w (i + 1) bag) (All-head (IsSettled w) x (take n bag) h)
    ∙ (unsettled_rested w n (i + 1) bag (omega (arith, l)) (All-tail (IsSettled w) x (take n bag) h)
    ∙ ap (λ (k : ℕ). unsettled w k (drop n bag)) count)

-- the numbers listed so far, with those of the packets from number k on, are all numbers from r on
abbrev pub AreListed : World → List ℕ → ℕ → ℕ → Type 0
AreListed w ns r k = ns ++ unsettled w k (drop k w.bag) ≡ unsettled w r (drop r w.bag)

pub listed_more : (w : World) (ns : List ℕ) (r k : ℕ) (x : Emitted) → slice_get w.bag k ≡ Some x → AreListed w ns r k → AreListed w (ns ++ (if is_settled w x then [] else k ∷ [])) r (k + 1)
listed_more w ns r k x is before =
    let next : suc k ≡ k + 1 = omega arith in
    let rest : List Emitted = drop (k + 1) w.bag in
    let at : drop k w.bag ≡ x ∷ rest = drop_at w.bag k x is ∙ ap (λ (n : ℕ). x ∷ drop n w.bag) next in
    append_assoc ns (if is_settled w x then [] else k ∷ []) (unsettled w (k + 1) rest)
    ∙ (ap (λ (l : List ℕ). ns ++ l) (elim (is_settled w x) as (λ b. (if b then [] else k ∷ []) ++ unsettled w (k + 1) rest ≡ (if b then unsettled w (k + 1) rest else k ∷ unsettled w (k + 1) rest)) [ true ↦ refl | false ↦ refl ])
    ∙ (sym (ap (λ (l : List Emitted). ns ++ unsettled w k l) at) ∙ before))

pub listed_all : (w : World) (ns : List ℕ) (r k : ℕ) → length w.bag ≤ k → AreRested r w → AreListed w ns r k → ns ≡ unsettled w 0 w.bag
listed_all w ns r k l rested h =
    let from : 0 + r ≡ r = omega arith in
    sym (append-nil ns)
    ∙ (ap (λ (t : List Emitted). ns ++ unsettled w k t) (sym (drop_all w.bag k l))
    ∙ (h
    ∙ (ap (λ (i : ℕ). unsettled w i (drop r w.bag)) (sym from)
    ∙ sym (unsettled_rested w r 0 w.bag rested.within rested.settled))))

-- ---- an end and the network

-- an end that moves
pub end_moved : (w : World) (side : Side) (t : State) (bs cs : List (List ℕ)) (e : Held) (n : Network) → StandsFor e t → cs ≡ bs → IsNetwork n (moved w side t cs) → IsEnd e n (moved w side t bs) side
end_moved w side t bs cs e n stands is net = record {
  stands = subst (λ (s : State). StandsFor e s) (sym (same_end w side t bs)) stands;
  network = subst (λ (l : List (List ℕ)). IsNetwork n (moved w side t l)) is net;
}

-- an end that takes nothing sends these packets, and the network has them
pub end_sends : (w : World) (side : Side) (t : State) (bs cs : List (List ℕ)) (e : Held) (n m : Network) → t.taken ≡ (end_at w side).taken → StandsFor e t → cs ≡ bs → IsNetwork n w
    → ((v : World) (s : State) → IsNetwork n v → length s.taken ≡ length (end_at v side).taken → IsNetwork m (moved v side s cs)) → IsEnd e m (moved w side t bs) side
end_sends w side t bs cs e n m same stands is net emits = end_moved w side t bs cs e m stands is (emits w t net (ap length same))

-- packet k, which is x, came to an end, and the network has it
pub end_reached_by : (w : World) (k : ℕ) (side : Side) (x : Emitted) (e : Held) (n : Network) (reply : Option (List ℕ)) → StandsFor e (after_receive (end_at w side) x.bytes) → reply ≡ (receive_answer (end_at w side) x.bytes).reply
    → IsNetwork n (moved (marked_delivered w k x) side (after_receive (end_at w side) x.bytes) (option_to_list reply)) → IsEnd e n (receives (marked_delivered w k x) side x.bytes) side
end_reached_by w k side x e n reply stands is net =
    let s : State = end_at w side in
    let b : List ℕ = x.bytes in
    subst (λ (u : World). IsEnd e n u side) (comes_as w k side x)
    (end_moved (marked_delivered w k x) side (after_receive s b) (option_to_list (receive_answer s b).reply) (option_to_list reply) e n stands (ap option_to_list is) net)
