-- What a play stands for after each event, and that a rest delivers what is not settled.
use Rattle.std.proofs.Common.{◌≡◌, ℕ, ◌+◌, ◌<◌, ◌≤◌, List, [], ◌∷◌, ◌++◌, length, map, take, get_or, Option, Some, None, refl, sym, ◌∙◌, ap, subst, zero, suc, Bool, true, false, fold, arith}
use Rattle.std.proofs.lemmas.List.{take_more, take_all}
use Rattle.std.proofs.lemmas.List.Elements.{All-nil, All-push, All-cons, All-head, All-tail}
use Rattle.std.proofs.lemmas.List.Sums.{fold-append}
use Rattle.std.specs.Prelude.{All, slice_get, if◌then◌else◌, ◌||◌, is_some, not}
use Rattle.xns_spp.specs.Held.{Held, StandsFor}
use Rattle.xns_spp.specs.State.{State}
use Rattle.xns_spp.specs.declared.item.Item.{Item}
use Rattle.std.specs.Option.{option_to_list}
use Rattle.xns_spp.specs.Receiving.{receive_answer, after_receive}
use Rattle.item_world.proofs.Quiet.{went_on, receive_continues}
use Rattle.item_world.proofs.Networks.{quiet}
use Rattle.item_world.proofs.Sides.{same_end, same_other, same_marked, lands_as}
use Rattle.item_world.proofs.Later.{later_itself, later_then, flushes_later, landing_later, lands_nowhere}
use Rattle.item_world.proofs.Kept.{flushed, delivers_lands}
use Rattle.item_world.specs.declared.event.Event.{Event}
use Rattle.item_world.specs.declared.item_trace.ItemTrace.{ItemTrace}
use Rattle.item_world.specs.declared.network.Network.{Network}
use Rattle.item_world.specs.declared.pair.Pair.{Pair}
use Rattle.item_world.specs.declared.participant.Participant.{Participant}
use Rattle.item_world.specs.declared.play.Play.{Play}
use Rattle.item_world.specs.declared.setup.Setup.{Setup}
use Rattle.item_world.specs.declared.side.Side.{Side}
use Rattle.item_world.specs.declared.side.Side.TheVariants.{A, B}
use Rattle.item_world.specs.EndLaws.{EndLaws}
use Rattle.item_world.specs.Events.{happens, delivers, world_after, IsEvent, undelivered}
use Rattle.xns_spp.specs.Growth.{Begins}
use Rattle.item_world.specs.Later.{Continues, Later, StaysAway, does_land}
use Rattle.item_world.specs.Landing.{landing, end_reached, with_arrival, landed}
use Rattle.item_world.specs.Laws.{ItemsComeInOrder}
use Rattle.item_world.specs.Network.{IsNetwork, IsEnd, unsettled}
use Rattle.item_world.specs.Play.{at_side, with_side, IsParticipant, IsPlaying, IsPlayed}
use Rattle.item_world.specs.Setup.{IsSetup, IsGood}
use Rattle.item_world.specs.Side.{other}
use Rattle.item_world.specs.Trace.{item_trace}
use Rattle.item_world.specs.World.{World, start, end_at, moved, marked_delivered, sender_and_bytes, sent_packets, has_passed}
use Rattle.std.specs.List.{filter}
use Rattle.item_world.specs.declared.emitted.Emitted.{Emitted}

-- an end acts, and the other one stays
pub acts : (pair : Pair) (n : Network) (w v : World) (side : Side) (q : Participant) → ((t : Side) → IsParticipant (at_side pair t) (end_at w t)) → end_at v (other side) ≡ end_at w (other side)
    → IsParticipant q (end_at v side) → IsNetwork n v → IsPlaying (record { ends = with_side pair side q; network = n }) v
acts pair n w v A q h same here net = record { ends = λ t. elim t as (λ t. IsParticipant (at_side (with_side pair A q) t) (end_at v t)) [ A ↦ here | B ↦ subst (λ (s : State). IsParticipant pair.b s) (sym same) (h B) ]; network = net }
acts pair n w v B q h same here net = record { ends = λ t. elim t as (λ t. IsParticipant (at_side (with_side pair B q) t) (end_at v t)) [ A ↦ subst (λ (s : State). IsParticipant pair.a s) (sym same) (h A) | B ↦ here ]; network = net }

-- an endpoint acts, which accepts and hands up nothing
pub acts_quietly : (pair : Pair) (n : Network) (w : World) (side : Side) (p : Participant) (e : Held) (t : State) (bs : List (List ℕ)) → ((u : Side) → IsParticipant (at_side pair u) (end_at w u)) → p ≡ at_side pair side → Continues (end_at w side) t
    → IsEnd e n (moved w side t bs) side → IsPlaying (record { ends = with_side pair side (record p { endpoint = e }); network = n }) (moved w side t bs)
acts_quietly pair n w side p e t bs h is c end =
    let before : IsParticipant p (end_at w side) = subst (λ (q : Participant). IsParticipant q (end_at w side)) (sym is) (h side) in
    let same = same_end w side t bs in
    let after = went_on p (end_at w side) t e before c (subst (λ (s : State). StandsFor e s) same end.stands) in
    acts pair n w (moved w side t bs) side (record p { endpoint = e }) h (same_other w side t bs) (subst (λ (s : State). IsParticipant (record p { endpoint = e }) s) (sym same) after) end.network

-- an end of the play acts where its endpoint and the network do
pub goes_quietly : (play : Play) (w : World) (side : Side) (p : Participant) (e : Held) (n : Network) (t : State) (bs : List (List ℕ)) → p ≡ at_side play.ends side → Continues (end_at w side) t
    → (IsEnd p.endpoint play.network w side → IsEnd e n (moved w side t bs) side) → IsPlaying play w → IsPlaying (record { ends = with_side play.ends side (record p { endpoint = e }); network = n }) (moved w side t bs)
goes_quietly play w side p e n t bs is c act h =
    let here : IsParticipant p (end_at w side) = subst (λ (q : Participant). IsParticipant q (end_at w side)) (sym is) (h.ends side) in
    acts_quietly play.ends n w side p e t bs h.ends is c (act (record { stands = here.stands; network = h.network }))

-- an end accepts an item or hands one up, which sends and takes nothing
pub acts_alone : (pair : Pair) (n : Network) (w : World) (side : Side) (q : Participant) (t : State) → ((u : Side) → IsParticipant (at_side pair u) (end_at w u)) → IsParticipant q t → IsNetwork n w → t.taken ≡ (end_at w side).taken
    → IsPlaying (record { ends = with_side pair side q; network = n }) (moved w side t [])
acts_alone pair n w side q t h here net is =
    acts pair n w (moved w side t []) side q h (same_other w side t []) (subst (λ (s : State). IsParticipant q s) (sym (same_end w side t [])) here) (quiet n w side t net (ap length is))

-- a packet came to an end
pub lands_there : EndLaws → (pair : Pair) (n : Network) (w v : World) (k : ℕ) (side : Side) (p : Participant) (e : Held) → ((u : Side) → IsParticipant (at_side pair u) (end_at w u)) → p ≡ at_side pair side → landing w k ≡ Some (side, v)
    → IsEnd e n v side → IsPlaying (record { ends = with_side pair side (record p { endpoint = e }); network = n }) v
lands_there laws pair n w v k side p e h is lands end =
    let l = lands_as w k side v lands in
    let u : World = marked_delivered w k l.packet in
    let s : State = end_at w side in
    let b : List ℕ = l.packet.bytes in
    let unmarked : (t : Side) → IsParticipant (at_side pair t) (end_at u t) = λ t. subst (λ (q : State). IsParticipant (at_side pair t) q) (sym (same_marked w k l.packet t)) (h t) in
    let on : Continues (end_at u side) (after_receive s b) = subst (λ (q : State). Continues q (after_receive s b)) (sym (same_marked w k l.packet side)) (receive_continues laws s b) in
    subst (λ (x : World). IsPlaying (record { ends = with_side pair side (record p { endpoint = e }); network = n }) x) l.world
    (acts_quietly pair n u side p e (after_receive s b) (option_to_list (receive_answer s b).reply) unmarked is on (subst (λ (x : World). IsEnd e n x side) (sym l.world) end))

pub some_landing : (o : Option (Side × World)) (side : Side) → Some side ≡ end_reached o → (v : World) × (o ≡ Some (side, v))
some_landing None side h = absurd (cc)
some_landing (Some l) side h = let same : side ≡ l.0 = cc in (l.1, ap (λ (t : Side). Some (t, l.1)) (sym same))

pub no_landing : (o : Option (Side × World)) → None ≡ end_reached o → o ≡ None
no_landing None h = refl
no_landing (Some l) h = absurd (cc)

-- an end whose endpoint stands for what it stood for
pub stays_there : (play : Play) (w : World) (side : Side) (p : Participant) (e : Held) → IsPlaying play w → IsParticipant p (end_at w side) → StandsFor e (end_at w side)
    → IsPlaying (record play { ends = with_side play.ends side (record p { endpoint = e }) }) w
stays_there play w side p e h here stands =
    acts play.ends play.network w w side (record p { endpoint = e }) h.ends refl (record { stands = stands; sent = here.sent; handed = here.handed }) h.network

-- ---- deliveries

flushed_later : EndLaws → (w : World) (k : ℕ) (o : Option (Side × World)) → landing w k ≡ o → Later w (flushed w o)
flushed_later laws w k None e = later_itself w
flushed_later laws w k (Some l) e = later_then w l.1 (flushed w (Some l)) (landing_later laws w k l e) (flushes_later laws l.1 l.0)

pub delivers_later : EndLaws → (w : World) (k : ℕ) → Later w (delivers w k)
delivers_later laws w k = subst (λ (v : World). Later w v) (sym (delivers_lands w k)) (flushed_later laws w k (landing w k) refl)

pub delivers_nowhere : (w : World) (k : ℕ) → landing w k ≡ None → delivers w k ≡ w
delivers_nowhere w k none = delivers_lands w k ∙ ap (flushed w) none

-- ---- a list of events

pub played_none : (p : Play) (setup : Setup) → IsPlaying p (start setup) → IsPlayed p setup []
played_none p setup h = record { stands = h; fits = All-nil IsEvent }

-- after one event more
pub played_more : (q : Play) (setup : Setup) (events : List Event) (k : ℕ) (e : Event) → k < length events → e ≡ get_or events k e
    → IsPlaying q (happens (world_after (start setup) (take k events)) e) → IsEvent e → All IsEvent (take k events) → IsPlayed q setup (take (k + 1) events)
played_more q setup events k e l is goes fits before =
    let more : take (k + 1) events ≡ take k events ++ e ∷ [] = take_more events k e l ∙ ap (λ (d : Event). take k events ++ d ∷ []) (sym is) in
    subst (IsPlayed q setup) (sym more) (record {
      stands = subst (IsPlaying q) (sym (fold-append happens (start setup) (take k events) (e ∷ []))) goes;
      fits = All-push IsEvent (take k events) e before fits;
    })

pub played_all : (p : Play) (setup : Setup) (events : List Event) (n : ℕ) → length events ≤ n → IsPlayed p setup (take n events) → IsPlayed p setup events
played_all p setup events n l h = subst (IsPlayed p setup) (take_all n events l) h

-- what the play hands over is the trace
pub trace_of : (p : Play) (w : World) (bag : List (Side × List ℕ)) → IsPlaying p w → bag ≡ map sender_and_bytes p.network.packets
    → ◌≡◌ {A = ItemTrace} (record { a_sent = p.ends.a.sent; b_sent = p.ends.b.sent; a_handed = p.ends.a.handed; b_handed = p.ends.b.handed; bag = bag }) (item_trace w)
trace_of p w bag h is =
    let t : ItemTrace = item_trace w in
    let a = h.ends A in
    let b = h.ends B in
    let bags : bag ≡ sent_packets w = is ∙ ap (map sender_and_bytes) h.network.bag in
    rw (a.sent, b.sent, a.handed, b.handed, bags) refl

begins_along : (xs xs' ys ys' : List Item) → xs ≡ xs' → ys ≡ ys' → Begins xs' ys' → Begins xs ys
begins_along xs xs' ys ys' p q b = (b.0, ap (λ (l : List Item). l ++ b.0) p ∙ (b.1 ∙ sym q))

-- what an end handed up begins what the other one accepted
pub begins_played : ItemsComeInOrder → (p : Play) (setup : Setup) (events : List Event) (side : Side) → IsSetup setup → IsGood setup → IsPlayed p setup events → Begins (at_side p.ends side).handed (at_side p.ends (other side)).sent
begins_played order p setup events side fits good played =
    begins_along _ _ _ _ (played.stands.ends side).handed (played.stands.ends (other side)).sent (order.begins setup events side fits good played.fits)

-- the packets stand in the bag from number i on
abbrev StandAt : World → ℕ → List Emitted → Type 0
StandAt w i xs = (j : ℕ) (x : Emitted) → slice_get xs j ≡ Some x → slice_get w.bag (i + j) ≡ Some x

stand_first : (w : World) (i : ℕ) (x : Emitted) (xs : List Emitted) → StandAt w i (x ∷ xs) → slice_get w.bag i ≡ Some x
stand_first w i x xs stand = subst (λ (n : ℕ). slice_get w.bag n ≡ Some x) (omega arith) (stand zero x refl)

stand_rest : (w : World) (i : ℕ) (x : Emitted) (xs : List Emitted) → StandAt w i (x ∷ xs) → StandAt w (i + 1) xs
stand_rest w i x xs stand = λ j y is. subst (λ (n : ℕ). slice_get w.bag n ≡ Some y) (omega arith) (stand (suc j) y is)

stand_all : (w : World) → StandAt w 0 w.bag
stand_all w = λ j x is. subst (λ (n : ℕ). slice_get w.bag n ≡ Some x) (omega arith) is

-- ---- the numbers that a rest leaves out

lands_alive : (p : Bool) (l : Side × World) → is_some (if p then None else Some l) ≡ not p
lands_alive true l = refl
lands_alive false l = refl

one_more : (f : ℕ → Bool) (i : ℕ) (ns ks : List ℕ) (d p : Bool) → f i ≡ not p → ns ≡ filter f ks → (if d || p then ns else i ∷ ns) ≡ filter f (if d then ks else i ∷ ks)
one_more f i ns ks true p is on = on
one_more f i ns ks false true is on = on ∙ sym (ap (λ (b : Bool). if b then i ∷ filter f ks else filter f ks) is)
one_more f i ns ks false false is on = ap (λ (l : List ℕ). i ∷ l) on ∙ sym (ap (λ (b : Bool). if b then i ∷ filter f ks else filter f ks) is)

left_out_from : (w : World) (i : ℕ) (xs : List Emitted) → StandAt w i xs → unsettled w i xs ≡ filter (does_land w) (undelivered i xs)
left_out_from w i [] stand = refl
left_out_from w i (x ∷ xs) stand =
    let alive : does_land w i ≡ not (has_passed w x) = ap (λ (o : Option Emitted). is_some (landed w i o)) (stand_first w i x xs stand) ∙ lands_alive (has_passed w x) (other x.side, with_arrival w i x) in
    one_more (does_land w) i (unsettled w (i + 1) xs) (undelivered (i + 1) xs) x.delivered (has_passed w x) alive (left_out_from w (i + 1) xs (stand_rest w i x xs stand))

pub left_out : (w : World) → unsettled w 0 w.bag ≡ filter (does_land w) (undelivered 0 w.bag)
left_out w = left_out_from w 0 w.bag (stand_all w)

-- ---- nothing comes of a packet that lives no longer

passed_if : (p : Bool) (l : Side × World) → (if p then None else Some l) ≡ None → p ≡ true
passed_if true l is = refl
passed_if false l is = absurd (cc)

stays_away : (w : World) (i : ℕ) (x : Emitted) → slice_get w.bag i ≡ Some x → StaysAway w i
stays_away w i x here = λ none v later.
    let past = passed_if (has_passed w x) (other x.side, with_arrival w i x) (sym (ap (landed w i) here) ∙ none) in
    lands_nowhere w v i x later here past

stay_away_from : (w : World) (i : ℕ) (xs : List Emitted) → StandAt w i xs → All (StaysAway w) (undelivered i xs)
stay_away_from w i [] stand = All-nil (StaysAway w)
stay_away_from w i (x ∷ xs) stand =
    let rest = stay_away_from w (i + 1) xs (stand_rest w i x xs stand) in
    let ks = undelivered (i + 1) xs in
    elim x.delivered as (λ d. All (StaysAway w) (if d then ks else i ∷ ks)) [
      | true ↦ rest
      | false ↦ All-cons (StaysAway w) i ks (stays_away w i x (stand_first w i x xs stand)) rest
    ]

pub stay_away : (w : World) → All (StaysAway w) (undelivered 0 w.bag)
stay_away w = stay_away_from w 0 w.bag (stand_all w)

-- ---- packets that live no longer may be passed over

-- the number k comes first, which lands or stays away
one_passed : (w v : World) (k : ℕ) (ks : List ℕ) (o : Option (Side × World)) → landing w k ≡ o → StaysAway w k → Later w v → fold delivers (delivers v k) ks ≡ fold delivers (delivers v k) (filter (does_land w) ks)
    → fold delivers v ks ≡ fold delivers v (filter (does_land w) ks) → fold delivers (delivers v k) ks ≡ fold delivers v (if is_some o then k ∷ filter (does_land w) ks else filter (does_land w) ks)
one_passed w v k ks (Some l) is away later next same = next
one_passed w v k ks None is away later next same = ap (λ (u : World). fold delivers u ks) (delivers_nowhere v k (away is v later)) ∙ same

pass_over : EndLaws → (w v : World) (ks : List ℕ) → All (StaysAway w) ks → Later w v → fold delivers v ks ≡ fold delivers v (filter (does_land w) ks)
pass_over laws w v [] stay later = refl
pass_over laws w v (k ∷ ks) stay later =
    let rest = All-tail (StaysAway w) k ks stay in
    one_passed w v k ks (landing w k) refl (All-head (StaysAway w) k ks stay) later
    (pass_over laws w (delivers v k) ks rest (later_then w v (delivers v k) later (delivers_later laws v k)))
    (pass_over laws w v ks rest later)

pub unsettled_is_enough : EndLaws → (w : World) → fold delivers w (undelivered 0 w.bag) ≡ fold delivers w (unsettled w 0 w.bag)
unsettled_is_enough laws w = pass_over laws w w (undelivered 0 w.bag) (stay_away w) (later_itself w) ∙ ap (fold delivers w) (sym (left_out w))
