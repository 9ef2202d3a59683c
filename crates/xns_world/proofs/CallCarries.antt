-- What is true of a world of calls stays true as a side takes a step, and a side that settles comes to where no step applies.
use Rattle.std.proofs.Common.{◌<◌, ◌≤◌, inl, inr, length, arith, ◌≡◌, ℕ, List, take, Some, ◌∙◌, ap, subst, sym, true, false, [], ◌∷◌, ◌++◌, refl, ◌+◌, ◌-◌, ◌*◌, Bool, Option, None, length-append}
use Rattle.std.proofs.lemmas.List.{take-append-le, take_all}
use Rattle.std.proofs.lemmas.Option.{slice_get_cases, slice_get_within, get_or_from_slice_get}
use Rattle.std.specs.Prelude.{slice_get, is_ok, All, nat_lt, ◌==◌, is_some}
use Rattle.xns_spp.specs.Growth.{Begins}
use Rattle.xns_spp.specs.Fronts.{front_begins, front_of, begins_itself, begins_then, one_more, begins_more, begins_length}
use Rattle.courier_messages.specs.Laws.{IsSendableItem}
use Rattle.xns_spp.specs.Sending.{is_full, send_answer, take_answer, waiting_count, after_send, after_take}
use Rattle.xns_spp.specs.State.{State, IsState}
use Rattle.xns_spp.specs.declared.item.Item.{Item}
use Rattle.item_world.proofs.Fronts.{element}
use Rattle.item_world.specs.EndLaws.{EndLaws}
use Rattle.std.proofs.lemmas.Bool.{ltb-true, and_parts, eqb-true, ne_eqb}
use Rattle.std.proofs.lemmas.List.Elements.{All-take, All-weaker}
use Rattle.courier_messages.specs.RawCalls.{RawCall}
use Rattle.courier_calls.specs.Calls.{SeenModel, IsFitting}
use Rattle.courier_calls.specs.Caller.{answers}
use Rattle.courier_calls.specs.Laws.{SidesAgree}
use Rattle.courier_calls.specs.Server.{server_items}
use Rattle.xns_spp.specs.Item.{IsItem, IsShortItem}
use Rattle.item_world.specs.declared.side.Side.{Side}
use Rattle.item_world.specs.declared.side.Side.TheVariants.{A, B}
use Rattle.item_world.specs.Channel.{IsQuiet, Accepts, HandsUp}
use Rattle.item_world.specs.Events as events
use Rattle.item_world.specs.Invariant.{Holds}
use Rattle.item_world.specs.World.{World, end_at, sends, takes, channel_of, sent_at, handed_at}
use Rattle.xns_world.specs.CallLaws.{PartiesLaws}
use Rattle.xns_world.specs.CallOrder.{CallsHold, AllListed, IsBetween, SideSettles}
use Rattle.xns_world.specs.CallWorld.{Parties, CallWorld, calls_made, put_out, next_out, outcomes_read, in_world, sends_next, feeds_session, lists_outcome, makes, has_outcome, may_call, step}
use Rattle.xns_world.specs.Settling.{most_steps, after_steps}
use Rattle.xns_world.proofs.Stepping.{by_step, steps_are, GoesOn, IfGoesOn, steps_keep, steps_end}

-- the shorter of two lists that begin one list begins the longer
pub shorter_begins : {X : Type 0} (xs ys zs : List X) → Begins xs zs → Begins ys zs → length xs ≤ length ys → Begins xs ys
shorter_begins {X} xs ys zs p q h =
    let front : take (length xs) ys ≡ xs = sym (take-append-le (length xs) ys q.0 h) ∙ (ap (take (length xs)) q.1 ∙ front_of xs zs p) in
    subst (λ (l : List X). Begins l ys) front (front_begins (length xs) ys)

-- a front that is there already stays, as the list grows
pub front_stays : {X : Type 0} (n : ℕ) (xs ys : List X) → Begins xs ys → n ≤ length xs → take n ys ≡ take n xs
front_stays n xs ys b h = ap (take n) (sym b.1) ∙ take-append-le n xs b.0 h

-- a list that begins another and is as long is the other
pub same_list : {X : Type 0} (xs ys : List X) → Begins xs ys → length ys ≤ length xs → xs ≡ ys
same_list xs ys b le = sym (front_of xs ys b) ∙ take_all (length xs) ys le

-- where a list has no element, the list is past its end
pub none_past : {X : Type 0} (xs : List X) (k : ℕ) → slice_get xs k ≡ None → length xs ≤ k
none_past xs k none = elim (slice_get_cases xs k).1 [ inl there ↦ absurd (cc (there.2, none)) | inr past ↦ past.0 ]

pub not_refused : EndLaws → (s : State) (x : Item) → IsSendableItem x → is_full s ≡ false → is_ok (send_answer s x) ≡ true
not_refused laws s x p full = laws.accepts.fits s x p.short p.plain full

pub faces : {S : Type 0} (p : Parties S) (w : CallWorld) → PartiesLaws p → CallsHold p w → SidesAgree p.serving p.service (calls_made p w) (handed_at w.world B) (handed_at w.world A)
faces p w g h =
    g.agree (calls_made p w) (handed_at w.world B) (handed_at w.world A) (All-take IsFitting w.made p.calls g.fitting)
    (begins_then (handed_at w.world B) (sent_at w.world A) (put_out p w A) (g.world.order w.world B h.holds) (h.out A))
    (begins_then (handed_at w.world A) (sent_at w.world B) (put_out p w B) (g.world.order w.world A h.holds) (h.out B))

-- ---- steps of the network alone

pub same_read : {S : Type 0} (p : Parties S) (w : CallWorld) (v : World) → handed_at v A ≡ handed_at w.world A → outcomes_read p (in_world w v) ≡ outcomes_read p w
same_read p w v h = ap (λ (l : List Item). answers p.serving.table (calls_made p w) l) h

same_out : {S : Type 0} (p : Parties S) (w : CallWorld) (v : World) (side : Side) → ((t : Side) → handed_at v t ≡ handed_at w.world t) → put_out p (in_world w v) side ≡ put_out p w side
same_out p w v A h = refl
same_out p w v B h = ap (λ (l : List Item). server_items p.serving p.service l) (h B)

-- an end that accepts what its session puts out
grown : {S : Type 0} (p : Parties S) (w : CallWorld) (v : World) → CallsHold p w → Holds v → ((t : Side) → handed_at v t ≡ handed_at w.world t) → ((t : Side) → Begins (sent_at v t) (put_out p w t)) → CallsHold p (in_world w v)
grown p w v h holds same out = record {
  holds = holds;
  out = λ t. subst (λ (l : List Item). Begins (sent_at v t) l) (sym (same_out p w v t same)) (out t);
  made = h.made;
  listed = subst (λ (rs : List SeenModel). w.listed ≤ length rs) (sym (same_read p w v (same A))) h.listed;
}

pub quiet_holds : {S : Type 0} (p : Parties S) (w : CallWorld) (v : World) → CallsHold p w → Holds v → IsQuiet (channel_of w.world) (channel_of v) → CallsHold p (in_world w v)
quiet_holds p w v h holds q = grown p w v h holds q.handed (λ t. subst (λ (l : List Item). Begins l (put_out p w t)) (sym (q.accepted t)) (h.out t))

-- ---- an item that is out is sent

-- a prefix of a list of short items is a list of items
pub begun_items : (xs ys : List Item) → Begins xs ys → All IsShortItem ys → All IsItem xs
begun_items xs ys b h =
    All-weaker IsShortItem IsItem (λ x i. i.fits) xs (subst (All IsShortItem) (front_of xs ys b) (All-take IsShortItem (length xs) ys h))

out_pieces : {S : Type 0} (p : Parties S) (w : CallWorld) (side : Side) → PartiesLaws p → CallsHold p w → All IsSendableItem (put_out p w side)
out_pieces p w A g h = g.pieces (calls_made p w) (All-take IsFitting w.made p.calls g.fitting)
out_pieces p w B g h =
    g.answering.pieces.server (handed_at w.world B)
    (begun_items (handed_at w.world B) (sent_at w.world A) (g.world.order w.world B h.holds) (h.holds.ends A).fits.items)

pub at_place : (xs : List Item) (k : ℕ) (x : Item) → slice_get xs k ≡ Some x → All IsSendableItem xs → IsSendableItem x
at_place xs k x is h = subst IsSendableItem (get_or_from_slice_get xs k x x is) (h k x (slice_get_within xs k x is))

pub next_piece : {S : Type 0} (p : Parties S) (w : CallWorld) (side : Side) (x : Item) → PartiesLaws p → CallsHold p w → next_out p w side ≡ Some x → IsSendableItem x
next_piece p w side x g h is = at_place (put_out p w side) (length (sent_at w.world side)) x is (out_pieces p w side g h)

sent_out : {S : Type 0} (p : Parties S) (w : CallWorld) (side : Side) (x : Item) → next_out p w side ≡ Some x → Accepts (channel_of w.world) (channel_of (sends w.world side x)) side x → CallsHold p w → (t : Side) → Begins (sent_at (sends w.world side x) t) (put_out p w t)
sent_out p w A x is a h A = subst (λ (l : List Item). Begins l (put_out p w A)) (sym a.here) (begins_more (sent_at w.world A) (put_out p w A) x (h.out A) is)
sent_out p w A x is a h B = subst (λ (l : List Item). Begins l (put_out p w B)) (sym a.there) (h.out B)
sent_out p w B x is a h A = subst (λ (l : List Item). Begins l (put_out p w A)) (sym a.there) (h.out A)
sent_out p w B x is a h B = subst (λ (l : List Item). Begins l (put_out p w B)) (sym a.here) (begins_more (sent_at w.world B) (put_out p w B) x (h.out B) is)

pub sends_hold : {S : Type 0} (p : Parties S) (w : CallWorld) (side : Side) (x : Item) → PartiesLaws p → CallsHold p w → next_out p w side ≡ Some x → is_ok (send_answer (end_at w.world side) x) ≡ true → CallsHold p (sends_next w side x)
sends_hold p w side x g h is ok =
    let a = g.answering.network.items.send w.world side x ok in
    let piece = next_piece p w side x g h is in
    grown p w (sends w.world side x) h (g.world.each w.world (events.sending side x) piece.short.fits h.holds) a.handed (sent_out p w side x is a h)

-- ---- an item that waits is fed

pub read_more : {S : Type 0} (p : Parties S) (w : CallWorld) (side : Side) (x : Item) → PartiesLaws p → HandsUp (channel_of w.world) (channel_of (takes w.world side)) side x → Begins (outcomes_read p w) (outcomes_read p (feeds_session w side))
read_more p w A x g t = g.heard.caller p.serving.table (calls_made p w) (handed_at w.world A) (handed_at (takes w.world A) A) (x ∷ [], sym t.here)
read_more p w B x g t = subst (λ (l : List Item). Begins (outcomes_read p w) (answers p.serving.table (calls_made p w) l)) (sym t.there) (begins_itself (outcomes_read p w))

fed_out : {S : Type 0} (p : Parties S) (w : CallWorld) (side : Side) (x : Item) → PartiesLaws p → HandsUp (channel_of w.world) (channel_of (takes w.world side)) side x → CallsHold p w → (t : Side) → Begins (sent_at (takes w.world side) t) (put_out p (feeds_session w side) t)
fed_out p w A x g u h A = subst (λ (l : List Item). Begins l (put_out p w A)) (sym (u.accepted A)) (h.out A)
fed_out p w A x g u h B =
    subst (λ (l : List Item). Begins l (put_out p (feeds_session w A) B)) (sym (u.accepted B))
    (subst (λ (l : List Item). Begins (sent_at w.world B) (server_items p.serving p.service l)) (sym u.there) (h.out B))
fed_out p w B x g u h A = subst (λ (l : List Item). Begins l (put_out p w A)) (sym (u.accepted A)) (h.out A)
fed_out p w B x g u h B =
    subst (λ (l : List Item). Begins l (put_out p (feeds_session w B) B)) (sym (u.accepted B))
    (begins_then (sent_at w.world B) (put_out p w B) (put_out p (feeds_session w B) B) (h.out B)
    (g.heard.server p.service (handed_at w.world B) (handed_at (takes w.world B) B) (x ∷ [], sym u.here)))

pub feeds_hold : {S : Type 0} (p : Parties S) (w : CallWorld) (side : Side) (x : Item) → PartiesLaws p → CallsHold p w → take_answer (end_at w.world side) ≡ Some x → CallsHold p (feeds_session w side)
feeds_hold p w side x g h is =
    let u = g.answering.network.items.take w.world side x h.holds is in
    let more = begins_length (outcomes_read p w) (outcomes_read p (feeds_session w side)) (read_more p w side x g u) in
    record { holds = g.world.each w.world (events.taking side) tt h.holds; out = fed_out p w side x g u h; made = h.made; listed = omega (arith, more, h.listed) }

-- ---- an outcome is listed, a call is made

pub lists_hold : {S : Type 0} (p : Parties S) (w : CallWorld) → CallsHold p w → has_outcome p w ≡ true → CallsHold p (lists_outcome w)
lists_hold p w h is =
    let less = ltb-true w.listed (length (outcomes_read p w)) is in
    record {
      holds = h.holds;
      out = λ t. elim t as (λ t. Begins (sent_at w.world t) (put_out p (lists_outcome w) t)) [ A ↦ h.out A | B ↦ h.out B ];
      made = h.made;
      listed = omega (arith, less);
    }

-- one call more, by which nothing that was read changes
pub record Calls {S : Type 0} (p : Parties S) (w : CallWorld) : Type 0 where
  pub call : RawCall
  pub is : slice_get p.calls w.made ≡ Some call
  pub more : calls_made p (makes w) ≡ calls_made p w ++ call ∷ []
  pub same : outcomes_read p (makes w) ≡ outcomes_read p w

pub calls : {S : Type 0} (p : Parties S) (w : CallWorld) → PartiesLaws p → CallsHold p w → may_call p w ≡ true → Calls p w
calls p w g h is =
    let parts = and_parts (length (outcomes_read p w) == w.made) (nat_lt w.made (length p.calls)) is in
    let e = element p.calls w.made (ltb-true w.made (length p.calls) parts.1) in
    let more = one_more p.calls w.made e.0 e.1 in
    record {
      call = e.0;
      is = e.1;
      more = more;
      same = ap (λ (cs : List RawCall). answers p.serving.table cs (handed_at w.world A)) more ∙ (faces p w g h).later e.0;
    }

pub makes_hold : {S : Type 0} (p : Parties S) (w : CallWorld) → PartiesLaws p → CallsHold p w → may_call p w ≡ true → CallsHold p (makes w)
makes_hold p w g h is =
    let c = calls p w g h is in
    let parts = and_parts (length (outcomes_read p w) == w.made) (nat_lt w.made (length p.calls)) is in
    let less = ltb-true w.made (length p.calls) parts.1 in
    record {
      holds = h.holds;
      out = λ t. elim t as (λ t. Begins (sent_at w.world t) (put_out p (makes w) t)) [
        | A ↦ begins_then (sent_at w.world A) (put_out p w A) (put_out p (makes w) A) (h.out A) (g.heard.calls (calls_made p w) (calls_made p (makes w)) (c.call ∷ [], sym c.more))
        | B ↦ h.out B
      ];
      made = omega (arith, less);
      listed = subst (λ (rs : List SeenModel). w.listed ≤ length rs) (sym c.same) h.listed;
    }

-- ---- how many steps are left at most

pub room_of : State → ℕ
room_of s = s.ends.backlog - (length s.accepted - s.acknowledged)

pub room_most : (s : State) → room_of s ≤ s.ends.backlog
unfolding room_of
room_most s = omega arith

pub one_if : Bool → ℕ
one_if true = 1
one_if false = 0

one_if_most : (b : Bool) → one_if b ≤ 1
unfolding one_if
one_if_most true = omega arith
one_if_most false = omega arith

pub caller_left : {S : Type 0} → Parties S → CallWorld → Side → ℕ
caller_left p w A = (length (outcomes_read p w) - w.listed) + one_if (length (outcomes_read p w) == w.made)
caller_left p w B = 0

pub left : {S : Type 0} → Parties S → Side → CallWorld → ℕ
left p side w = room_of (end_at w.world side) + 3 * waiting_count (end_at w.world side) + caller_left p w side

-- ---- the four steps

pub send_room : EndLaws → (s : State) (x : Item) → IsState s → is_full s ≡ false → is_ok (send_answer s x) ≡ true
    → (room_of (after_send s x) < room_of s) × (waiting_count (after_send s x) ≡ waiting_count s)
unfolding room_of
send_room laws s x fits full ok =
    let room = laws.accepts.room s fits full in
    let longer = length-append s.accepted (x ∷ []) in
    (subst (λ (t : State). room_of t < room_of s) (sym (laws.accepts.accepted s x ok)) (omega (arith, longer, room, fits.bounds.acknowledged_sent, fits.bounds.sent_accepted)), laws.accepts.waiting s x ok)

-- an item that waits
pub waiting_item : EndLaws → (s : State) → nat_lt 0 (waiting_count s) ≡ true → (x : Item) × (take_answer s ≡ Some x)
waiting_item laws s is = some_item (take_answer s) (sym (laws.hands_up.waits s) ∙ is)
  where
    some_item : (o : Option Item) → is_some o ≡ true → (x : Item) × (o ≡ Some x)
    some_item (Some x) h = (x, refl)
    some_item None h = absurd (cc)

pub take_waiting : EndLaws → (s : State) (x : Item) → take_answer s ≡ Some x → (waiting_count (after_take s) < waiting_count s) × (room_of (after_take s) ≡ room_of s)
unfolding room_of
take_waiting laws s x is = (laws.hands_up.fewer s x is, ap room_of (laws.hands_up.some s x is))

same_left : {S : Type 0} (p : Parties S) (w : CallWorld) (v : World) (side : Side) → handed_at v A ≡ handed_at w.world A → caller_left p (in_world w v) side ≡ caller_left p w side
unfolding caller_left
same_left p w v A h = ap (λ (rs : List SeenModel). (length rs - w.listed) + one_if (length rs == w.made)) (same_read p w v h)
same_left p w v B h = refl

sends_go : {S : Type 0} (p : Parties S) (w : CallWorld) (side : Side) (x : Item) → PartiesLaws p → CallsHold p w → next_out p w side ≡ Some x → is_full (end_at w.world side) ≡ false → GoesOn (CallsHold p) (left p side) w (sends_next w side x)
unfolding left
sends_go p w side x g h is full =
    let s : State = end_at w.world side in
    let ok = not_refused g.answering.ends s x (next_piece p w side x g h is) full in
    let falls = send_room g.answering.ends s x (h.holds.ends side).fits full ok in
    let same = g.answering.network.moves.here w.world side (after_send s x) [] in
    let caller = same_left p w (sends w.world side x) side ((g.answering.network.items.send w.world side x ok).handed A) in
    record {
      keeps = sends_hold p w side x g h is ok;
      fewer = omega (arith, falls.0, falls.1, caller, ap room_of same, ap waiting_count same);
    }

fed_left : {S : Type 0} (p : Parties S) (w : CallWorld) (side : Side) (x : Item) → PartiesLaws p → CallsHold p w → take_answer (end_at w.world side) ≡ Some x → caller_left p (feeds_session w side) side ≤ caller_left p w side + 2
unfolding caller_left
fed_left p w A x g h is =
    let more = (g.answering.network.items.take w.world A x h.holds is).here in
    let one = g.heard.single p.serving.table (calls_made p w) (handed_at w.world A) x in
    let read : length (outcomes_read p (feeds_session w A)) ≤ length (outcomes_read p w) + 1 = subst (λ (l : List Item). length (answers p.serving.table (calls_made p w) l) ≤ length (outcomes_read p w) + 1) (sym more) one in
    let last = one_if_most (length (outcomes_read p (feeds_session w A)) == w.made) in
    omega (arith, read, last, h.listed)
fed_left p w B x g h is = omega arith

feeds_go : {S : Type 0} (p : Parties S) (w : CallWorld) (side : Side) → PartiesLaws p → CallsHold p w → nat_lt 0 (waiting_count (end_at w.world side)) ≡ true → GoesOn (CallsHold p) (left p side) w (feeds_session w side)
unfolding left
feeds_go p w side g h is =
    let s : State = end_at w.world side in
    let e = waiting_item g.answering.ends s is in
    let falls = take_waiting g.answering.ends s e.0 e.1 in
    let same = g.answering.network.moves.here w.world side (after_take s) [] in
    let caller = fed_left p w side e.0 g h e.1 in
    record {
      keeps = feeds_hold p w side e.0 g h e.1;
      fewer = omega (arith, falls.0, falls.1, caller, ap room_of same, ap waiting_count same);
    }

lists_go : {S : Type 0} (p : Parties S) (w : CallWorld) → CallsHold p w → has_outcome p w ≡ true → GoesOn (CallsHold p) (left p A) w (lists_outcome w)
unfolding left caller_left
lists_go p w h is =
    let less = ltb-true w.listed (length (outcomes_read p w)) is in
    record { keeps = lists_hold p w h is; fewer = omega (arith, less) }

makes_go : {S : Type 0} (p : Parties S) (w : CallWorld) → PartiesLaws p → CallsHold p w → may_call p w ≡ true → GoesOn (CallsHold p) (left p A) w (makes w)
unfolding left caller_left one_if
makes_go p w g h is =
    let c = calls p w g h is in
    let parts = and_parts (length (outcomes_read p w) == w.made) (nat_lt w.made (length p.calls)) is in
    let all = eqb-true (length (outcomes_read p w)) w.made parts.0 in
    let same = ap (length {A = SeenModel}) c.same in
    let apart : (length (outcomes_read p (makes w)) == w.made + 1) ≡ false = ne_eqb (length (outcomes_read p (makes w))) (w.made + 1) (λ e. omega (arith, e, same, all)) in
    record { keeps = makes_hold p w g h is; fewer = omega (arith, same, all, ap one_if parts.0, ap one_if apart) }

-- ---- one step

pub step_goes : {S : Type 0} (p : Parties S) (w : CallWorld) (side : Side) → PartiesLaws p → CallsHold p w → IfGoesOn (CallsHold p) (left p side) w (step p side w)
unfolding IfGoesOn
step_goes p w side g h = by_step p w (λ t o. IfGoesOn (CallsHold p) (left p t) w o) (record {
  sent = λ t x is full. sends_go p w t x g h is full;
  fed = λ t is. feeds_go p w t g h is;
  listed = lists_go p w h;
  made = makes_go p w g h;
  rests = λ is. tt;
  stays = tt;
}) side

-- ---- many steps

pub steps_hold : {S : Type 0} (p : Parties S) (side : Side) (w : CallWorld) (n : ℕ) → PartiesLaws p → CallsHold p w → CallsHold p (after_steps (step p side) w n)
steps_hold p side w n g = steps_keep (step p side) (CallsHold p) (left p side) (λ v h. step_goes p v side g h) w n

first_left : {S : Type 0} (p : Parties S) (w : CallWorld) (side : Side) → AllListed p w → caller_left p w side ≤ 1
unfolding caller_left
first_left p w A h = let one = one_if_most (length (outcomes_read p w) == w.made) in omega (arith, one, h)
first_left p w B h = omega arith

-- a side that settles comes to its end
pub settles_end : {S : Type 0} (p : Parties S) (side : Side) (w : CallWorld) → PartiesLaws p → IsBetween p w → SideSettles p side w
unfolding left room_of
settles_end p side w g b =
    let fits = (b.holds.holds.ends side).fits in
    let few = first_left p w side b.listed in
    let most : left p side w ≤ most_steps = omega (arith, steps_are, fits.bounds.window_holds, fits.ends.window_most, fits.ends.backlog_most, few) in
    steps_end (step p side) (CallsHold p) (left p side) (λ v h. step_goes p v side g h) w b.holds most
