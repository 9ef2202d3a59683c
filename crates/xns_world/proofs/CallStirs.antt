-- What is so where no side of a play of calls can take a step.
use Rattle.std.proofs.Common.{◌≡◌, inl, inr, ◌-◌, ◌<◌, ◌≤◌, Bool, true, false, nat_lt, List, length, Option, Some, None, refl, ◌∙◌, ap, arith}
use Rattle.std.specs.Prelude.{slice_get, All, if◌then◌else◌, ◌||◌, ◌==◌, ◌&&◌}
use Rattle.std.proofs.lemmas.Bool.{ltb-false, ne_eqb, eq-eqb}
use Rattle.std.proofs.lemmas.List.{length-take}
use Rattle.std.proofs.lemmas.List.Elements.{All-take}
use Rattle.std.proofs.lemmas.Option.{slice_get_within}
use Rattle.courier_messages.specs.RawCalls.{caller_items}
use Rattle.courier_calls.specs.Calls.{IsFitting}
use Rattle.courier_calls.specs.Caller.{answers}
use Rattle.courier_calls.specs.Server.{server_items}
use Rattle.xns_spp.specs.Acceptance.{is_backlog_full}
use Rattle.xns_spp.specs.Fronts.{begins_length, begins_then, front_begins}
use Rattle.xns_spp.specs.Growth.{Begins}
use Rattle.xns_spp.specs.Numbers.{most_items}
use Rattle.xns_spp.specs.Sending.{is_full, waiting_count, after_send, after_take}
use Rattle.xns_spp.specs.State.{State, IsState, numbers_of}
use Rattle.xns_spp.specs.declared.item.Item.{Item}
use Rattle.item_world.specs.Channel.{IsQuiet}
use Rattle.item_world.specs.Invariant.{Holds}
use Rattle.item_world.specs.World.{World, end_at, channel_of, sent_at, handed_at}
use Rattle.item_world.specs.declared.side.Side.{Side}
use Rattle.item_world.specs.declared.side.Side.TheVariants.{A, B}
use Rattle.xns_world.proofs.CallCarries.{faces}
use Rattle.xns_world.specs.CallLaws.{PartiesLaws}
use Rattle.xns_world.specs.CallOrder.{CallsHold}
use Rattle.xns_world.specs.CallProgress.{CarriesAll, CallsGoOn}
use Rattle.courier_calls.specs.Laws.{AllIsAnswered}
use Rattle.xns_world.specs.CallWorld.{Parties, CallWorld, calls_made, put_out, next_out, outcomes_read, in_world, lists_outcome, makes, has_outcome, may_call, caller_step, or_caller, step_with, step}

-- ---- what is so where no side takes a step

pub record Resting {S : Type 0} (p : Parties S) (w : CallWorld) (side : Side) : Type 0 where
  pub full : (x : Item) → next_out p w side ≡ Some x → is_full (end_at w.world side) ≡ true
  pub idle : next_out p w side ≡ None → length (end_at w.world side).taken ≤ (end_at w.world side).handed
  pub caller : caller_step p w side ≡ None

pub rest_full : {S : Type 0} (p : Parties S) (w : CallWorld) (side : Side) (x : Item) (b : Bool)
    → is_full (end_at w.world side) ≡ b → next_out p w side ≡ Some x
    → or_caller p w side (if b then None else Some (after_send (end_at w.world side) x)) ≡ None → Resting p w side
rest_full p w side x true is out none = record { full = λ y e. is; idle = λ e. absurd (cc); caller = none }
rest_full p w side x false is out none = absurd (cc)

pub rest_idle : {S : Type 0} (p : Parties S) (w : CallWorld) (side : Side) (b : Bool)
    → nat_lt 0 (waiting_count (end_at w.world side)) ≡ b → next_out p w side ≡ None
    → or_caller p w side (if b then Some (after_take (end_at w.world side)) else None) ≡ None → Resting p w side
rest_idle p w side true is out none = absurd (cc)
rest_idle p w side false is out none = record {
  full = λ y e. absurd (cc);
  idle = λ e. omega (arith, ltb-false 0 (waiting_count (end_at w.world side)) is);
  caller = none;
}

pub rest_by : {S : Type 0} (p : Parties S) (w : CallWorld) (side : Side) (o : Option Item) → next_out p w side ≡ o
    → step_with p w side o ≡ None → Resting p w side
rest_by p w side (Some x) out none = rest_full p w side x (is_full (end_at w.world side)) refl out none
rest_by p w side None out none = rest_idle p w side (nat_lt 0 (waiting_count (end_at w.world side))) refl out none

pub resting : {S : Type 0} (p : Parties S) (w : CallWorld) (side : Side) → step p side w ≡ None → Resting p w side
resting p w side none = rest_by p w side (next_out p w side) refl none

-- ---- what the network leaves as it was

pub put_out_same : {S : Type 0} (p : Parties S) (w : CallWorld) (v : World) (side : Side)
    → IsQuiet (channel_of w.world) (channel_of v) → put_out p (in_world w v) side ≡ put_out p w side
put_out_same p w v A q = refl
put_out_same p w v B q = ap (λ (l : List Item). server_items p.serving p.service l) (q.handed B)

pub next_same : {S : Type 0} (p : Parties S) (w : CallWorld) (v : World) (side : Side)
    → IsQuiet (channel_of w.world) (channel_of v) → next_out p (in_world w v) side ≡ next_out p w side
next_same p w v side q =
    ap (λ (l : List Item). slice_get l (length (sent_at v side))) (put_out_same p w v side q)
    ∙ ap (λ (l : List Item). slice_get (put_out p w side) (length l)) (q.accepted side)

pub handed_count : (w : World) → Holds w → (side : Side) → length (handed_at w side) ≡ (end_at w side).handed
handed_count w h side = omega (arith, length-take (end_at w side).handed (end_at w side).taken, (h.ends side).fits.bounds.handed_taken)

pub not_full : (s : State) → IsState s → length s.accepted ≤ s.acknowledged → length s.accepted < most_items
    → is_full s ≡ false
not_full s fits all less =
    ap (λ (b : Bool). b || is_backlog_full s.ends (numbers_of s)) (ne_eqb (length s.accepted) most_items (λ e. omega (arith, e, less)))
    ∙ ne_eqb (length s.accepted - s.acknowledged) s.ends.backlog (λ e. omega (arith, e, all, fits.ends.backlog_least))

-- ---- the items that are out

-- nothing was sent where the end is full: it is not
pub empty_full : (s : State) → IsState s → length s.accepted ≡ 0 → is_full s ≡ true → ⊥
empty_full s fits none full =
    let free : is_full s ≡ false =
    ap (λ (b : Bool). b || is_backlog_full s.ends (numbers_of s)) (ne_eqb (length s.accepted) most_items (λ e. omega (arith, e, none)))
    ∙ ne_eqb (length s.accepted - s.acknowledged) s.ends.backlog (λ e. omega (arith, e, none, fits.ends.backlog_least)) in
    cc

pub all_made : {S : Type 0} (p : Parties S) (w : CallWorld) → CallsHold p w → length (calls_made p w) ≡ w.made
all_made p w h = omega (arith, length-take w.made p.calls, h.made)

pub made_fit : {S : Type 0} (p : Parties S) (w : CallWorld) → PartiesLaws p → All IsFitting (calls_made p w)
made_fit p w g = All-take IsFitting w.made p.calls g.fitting

pub server_front : {S : Type 0} (p : Parties S) (w : CallWorld) → PartiesLaws p → CallsHold p w
    → Begins (handed_at w.world B) (caller_items (calls_made p w))
server_front p w g h = begins_then (handed_at w.world B) (sent_at w.world A) (put_out p w A) (g.world.order w.world B h.holds) (h.out A)

pub caller_front : {S : Type 0} (p : Parties S) (w : CallWorld) → PartiesLaws p → CallsHold p w
    → Begins (handed_at w.world A) (put_out p w B)
caller_front p w g h = begins_then (handed_at w.world A) (sent_at w.world B) (put_out p w B) (g.world.order w.world A h.holds) (h.out B)

-- while the caller has an item out the server has none that its full end would hold back
pub not_both_out : {S : Type 0} (p : Parties S) (w : CallWorld) (x y : Item) → PartiesLaws p → AllIsAnswered p.serving p.service
    → CallsGoOn p w → next_out p w A ≡ Some x → next_out p w B ≡ Some y → is_full (end_at w.world B) ≡ true → ⊥
not_both_out p w x y g sessions on out back full =
    let h = on.holds in
    let here = slice_get_within (put_out p w A) (length (sent_at w.world A)) x out in
    let there = slice_get_within (put_out p w B) (length (sent_at w.world B)) y back in
    let heard = begins_length (handed_at w.world B) (sent_at w.world A) (g.world.order w.world B h.holds) in
    let read = begins_length (handed_at w.world A) (sent_at w.world B) (g.world.order w.world A h.holds) in
    let apart = sessions.apart (calls_made p w) (handed_at w.world B) (handed_at w.world A) (made_fit p w g) (server_front p w g h) (omega (arith, heard, here)) (caller_front p w g h)
    (omega (arith, all_made p w h, on.waits)) in
    elim apart as (λ o. ⊥) [
      | inl all ↦ absurd (omega (arith, all, read, there))
      | inr one ↦ empty_full (end_at w.world B) (h.holds.ends B).fits (omega (arith, one, there)) full
    ]

-- how much goes out at most

pub caller_most : {S : Type 0} (p : Parties S) (w : CallWorld) → PartiesLaws p → Begins (put_out p w A) (caller_items p.calls)
caller_most p w g = g.heard.calls (calls_made p w) p.calls (front_begins w.made p.calls)

pub server_most : {S : Type 0} (p : Parties S) (w : CallWorld) → PartiesLaws p → CallsHold p w
    → Begins (put_out p w B) (server_items p.serving p.service (caller_items p.calls))
server_most p w g h =
    g.heard.server p.service (handed_at w.world B) (caller_items p.calls) (begins_then (handed_at w.world B) (put_out p w A) (caller_items p.calls) (server_front p w g h) (caller_most p w g))

pub most_out : {S : Type 0} (p : Parties S) (w : CallWorld) (side : Side) → PartiesLaws p → CallsHold p w → CarriesAll p
    → length (put_out p w side) ≤ most_items
most_out p w A g h room = omega (arith, room.calls, begins_length (put_out p w A) (caller_items p.calls) (caller_most p w g))
most_out p w B g h room = omega (arith, room.answers, begins_length (put_out p w B) (server_items p.serving p.service (caller_items p.calls)) (server_most p w g h))

pub sends_room : {S : Type 0} (p : Parties S) (w : CallWorld) (side : Side) (x : Item) → PartiesLaws p → CallsHold p w
    → CarriesAll p → next_out p w side ≡ Some x → length (sent_at w.world side) < most_items
sends_room p w side x g h room out = omega (arith, slice_get_within (put_out p w side) (length (sent_at w.world side)) x out, most_out p w side g h room)

-- ---- nothing is left

pub quiet_caller : {S : Type 0} (p : Parties S) (w : CallWorld) (b c : Bool)
    → (if b then Some (lists_outcome w) else if c then Some (makes w) else None) ≡ None → (b ≡ false) × (c ≡ false)
quiet_caller p w true c h = absurd (cc)
quiet_caller p w false true h = absurd (cc)
quiet_caller p w false false h = (refl, refl)

pub all_answered : {S : Type 0} (p : Parties S) (w : CallWorld) → PartiesLaws p → AllIsAnswered p.serving p.service
    → CallsHold p w → handed_at w.world B ≡ put_out p w A → handed_at w.world A ≡ put_out p w B
    → w.made ≤ length (outcomes_read p w)
all_answered p w g sessions h to back =
    let whole = sessions.whole (calls_made p w) (made_fit p w g) in
    let same : handed_at w.world A ≡ server_items p.serving p.service (caller_items (calls_made p w)) = back ∙ ap (λ (l : List Item). server_items p.serving p.service l) to in
    omega (arith, whole, all_made p w h, ap (λ (l : List Item). length (answers p.serving.table (calls_made p w) l)) same)

pub read_few : {S : Type 0} (p : Parties S) (w : CallWorld) → PartiesLaws p → CallsHold p w → length (outcomes_read p w) ≤ w.made
read_few p w g h = let f = faces p w g h in omega (arith, f.fewer, begins_length _ _ f.once, all_made p w h)

-- where all is handed up both ways, and the caller rests, all calls are done
pub none_left : {S : Type 0} (p : Parties S) (w : CallWorld) → PartiesLaws p → CallsHold p w → caller_step p w A ≡ None
    → w.made ≤ length (outcomes_read p w) → w.listed < length p.calls → ⊥
none_left p w g h rests all left =
    let few = read_few p w g h in
    let q = quiet_caller p w (has_outcome p w) (may_call p w) rests in
    let listed = ltb-false w.listed (length (outcomes_read p w)) q.0 in
    let same : (length (outcomes_read p w) == w.made) ≡ true = eq-eqb (length (outcomes_read p w)) w.made (omega (arith, all, few)) in
    let rest : nat_lt w.made (length p.calls) ≡ false = second (length (outcomes_read p w) == w.made) (nat_lt w.made (length p.calls)) same q.1 in
    let most = ltb-false w.made (length p.calls) rest in
    omega (arith, listed, most, left, all, h.listed)
  where
    second : (a b : Bool) → a ≡ true → (a && b) ≡ false → b ≡ false
    second true b h i = i
    second false b h i = absurd (cc)
