-- From every state of a play some events carry out all calls.
use Rattle.std.proofs.Common.{◌≡◌, ℕ, zero, suc, ◌+◌, ◌<◌, ◌≤◌, Bool, true, false, nat_lt, List, [], ◌∷◌, ◌++◌, length, fold, Option, Some, None, refl, sym, ◌∙◌, ap, subst, arith}
use Rattle.std.specs.Prelude.{All, if◌then◌else◌}
use Rattle.std.proofs.lemmas.Bool.{lt-ltb, ltb-true, ltb-false}
use Rattle.std.proofs.lemmas.List.Elements.{All-nil, All-cons, All-append, All-weaker}
use Rattle.std.proofs.lemmas.List.Sums.{fold-append}
use Rattle.courier_calls.specs.Laws.{AllIsAnswered}
use Rattle.xns_spp.specs.Sending.{is_full, waiting_count, after_take}
use Rattle.xns_spp.specs.State.{State, IsState}
use Rattle.xns_spp.specs.Numbers.{most_items}
use Rattle.xns_spp.specs.declared.item.Item.{Item}
use Rattle.item_world.proofs.Finishing.{further_before}
use Rattle.item_world.specs.Channel.{IsQuiet}
use Rattle.item_world.specs.Events as events
use Rattle.item_world.specs.Landing.{landing}
use Rattle.item_world.specs.Invariant.{Holds}
use Rattle.item_world.specs.Laws.{NoWorldIsStuck}
use Rattle.item_world.specs.Progress.{IsFurther, StirsOut, ticked_out, came_first, answered_out, came_back, knows_out, came_next}
use Rattle.item_world.specs.Side.{other}
use Rattle.item_world.specs.World.{World, end_at, flushes, ticks, channel_of, sent_at, handed_at}
use Rattle.item_world.specs.declared.event.Event.{Event}
use Rattle.item_world.specs.declared.event.Event.TheVariants.{Deliver, Tick}
use Rattle.item_world.specs.declared.setup.Setup.{Setup}
use Rattle.item_world.specs.declared.side.Side.{Side}
use Rattle.item_world.specs.declared.side.Side.TheVariants.{A, B}
use Rattle.xns_world.proofs.CallCarries.{none_past, same_list, steps_hold, settles_end}
use Rattle.xns_world.proofs.CallMoves.{total, quiet_total, other_on, all_go_on}
use Rattle.xns_world.proofs.CallStirs.{resting, next_same, not_full, not_both_out, sends_room, all_answered, none_left, handed_count, server_front, caller_front}
use Rattle.xns_world.proofs.CallProgress.{within_bound, bound, all_done, starts}
use Rattle.xns_world.proofs.CallRuns.{settles_is, arrived, settles_between}
use Rattle.xns_world.specs.CallLaws.{PartiesLaws}
use Rattle.xns_world.specs.CallOrder.{CallsHold, IsBetween}
use Rattle.xns_world.specs.CallProgress.{CallsGoOn, CarriesAll, IsAllDone, CompletesByEvents}
use Rattle.xns_world.specs.CallWorld.{Parties, CallWorld, call_start, both_settled, run_calls, put_out, next_out, in_world, or_caller, step_with, step, settling_steps, settles, call_happens, feeds_session}
use Rattle.xns_world.specs.Settling.{most_steps, stepped_out}
use Rattle.xns_world.proofs.CallRests.{still_rests, flush_side, tick_side, settle_flush, settle_rises, AtRest, settled_rest, events_rest, events_longer}

-- ---- events by which a play comes further

pub record AdvancesBy {S : Type 0} (p : Parties S) (w : CallWorld) : Type 0 where
  more : List Event
  further : All (IsFurther (length w.world.bag)) more
  rises : total w < total (fold (call_happens p) w more)

quiet_then : (u v w : World) → IsQuiet (channel_of u) (channel_of v) → IsQuiet (channel_of v) (channel_of w)
    → IsQuiet (channel_of u) (channel_of w)
quiet_then u v w q r = record { accepted = λ side. r.accepted side ∙ q.accepted side; handed = λ side. r.handed side ∙ q.handed side }

-- what goes on, with the channel as it was in w
pub record On {S : Type 0} (p : Parties S) (w : CallWorld) (v : World) : Type 0 where
  on : CallsGoOn p (in_world w v)
  quiet : IsQuiet (channel_of w.world) (channel_of v)

on_then : {S : Type 0} (p : Parties S) (w : CallWorld) (v : World) (s : events.SmallStep) → events.IsStep s → events.IsOther s
    → PartiesLaws p → NoWorldIsStuck → On p w v → On p w (events.stepped v s)
on_then p w v s fits other g stuck o = record {
  on = other_on p (in_world w v) s fits other g stuck o.on;
  quiet = quiet_then w.world v (events.stepped v s) o.quiet (g.answering.network.items.quiet v s other o.on.holds.holds);
}

tick_out : {S : Type 0} (p : Parties S) (v : CallWorld) (side : Side) → PartiesLaws p → CallsHold p v → step p side v ≡ None
    → call_happens p v (Tick side) ≡ in_world v (ticked_out v.world side)
tick_out p v side g h none = settle_flush p side (in_world v (ticks v.world side)) (still_rests p v (in_world v (ticks v.world side)) side (tick_side p v side g h) none)

deliver_rises : {S : Type 0} (p : Parties S) (v : CallWorld) (k : ℕ) (side : Side) (l : World) (u : CallWorld) → PartiesLaws p
    → CallsHold p (in_world v l) → landing v.world k ≡ Some (side, l) → step p side (in_world v l) ≡ Some u
    → total (in_world v l) < total (call_happens p v (Deliver k))
deliver_rises p v k side l u g h lands is = omega (arith, settle_rises p side (in_world v l) u g h is, ap total (arrived p v k (side, l) lands))

deliver_flush : {S : Type 0} (p : Parties S) (v : CallWorld) (k : ℕ) (side : Side) (l : World)
    → landing v.world k ≡ Some (side, l) → step p side (in_world v l) ≡ None
    → call_happens p v (Deliver k) ≡ in_world v (flushes l side)
deliver_flush p v k side l lands none = arrived p v k (side, l) lands ∙ settle_flush p side (in_world v l) none

-- an item waits at a side that has none out
takes_then : {S : Type 0} (p : Parties S) (w : CallWorld) (v : World) (side : Side) → On p w v → next_out p w side ≡ None
    → (end_at v side).handed < length (end_at v side).taken → (u : CallWorld) × (step p side (in_world w v) ≡ Some u)
takes_then p w v side o none waits =
    let e : State = end_at v side in (
      feeds_session (in_world w v) side,
      ap (λ (i : Option Item). step_with p (in_world w v) side i) (next_same p w v side o.quiet ∙ none)
          ∙ ap (λ (b : Bool). or_caller p (in_world w v) side (if b then Some (after_take e) else None)) (lt-ltb 0 (waiting_count e) (omega (arith, waits))),
    )

-- the last two of five events
last_rises : {S : Type 0} (p : Parties S) (w : CallWorld) (u v : World) (k : ℕ) (side : Side) → PartiesLaws p → On p w u
    → On p w v → step p side (in_world w u) ≡ None → next_out p w (other side) ≡ None
    → landing (ticked_out u side) k ≡ Some (other side, v)
    → (end_at v (other side)).handed < length (end_at v (other side)).taken
    → total w < total (call_happens p (call_happens p (in_world w u) (Tick side)) (Deliver k))
last_rises p w u v k side g o l none out lands waits =
    let t = takes_then p w v (other side) l out waits in
    let up : total (in_world w v) < total (call_happens p (in_world w (ticked_out u side)) (Deliver k)) = deliver_rises p (in_world w (ticked_out u side)) k (other side) v t.0 g l.on.holds lands t.1 in
    subst (λ (z : CallWorld). total w < total (call_happens p z (Deliver k))) (sym (tick_out p (in_world w u) side g o.on.holds none)) (omega (arith, up, quiet_total w v l.quiet))

abbrev pub IsLess : {S : Type 0} → Parties S → CallWorld → Side → Type 0
IsLess p w side = StirsOut w.world side → On p w (came_back w.world side) → step p side (in_world w (came_back w.world side)) ≡ None
    → (end_at (came_first w.world side) (other side)).handed ≡ length (end_at (came_first w.world side) (other side)).taken
    → IsQuiet (channel_of w.world) (channel_of (came_first w.world side)) → Holds (came_first w.world side)
    → length (end_at (came_first w.world side) (other side)).taken < length (end_at w.world side).accepted

bag_up : {S : Type 0} (p : Parties S) (w v : CallWorld) (es : List Event) → PartiesLaws p → fold (call_happens p) w es ≡ v
    → length w.world.bag ≤ length v.world.bag
bag_up p w v es g e = subst (λ (z : CallWorld). length w.world.bag ≤ length z.world.bag) e (events_longer p w es g)

stir_second : {S : Type 0} (p : Parties S) (w : CallWorld) (side : Side) → PartiesLaws p → NoWorldIsStuck → AtRest p w
    → next_out p w (other side) ≡ None → StirsOut w.world side → IsLess p w side
    → On p w (came_first w.world side) → On p w (came_back w.world side)
    → (call_happens p w (Tick side) ≡ in_world w (ticked_out w.world side))
    → (call_happens p (in_world w (ticked_out w.world side)) (Deliver (length w.world.bag)) ≡ in_world w (answered_out w.world side))
    → step p (other side) (in_world w (came_first w.world side)) ≡ None
    → (o : Option CallWorld) → step p side (in_world w (came_back w.world side)) ≡ o → AdvancesBy p w
stir_second p w side g stuck r out so less o2 o3 e1 e2 none (Some u) is =
    let n : ℕ = length w.world.bag in
    let k2 : ℕ = length (ticked_out w.world side).bag in
    let P : Event → Type 0 = IsFurther n in
    let one : n ≤ k2 = bag_up p w (in_world w (ticked_out w.world side)) (Tick side ∷ []) g e1 in
    let s3 : List Event = Deliver k2 ∷ [] in
    let s2 : List Event = Deliver n ∷ s3 in
    let up = deliver_rises p (in_world w (answered_out w.world side)) k2 side (came_back w.world side) u g o3.on.holds so.second is in
    record {
      more = Tick side ∷ s2;
      further = All-cons P (Tick side) s2 tt (All-cons P (Deliver n) s3 (omega arith) (All-cons P (Deliver k2) [] one (All-nil P)));
      rises = subst (λ (z : CallWorld). total w < total (fold (call_happens p) z s2)) (sym e1)
          (subst (λ (z : CallWorld). total w < total (fold (call_happens p) z s3)) (sym e2) (omega (arith, up, quiet_total w (came_back w.world side) o3.quiet)));
    }
stir_second p w side g stuck r out so less o2 o3 e1 e2 none None is =
    let n : ℕ = length w.world.bag in
    let v2 : World = came_first w.world side in
    let v3 : World = came_back w.world side in
    let w3 : World = knows_out w.world side in
    let k2 : ℕ = length (ticked_out w.world side).bag in
    let k3 : ℕ = length w3.bag in
    let P : Event → Type 0 = IsFurther n in
    let one : n ≤ k2 = bag_up p w (in_world w (ticked_out w.world side)) (Tick side ∷ []) g e1 in
    let e3 : call_happens p (in_world w (answered_out w.world side)) (Deliver k2) ≡ in_world w w3 = deliver_flush p (in_world w (answered_out w.world side)) k2 side v3 so.second is in
    let all : fold (call_happens p) w (Tick side ∷ Deliver n ∷ Deliver k2 ∷ []) ≡ in_world w w3 =
    ap (λ (z : CallWorld). fold (call_happens p) z (Deliver n ∷ Deliver k2 ∷ [])) e1 ∙ (ap (λ (z : CallWorld). fold (call_happens p) z (Deliver k2 ∷ [])) e2 ∙ e3) in
    let three : n ≤ k3 = bag_up p w (in_world w w3) (Tick side ∷ Deliver n ∷ Deliver k2 ∷ []) g all in
    let idle = (resting p (in_world w v2) (other side) none).idle (next_same p w v2 (other side) o2.quiet ∙ out) in
    let taken : (end_at v2 (other side)).handed ≡ length (end_at v2 (other side)).taken = omega (arith, idle, (o2.on.holds.holds.ends (other side)).fits.bounds.handed_taken) in
    let t = so.third taken (less so o3 is taken o2.quiet o2.on.holds.holds) in
    let u3 : On p w w3 = on_then p w v3 (events.flushing side) tt tt g stuck o3 in
    let u4 : On p w (ticked_out w3 side) = on_then p w (ticks w3 side) (events.flushing side) tt tt g stuck (on_then p w w3 (events.ticking side) tt tt g stuck u3) in
    let u5 : On p w (came_next w.world side) = on_then p w (ticked_out w3 side) (events.arrival k3) tt tt g stuck u4 in
    let rest : step p side (in_world w w3) ≡ None = still_rests p (in_world w v3) (in_world w w3) side (flush_side p (in_world w v3) side g o3.on.holds) is in
    let up = last_rises p w w3 (came_next w.world side) k3 side g u3 u5 rest out t.0 t.1 in
    let s5 : List Event = Deliver k3 ∷ [] in
    let s4 : List Event = Tick side ∷ s5 in
    let s3 : List Event = Deliver k2 ∷ s4 in
    let s2 : List Event = Deliver n ∷ s3 in
    record {
      more = Tick side ∷ s2;
      further = All-cons P (Tick side) s2 tt (All-cons P (Deliver n) s3 (omega arith) (All-cons P (Deliver k2) s4 one (All-cons P (Tick side) s5 tt (All-cons P (Deliver k3) [] three (All-nil P)))));
      rises = subst (λ (z : CallWorld). total w < total (fold (call_happens p) z s4)) (sym all) up;
    }

stir_first : {S : Type 0} (p : Parties S) (w : CallWorld) (side : Side) → PartiesLaws p → NoWorldIsStuck → AtRest p w
    → next_out p w (other side) ≡ None → StirsOut w.world side → IsLess p w side
    → On p w (came_first w.world side) → On p w (came_back w.world side)
    → (call_happens p w (Tick side) ≡ in_world w (ticked_out w.world side))
    → (o : Option CallWorld) → step p (other side) (in_world w (came_first w.world side)) ≡ o → AdvancesBy p w
stir_first p w side g stuck r out so less o2 o3 e1 (Some u) is =
    let n : ℕ = length w.world.bag in
    let P : Event → Type 0 = IsFurther n in
    let s2 : List Event = Deliver n ∷ [] in
    let up = deliver_rises p (in_world w (ticked_out w.world side)) n (other side) (came_first w.world side) u g o2.on.holds so.first is in
    record {
      more = Tick side ∷ s2;
      further = All-cons P (Tick side) s2 tt (All-cons P (Deliver n) [] (omega arith) (All-nil P));
      rises = subst (λ (z : CallWorld). total w < total (fold (call_happens p) z s2)) (sym e1) (omega (arith, up, quiet_total w (came_first w.world side) o2.quiet));
    }
stir_first p w side g stuck r out so less o2 o3 e1 None is =
    let e2 = deliver_flush p (in_world w (ticked_out w.world side)) (length w.world.bag) (other side) (came_first w.world side) so.first is in
    stir_second p w side g stuck r out so less o2 o3 e1 e2 is (step p side (in_world w (came_back w.world side))) refl

pub stir_by : {S : Type 0} (p : Parties S) (w : CallWorld) (side : Side) → PartiesLaws p → NoWorldIsStuck → AtRest p w
    → next_out p w (other side) ≡ None → (end_at w.world side).acknowledged < length (end_at w.world side).accepted
    → IsLess p w side → AdvancesBy p w
stir_by p w side g stuck r out left less =
    let so : StirsOut w.world side = stuck.stirs_out w.world side r.on.holds.holds r.on.linked left in
    let o0 : On p w w.world = record { on = r.on; quiet = record { accepted = λ s. refl; handed = λ s. refl } } in
    let o1 : On p w (ticked_out w.world side) = on_then p w (ticks w.world side) (events.flushing side) tt tt g stuck (on_then p w w.world (events.ticking side) tt tt g stuck o0) in
    let o2 : On p w (came_first w.world side) = on_then p w (ticked_out w.world side) (events.arrival (length w.world.bag)) tt tt g stuck o1 in
    let o2f : On p w (answered_out w.world side) = on_then p w (came_first w.world side) (events.flushing (other side)) tt tt g stuck o2 in
    let o3 : On p w (came_back w.world side) = on_then p w (answered_out w.world side) (events.arrival (length (ticked_out w.world side).bag)) tt tt g stuck o2f in
    stir_first p w side g stuck r out so less o2 o3 (tick_out p w side g r.on.holds (r.rests side)) (step p (other side) (in_world w (came_first w.world side))) refl

-- ---- a play at rest that is not done comes further

-- an end that is full has items that are not acknowledged
full_left : (s : State) → IsState s → is_full s ≡ true → length s.accepted < most_items → s.acknowledged < length s.accepted
full_left s fits full less = by_test (nat_lt s.acknowledged (length s.accepted)) refl
  where
    by_test : (b : Bool) → nat_lt s.acknowledged (length s.accepted) ≡ b → s.acknowledged < length s.accepted
    by_test true h = ltb-true s.acknowledged (length s.accepted) h
    by_test false h = let free = not_full s fits (ltb-false s.acknowledged (length s.accepted) h) less in absurd (cc (full, free))

sending_by : {S : Type 0} (p : Parties S) (w : CallWorld) (side : Side) (x : Item) → PartiesLaws p → NoWorldIsStuck → AtRest p w
    → next_out p w side ≡ Some x → length (sent_at w.world side) < most_items → next_out p w (other side) ≡ None
    → AdvancesBy p w
sending_by p w side x g stuck r out room none =
    let full = (resting p w side (r.rests side)).full x out in
    stir_by p w side g stuck r none (full_left (end_at w.world side) (r.on.holds.holds.ends side).fits full room)
    (λ so o rests taken q h. by_test so o rests (nat_lt (length (end_at (came_first w.world side) (other side)).taken) (length (end_at w.world side).accepted)) refl)
  where
    by_test : StirsOut w.world side → On p w (came_back w.world side) → step p side (in_world w (came_back w.world side)) ≡ None → (b : Bool)
        → nat_lt (length (end_at (came_first w.world side) (other side)).taken) (length (end_at w.world side).accepted) ≡ b
        → length (end_at (came_first w.world side) (other side)).taken < length (end_at w.world side).accepted
    by_test so o rests true i = ltb-true (length (end_at (came_first w.world side) (other side)).taken) (length (end_at w.world side).accepted) i
    by_test so o rests false i =
        let v : World = came_back w.world side in
        let all = so.settled (ltb-false (length (end_at (came_first w.world side) (other side)).taken) (length (end_at w.world side).accepted) i) in
        let free = not_full (end_at v side) (o.on.holds.holds.ends side).fits all (omega (arith, ap length (o.quiet.accepted side), room)) in
        let full = (resting p (in_world w v) side rests).full x (next_same p w v side o.quiet ∙ out) in
        absurd (cc (full, free))

waiting_by : {S : Type 0} (p : Parties S) (w : CallWorld) (side : Side) → PartiesLaws p → NoWorldIsStuck → AtRest p w
    → next_out p w (other side) ≡ None → (end_at w.world side).acknowledged ≤ length (end_at w.world (other side)).taken
    → length (handed_at w.world (other side)) < length (sent_at w.world side) → AdvancesBy p w
waiting_by p w side g stuck r none most left =
    let idle = (resting p w (other side) (r.rests (other side))).idle none in
    stir_by p w side g stuck r none (omega (arith, idle, most, left, handed_count w.world r.on.holds.holds (other side)))
    (λ so o rests taken q h.
    omega (arith, taken, handed_count (came_first w.world side) h (other side), ap length (q.handed (other side)), left))

idle_by : {S : Type 0} (p : Parties S) (w : CallWorld) → PartiesLaws p → NoWorldIsStuck → AllIsAnswered p.serving p.service
    → AtRest p w → w.listed < length p.calls → next_out p w A ≡ None → next_out p w B ≡ None
    → (b c : Bool) → nat_lt (length (handed_at w.world B)) (length (sent_at w.world A)) ≡ b
    → nat_lt (length (handed_at w.world A)) (length (sent_at w.world B)) ≡ c → AdvancesBy p w
idle_by p w g stuck sessions r left a b true c is that =
    waiting_by p w A g stuck r b (r.on.holds.holds.ends A).acknowledged (ltb-true (length (handed_at w.world B)) (length (sent_at w.world A)) is)
idle_by p w g stuck sessions r left a b false true is that =
    waiting_by p w B g stuck r a (r.on.holds.holds.ends B).acknowledged (ltb-true (length (handed_at w.world A)) (length (sent_at w.world B)) that)
idle_by p w g stuck sessions r left a b false false is that =
    let h = r.on.holds in
    let out_a = none_past (put_out p w A) (length (sent_at w.world A)) a in
    let out_b = none_past (put_out p w B) (length (sent_at w.world B)) b in
    let all_b = ltb-false (length (handed_at w.world B)) (length (sent_at w.world A)) is in
    let all_a = ltb-false (length (handed_at w.world A)) (length (sent_at w.world B)) that in
    let to : handed_at w.world B ≡ put_out p w A = same_list (handed_at w.world B) (put_out p w A) (server_front p w g h) (omega (arith, out_a, all_b)) in
    let back : handed_at w.world A ≡ put_out p w B = same_list (handed_at w.world A) (put_out p w B) (caller_front p w g h) (omega (arith, out_b, all_a)) in
    absurd (none_left p w g h (resting p w A (r.rests A)).caller (all_answered p w g sessions h to back) left)

further_by_events : {S : Type 0} (p : Parties S) (w : CallWorld) → PartiesLaws p → NoWorldIsStuck
    → AllIsAnswered p.serving p.service → CarriesAll p → AtRest p w → w.listed < length p.calls
    → (a b : Option Item) → next_out p w A ≡ a → next_out p w B ≡ b → AdvancesBy p w
further_by_events p w g stuck sessions room r left (Some x) (Some y) a b = absurd (not_both_out p w x y g sessions r.on a b ((resting p w B (r.rests B)).full y b))
further_by_events p w g stuck sessions room r left (Some x) None a b = sending_by p w A x g stuck r a (sends_room p w A x g r.on.holds room a) b
further_by_events p w g stuck sessions room r left None (Some y) a b = sending_by p w B y g stuck r b (sends_room p w B y g r.on.holds room b) a
further_by_events p w g stuck sessions room r left None None a b =
    idle_by p w g stuck sessions r left a b (nat_lt (length (handed_at w.world B)) (length (sent_at w.world A))) (nat_lt (length (handed_at w.world A)) (length (sent_at w.world B))) refl refl

-- ---- events that bring a play to its end

ends_by : {S : Type 0} (p : Parties S) (d : ℕ) (w : CallWorld) (b : Bool) → nat_lt w.listed (length p.calls) ≡ b → PartiesLaws p
    → NoWorldIsStuck → AllIsAnswered p.serving p.service → CarriesAll p → AtRest p w → bound p ≤ total w + d
    → CompletesByEvents p w
ends_by p d w false is g stuck sessions room r le =
    record { more = []; further = All-nil (IsFurther (length w.world.bag)); done = all_done p w g r.on.holds (ltb-false w.listed (length p.calls) is) }
ends_by p zero w true is g stuck sessions room r le =
    let a = further_by_events p w g stuck sessions room r (ltb-true w.listed (length p.calls) is) (next_out p w A) (next_out p w B) refl refl in
    let v = fold (call_happens p) w a.more in
    let now : AtRest p v = events_rest p w a.more g stuck r in
    absurd (omega (arith, a.rises, within_bound p v g now.on.holds, le))
ends_by p (suc d) w true is g stuck sessions room r le =
    let a = further_by_events p w g stuck sessions room r (ltb-true w.listed (length p.calls) is) (next_out p w A) (next_out p w B) refl refl in
    let v = fold (call_happens p) w a.more in
    let n : ℕ = length w.world.bag in
    let now : AtRest p v = events_rest p w a.more g stuck r in
    let c : CompletesByEvents p v = ends_by p d v (nat_lt v.listed (length p.calls)) refl g stuck sessions room now (omega (arith, a.rises, le)) in
    let longer : n ≤ length v.world.bag = events_longer p w a.more g in
    record {
      more = a.more ++ c.more;
      further = All-append (IsFurther n) a.more c.more a.further (All-weaker (IsFurther (length v.world.bag)) (IsFurther n) (λ e. further_before n (length v.world.bag) e longer) c.more c.further);
      done = subst (IsAllDone p) (sym (fold-append (call_happens p) w a.more c.more)) c.done;
    }

pub finishes_by : {S : Type 0} (p : Parties S) (w : CallWorld) → PartiesLaws p → NoWorldIsStuck → AllIsAnswered p.serving p.service
    → CarriesAll p → AtRest p w → CompletesByEvents p w
finishes_by p w g stuck sessions room r = ends_by p (bound p) w (nat_lt w.listed (length p.calls)) refl g stuck sessions room r (omega arith)

-- the play begins at rest
settled_here : {S : Type 0} (p : Parties S) (side : Side) (w : CallWorld) → PartiesLaws p → IsBetween p w
    → step p side (settles p side w) ≡ None
settled_here p side w g b =
    let v : CallWorld = stepped_out (step p side) w in
    let h : CallsHold p v = steps_hold p side w most_steps g b.holds in
    subst (λ (x : CallWorld). step p side x ≡ None) (sym (settles_is p side w)) (still_rests p v (in_world v (flushes v.world side)) side (flush_side p v side g h) (settles_end p side w g b))

begun_rests : {S : Type 0} (p : Parties S) (setup : Setup) → PartiesLaws p → NoWorldIsStuck → IsBetween p (call_start setup)
    → AtRest p (both_settled p setup)
begun_rests p setup g stuck b =
    let w : CallWorld = call_start setup in
    let v : CallWorld = settles p A w in
    let on : CallsGoOn p v = all_go_on p w (settling_steps A) g stuck (starts p setup stuck b) in
    settled_rest p B v g stuck on (settles_between p A w g b) (settled_here p A w g b)

pub completes_by_events : {S : Type 0} (p : Parties S) (setup : Setup) (es : List Event) → PartiesLaws p → NoWorldIsStuck
    → AllIsAnswered p.serving p.service → CarriesAll p → IsBetween p (call_start setup)
    → CompletesByEvents p (run_calls p setup es)
completes_by_events p setup es g stuck sessions room b =
    finishes_by p (run_calls p setup es) g stuck sessions room (events_rest p (both_settled p setup) es g stuck (begun_rests p setup g stuck b))
