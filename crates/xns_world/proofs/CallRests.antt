-- Between events no side can take a step, and a side that settles comes further or stays as it was.
use Rattle.std.proofs.Common.{◌≡◌, ℕ, zero, suc, ◌<◌, ◌≤◌, Bool, true, false, nat_lt, List, [], ◌∷◌, length, fold, Option, Some, None, refl, sym, ◌∙◌, ap, subst, arith}
use Rattle.std.specs.Prelude.{if◌then◌else◌, ◌&&◌, ◌==◌}
use Rattle.std.proofs.lemmas.Bool.{le-ltb}
use Rattle.courier_calls.specs.Calls.{SeenModel}
use Rattle.xns_spp.specs.Ends.{is_open}
use Rattle.xns_spp.specs.Sending.{is_full, waiting_count, after_send, after_take, after_flush, flush_answer, after_tick, tick_answer}
use Rattle.xns_spp.specs.State.{State, send_limit}
use Rattle.xns_spp.specs.declared.item.Item.{Item}
use Rattle.item_world.proofs.Sides.{same_end, same_other}
use Rattle.item_world.specs.Channel.{IsQuiet}
use Rattle.item_world.specs.Events as events
use Rattle.item_world.specs.Events.{undelivered}
use Rattle.item_world.specs.Landing.{landing, world_reached}
use Rattle.item_world.specs.Laws.{NoWorldIsStuck}
use Rattle.item_world.specs.Side.{other}
use Rattle.item_world.specs.World.{World, end_at, flushes, ticks, channel_of}
use Rattle.item_world.specs.declared.event.Event.{Event}
use Rattle.item_world.specs.declared.event.Event.TheVariants.{Deliver, Rest, Tick, Foreign, Send, Take}
use Rattle.item_world.specs.declared.side.Side.{Side}
use Rattle.item_world.specs.declared.side.Side.TheVariants.{A, B}
use Rattle.xns_world.proofs.CallCarries.{same_read, steps_hold, settles_end}
use Rattle.xns_world.proofs.CallMoves.{total, Rises, quiet_total, step_rises, other_on, all_go_on}
use Rattle.xns_world.proofs.CallStirs.{Resting, resting, next_same, quiet_caller}
use Rattle.xns_world.proofs.CallProgress.{bag_longer}
use Rattle.xns_world.proofs.CallRuns.{settles_is, arrived, arrived_nowhere, deliveries_all, steps_leave, settles_between, quiet_between}
use Rattle.xns_world.proofs.Stepping.{steps_are}
use Rattle.xns_world.specs.CallLaws.{PartiesLaws}
use Rattle.xns_world.specs.CallOrder.{CallsHold, IsBetween}
use Rattle.xns_world.specs.CallProgress.{CallsGoOn}
use Rattle.xns_world.specs.CallWorld.{Parties, CallWorld, next_out, outcomes_read, in_world, has_outcome, may_call, caller_step, or_caller, step_with, step, lists_outcome, makes, settling_steps, settles, call_delivers, call_steps_of, call_happens}
use Rattle.xns_world.specs.Settling.{onward, after_steps, most_steps, stepped_out}

-- ---- a side that is as it was rests as it did

pub record SameSide {S : Type 0} (p : Parties S) (w v : CallWorld) (side : Side) : Type 0 where
  pub next : next_out p v side ≡ next_out p w side
  pub full : is_full (end_at v.world side) ≡ is_full (end_at w.world side)
  pub waiting : waiting_count (end_at v.world side) ≡ waiting_count (end_at w.world side)
  pub caller : caller_step p w side ≡ None → caller_step p v side ≡ None

pub rests_by : {S : Type 0} (p : Parties S) (w v : CallWorld) (side : Side) (o : Option Item) → next_out p w side ≡ o
    → SameSide p w v side → Resting p w side → step p side v ≡ None
rests_by p w v side (Some x) e same rest =
    let s : State = end_at v.world side in
    ap (λ (o : Option Item). step_with p v side o) (same.next ∙ e)
    ∙ (ap (λ (b : Bool). or_caller p v side (if b then None else Some (after_send s x))) (same.full ∙ rest.full x e) ∙ same.caller rest.caller)
rests_by p w v side None e same rest =
    let s : State = end_at v.world side in
    let none : nat_lt 0 (waiting_count s) ≡ false = le-ltb 0 (waiting_count s) (omega (arith, same.waiting, rest.idle e)) in
    ap (λ (o : Option Item). step_with p v side o) (same.next ∙ e)
    ∙ (ap (λ (b : Bool). or_caller p v side (if b then Some (after_take s) else None)) none ∙ same.caller rest.caller)

pub still_rests : {S : Type 0} (p : Parties S) (w v : CallWorld) (side : Side) → SameSide p w v side → step p side w ≡ None
    → step p side v ≡ None
still_rests p w v side same none = rests_by p w v side (next_out p w side) refl same (resting p w side none)

pub caller_same : {S : Type 0} (p : Parties S) (w v : CallWorld) (side : Side) → has_outcome p v ≡ has_outcome p w
    → may_call p v ≡ may_call p w → caller_step p w side ≡ None → caller_step p v side ≡ None
caller_same p w v A h m none =
    let q = quiet_caller p w (has_outcome p w) (may_call p w) none in
    ap (λ (b : Bool). if b then Some (lists_outcome v) else if may_call p v then Some (makes v) else None) (h ∙ q.0) ∙ ap (λ (b : Bool). if b then Some (makes v) else None) (m ∙ q.1)
caller_same p w v B h m none = refl

-- whether a call may be made, by how many outcomes were read
abbrev pub may_with : {S : Type 0} → Parties S → CallWorld → ℕ → Bool
may_with p w n = n == w.made && nat_lt w.made (length p.calls)

-- where the network alone moved, a side is the same
pub quiet_side : {S : Type 0} (p : Parties S) (w : CallWorld) (v : World) (side : Side)
    → IsQuiet (channel_of w.world) (channel_of v) → is_full (end_at v side) ≡ is_full (end_at w.world side)
    → waiting_count (end_at v side) ≡ waiting_count (end_at w.world side)
    → SameSide p w (in_world w v) side
quiet_side p w v side q full waiting =
    let read : outcomes_read p (in_world w v) ≡ outcomes_read p w = same_read p w v (q.handed A) in
    record {
      next = next_same p w v side q;
      full = full;
      waiting = waiting;
      caller = caller_same p w (in_world w v) side (ap (λ (l : List SeenModel). nat_lt w.listed (length l)) read)
          (ap (λ (l : List SeenModel). may_with p w (length l)) read);
    }

-- where the other side moved and this one's end stayed, this side is the same
pub same_a : {S : Type 0} (p : Parties S) (w v : CallWorld) → v.world.a ≡ w.world.a → v.made ≡ w.made → v.listed ≡ w.listed
    → SameSide p w v A
same_a p w v e m l =
    let f : State → ℕ → ℕ → CallWorld = λ s i j. record { world = record w.world { a = s }; made = i; listed = j } in
    record {
      next = ap (λ (s : State). next_out p (f s v.made v.listed) A) e ∙ ap (λ (i : ℕ). next_out p (f w.world.a i v.listed) A) m;
      full = ap is_full e;
      waiting = ap waiting_count e;
      caller = caller_same p w v A
          (ap (λ (s : State). has_outcome p (f s v.made v.listed)) e ∙ (ap (λ (i : ℕ). has_outcome p (f w.world.a i v.listed)) m ∙ ap (λ (j : ℕ). has_outcome p (f w.world.a w.made j)) l))
          (ap (λ (s : State). may_call p (f s v.made v.listed)) e ∙ ap (λ (i : ℕ). may_call p (f w.world.a i v.listed)) m);
    }

pub same_b : {S : Type 0} (p : Parties S) (w v : CallWorld) → v.world.b ≡ w.world.b → SameSide p w v B
same_b p w v e =
    let f : State → CallWorld = λ s. record w { world = record w.world { b = s } } in
    record { next = ap (λ (s : State). next_out p (f s) B) e; full = ap is_full e; waiting = ap waiting_count e; caller = λ none. refl }

-- ---- a flush and a tick leave a side as it was

pub sent_full : (s : State) (n : ℕ) (b : Bool)
    → (is_full (if b then record s { sent = n } else s) ≡ is_full s) × (waiting_count (if b then record s { sent = n } else s) ≡ waiting_count s)
sent_full s n true = (refl, refl)
sent_full s n false = (refl, refl)

pub flush_side : {S : Type 0} (p : Parties S) (w : CallWorld) (side : Side) → PartiesLaws p → CallsHold p w
    → SameSide p w (in_world w (flushes w.world side)) side
flush_side p w side g h =
    let s : State = end_at w.world side in
    let e = same_end w.world side (after_flush s) (flush_answer s) in
    let l = sent_full s (send_limit s) (is_open s.ends) in
    quiet_side p w (flushes w.world side) side (g.answering.network.items.quiet w.world (events.flushing side) tt h.holds) (ap is_full e ∙ l.0) (ap waiting_count e ∙ l.1)

pub tick_side : {S : Type 0} (p : Parties S) (w : CallWorld) (side : Side) → PartiesLaws p → CallsHold p w
    → SameSide p w (in_world w (ticks w.world side)) side
tick_side p w side g h =
    let s : State = end_at w.world side in
    let e = same_end w.world side (after_tick s) (tick_answer s) in
    let l = sent_full s (send_limit s) (is_open s.ends && nat_lt s.acknowledged (send_limit s)) in
    quiet_side p w (ticks w.world side) side (g.answering.network.items.quiet w.world (events.ticking side) tt h.holds) (ap is_full e ∙ l.0) (ap waiting_count e ∙ l.1)

-- ---- a side settles

pub steps_none : {X : Type 0} (next : X → Option X) (x : X) → next x ≡ None → (n : ℕ) → after_steps next x n ≡ x
steps_none next x none zero = refl
steps_none {X} next x none (suc n) = ap (λ (y : X). onward y (next y)) (steps_none next x none n) ∙ ap (λ (o : Option X). onward x o) none

pub settle_flush : {S : Type 0} (p : Parties S) (side : Side) (w : CallWorld) → step p side w ≡ None
    → settles p side w ≡ in_world w (flushes w.world side)
settle_flush p side w none = settles_is p side w ∙ ap (λ (v : CallWorld). in_world v (flushes v.world side)) (steps_none (step p side) w none most_steps)

pub no_less : (v : CallWorld) (o : Option CallWorld) → Rises v o → total v ≤ total (onward v o)
no_less v None h = omega arith
no_less v (Some u) h = omega (arith, h)

pub rises_first : {S : Type 0} (p : Parties S) (side : Side) (w u : CallWorld) (n : ℕ) → PartiesLaws p → CallsHold p w
    → step p side w ≡ Some u → total w < total (after_steps (step p side) w (suc n))
rises_first p side w u zero g h is = subst (λ (o : Option CallWorld). total w < total (onward w o)) (sym is) (subst (λ (o : Option CallWorld). Rises w o) is (step_rises p w side g h))
rises_first p side w u (suc n) g h is =
    let v : CallWorld = after_steps (step p side) w (suc n) in
    omega (arith, rises_first p side w u n g h is, no_less v (step p side v) (step_rises p v side g (steps_hold p side w (suc n) g h)))

pub settle_rises : {S : Type 0} (p : Parties S) (side : Side) (w u : CallWorld) → PartiesLaws p → CallsHold p w
    → step p side w ≡ Some u → total w < total (settles p side w)
settle_rises p side w u g h is =
    let v : CallWorld = stepped_out (step p side) w in
    let up : total w < total v = subst (λ (n : ℕ). total w < total (after_steps (step p side) w n)) (sym steps_are) (rises_first p side w u 256 g h is) in
    let now : CallsHold p v = steps_hold p side w most_steps g h in
    let same = quiet_total v (flushes v.world side) (g.answering.network.items.quiet v.world (events.flushing side) tt now.holds) in
    omega (arith, up, same, ap total (settles_is p side w))

-- ---- between events no side can take a step

pub record AtRest {S : Type 0} (p : Parties S) (w : CallWorld) : Type 0 where
  pub on : CallsGoOn p w
  pub between : IsBetween p w
  pub rests : (side : Side) → step p side w ≡ None

pub two_sides : (P : Side → Type 0) (side : Side) → P side → P (other side) → (t : Side) → P t
two_sides P A here there A = here
two_sides P A here there B = there
two_sides P B here there A = there
two_sides P B here there B = here

-- a side that rests still rests as the other one takes its steps
pub left_resting : {S : Type 0} (p : Parties S) (side : Side) (w : CallWorld) → PartiesLaws p → step p (other side) w ≡ None
    → step p (other side) (stepped_out (step p side) w) ≡ None
left_resting p A w g none = let l = steps_leave p g.answering A w most_steps in still_rests p w (stepped_out (step p A) w) B (same_b p w (stepped_out (step p A) w) l.there) none
left_resting p B w g none = let l = steps_leave p g.answering B w most_steps in still_rests p w (stepped_out (step p B) w) A (same_a p w (stepped_out (step p B) w) l.there (l.made refl) (l.listed refl)) none

pub settled_rest : {S : Type 0} (p : Parties S) (side : Side) (w : CallWorld) → PartiesLaws p → NoWorldIsStuck → CallsGoOn p w
    → IsBetween p w → step p (other side) w ≡ None → AtRest p (settles p side w)
settled_rest p side w g stuck on b none =
    let v : CallWorld = stepped_out (step p side) w in
    let h : CallsHold p v = steps_hold p side w most_steps g b.holds in
    let q = g.answering.network.items.quiet v.world (events.flushing side) tt h.holds in
    let t : State = end_at v.world side in
    let e = same_other v.world side (after_flush t) (flush_answer t) in
    let u : CallWorld = in_world v (flushes v.world side) in
    let here : step p side u ≡ None = still_rests p v u side (flush_side p v side g h) (settles_end p side w g b) in
    let there : step p (other side) u ≡ None = still_rests p v u (other side) (quiet_side p v (flushes v.world side) (other side) q (ap is_full e) (ap waiting_count e)) (left_resting p side w g none) in
    record {
      on = all_go_on p w (settling_steps side) g stuck on;
      between = settles_between p side w g b;
      rests = λ s. subst (λ (x : CallWorld). step p s x ≡ None) (sym (settles_is p side w)) (two_sides (λ r. step p r u ≡ None) side here there s);
    }

pub delivered_rest : {S : Type 0} (p : Parties S) (w : CallWorld) (k : ℕ) (o : Option (Side × World)) → landing w.world k ≡ o
    → PartiesLaws p → NoWorldIsStuck → AtRest p w → AtRest p (call_delivers p w k)
delivered_rest p w k None is g stuck r = subst (AtRest p) (sym (arrived_nowhere p w k is)) r
delivered_rest p w k (Some l) is g stuck r =
    let h = r.between.holds.holds in
    let q = g.answering.network.items.land w.world k l h is in
    let e = g.answering.network.moves.land w.world k l is in
    let v : CallWorld = in_world w l.1 in
    let on : CallsGoOn p v = subst (λ (o : Option (Side × World)). CallsGoOn p (in_world w (world_reached w.world o))) is (other_on p w (events.arrival k) tt tt g stuck r.on) in
    let none : step p (other l.0) v ≡ None = still_rests p w v (other l.0) (quiet_side p w l.1 (other l.0) q (ap is_full e) (ap waiting_count e)) (r.rests (other l.0)) in
    subst (AtRest p) (sym (arrived p w k l is)) (settled_rest p l.0 v g stuck on (quiet_between p w l.1 r.between (g.world.land w.world k l h is) q) none)

pub all_rest : {S : Type 0} (p : Parties S) (w : CallWorld) (ks : List ℕ) → PartiesLaws p → NoWorldIsStuck → AtRest p w
    → AtRest p (fold (call_delivers p) w ks)
all_rest p w [] g stuck r = r
all_rest p w (k ∷ ks) g stuck r = all_rest p (call_delivers p w k) ks g stuck (delivered_rest p w k (landing w.world k) refl g stuck r)

pub event_rests : {S : Type 0} (p : Parties S) (w : CallWorld) (e : Event) → PartiesLaws p → NoWorldIsStuck → AtRest p w
    → AtRest p (call_happens p w e)
event_rests p w (Deliver k) g stuck r = delivered_rest p w k (landing w.world k) refl g stuck r
event_rests p w Rest g stuck r = subst (AtRest p) (sym (deliveries_all p w (undelivered 0 w.world.bag))) (all_rest p w (undelivered 0 w.world.bag) g stuck r)
event_rests p w (Tick side) g stuck r =
    let s : State = end_at w.world side in
    let h = r.between.holds.holds in
    let q = g.answering.network.items.quiet w.world (events.ticking side) tt h in
    let v : CallWorld = in_world w (ticks w.world side) in
    let e = same_other w.world side (after_tick s) (tick_answer s) in
    let none : step p (other side) v ≡ None = still_rests p w v (other side) (quiet_side p w (ticks w.world side) (other side) q (ap is_full e) (ap waiting_count e)) (r.rests (other side)) in
    settled_rest p side v g stuck (other_on p w (events.ticking side) tt tt g stuck r.on) (quiet_between p w (ticks w.world side) r.between (g.world.each w.world (events.ticking side) tt h) q) none
event_rests p w (Foreign side bytes) g stuck r = subst (λ (v : World). AtRest p (in_world w v)) (sym (g.foreign w.world side bytes)) r
event_rests p w (Send side x) g stuck r = r
event_rests p w (Take side) g stuck r = r

pub events_rest : {S : Type 0} (p : Parties S) (w : CallWorld) (es : List Event) → PartiesLaws p → NoWorldIsStuck → AtRest p w
    → AtRest p (fold (call_happens p) w es)
events_rest p w [] g stuck r = r
events_rest p w (e ∷ es) g stuck r = events_rest p (call_happens p w e) es g stuck (event_rests p w e g stuck r)

-- ---- the bag only grows

pub events_longer : {S : Type 0} (p : Parties S) (w : CallWorld) (es : List Event) → PartiesLaws p
    → length w.world.bag ≤ length (fold (call_happens p) w es).world.bag
events_longer p w [] g = omega arith
events_longer p w (e ∷ es) g = omega (arith, bag_longer p w (call_steps_of p w e) g, events_longer p (call_happens p w e) es g)
