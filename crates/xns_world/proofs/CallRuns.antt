-- What an event comes to, that each small step keeps what is always true, and what is true between events.
use Rattle.std.proofs.Common.{◌≡◌, ℕ, zero, suc, List, [], ◌∷◌, ◌++◌, fold, Option, Some, None, refl, sym, ◌∙◌, ap, ◌≤◌, length, take, subst, arith}
use Rattle.std.proofs.lemmas.List.Sums.{fold-append}
use Rattle.item_world.specs.declared.side.Side.{Side}
use Rattle.item_world.specs.Events as events
use Rattle.item_world.specs.Landing.{landing, world_reached}
use Rattle.item_world.specs.World.{World, flushes, start, end_at, moved, ticks, channel_of, sent_at, handed_at}
use Rattle.xns_world.proofs.CallCarries.{quiet_holds, faces, same_read, steps_hold, settles_end}
use Rattle.xns_world.specs.CallLaws.{PartiesLaws, ServerLaws}
use Rattle.xns_world.specs.CallOrder.{CallsHold, AllListed, IsBetween, MeetNoFault}
use Rattle.xns_world.specs.CallWorld.{Parties, CallWorld, in_world, step, CallStep, arrival, noise, ticking, acting, flushing, resending, telling, call_stepped, all_call_stepped, acting_steps, call_arrival_steps, call_deliveries, settles, call_delivers, calls_made, put_out, outcomes_read, call_start, call_happens, both_settled, run_calls}
use Rattle.xns_world.specs.Settling.{most_steps, onward, after_steps, stepped_out}
use Rattle.std.proofs.lemmas.Bool.{ltb-false}
use Rattle.std.proofs.lemmas.List.Elements.{All-nil}
use Rattle.courier_messages.specs.RawCalls.{RawCall}
use Rattle.courier_calls.specs.Calls.{SeenModel, Serving, decision, after_decision, outcomes, IsFitting}
use Rattle.courier_calls.specs.Caller.{answers}
use Rattle.courier_calls.specs.Server.{decided_calls}
use Rattle.xns_spp.specs.Sending.{after_send, after_take}
use Rattle.xns_spp.specs.State.{State}
use Rattle.xns_spp.specs.Fronts.{begins_length}
use Rattle.item_world.specs.declared.event.Event.{Event}
use Rattle.item_world.specs.declared.event.Event.TheVariants.{Deliver, Rest, Tick, Foreign, Send, Take}
use Rattle.item_world.specs.declared.setup.Setup.{Setup}
use Rattle.item_world.specs.declared.side.Side.TheVariants.{A, B}
use Rattle.xns_spp.specs.Growth.{Begins}
use Rattle.item_world.specs.Invariant.{Holds}
use Rattle.item_world.specs.Events.{undelivered}
use Rattle.item_world.specs.Later.{Later}
use Rattle.item_world.specs.Laws.{NetworkLaws}
use Rattle.item_world.specs.Network.{IsNetwork}
use Rattle.item_world.specs.Side.{other}
use Rattle.item_world.specs.declared.network.Network.{Network}
use Rattle.item_world.specs.Setup.{IsSetup, IsGood}
use Rattle.item_world.specs.Channel.{IsQuiet}
use Rattle.xns_world.proofs.Stepping.{by_step}

-- ---- what an event comes to

-- one step, and then n more
first_step : {X : Type 0} (next : X → Option X) (x : X) (n : ℕ) → after_steps next x (suc n) ≡ after_steps next (onward x (next x)) n
first_step next x zero = refl
first_step {X} next x (suc n) = ap (λ (y : X). onward y (next y)) (first_step next x n)

acting_all : {S : Type 0} (p : Parties S) (w : CallWorld) (side : Side) (n : ℕ) → all_call_stepped p w (acting_steps side n) ≡ after_steps (step p side) w n
acting_all p w side zero = refl
acting_all p w side (suc n) = acting_all p (onward w (step p side w)) side n ∙ sym (first_step (step p side) w n)

-- a side takes steps until none applies, and then flushes
abbrev pub flushed_out : {S : Type 0} → Parties S → Side → CallWorld → CallWorld
flushed_out p side w = in_world (stepped_out (step p side) w) (flushes (stepped_out (step p side) w).world side)

pub settles_is : {S : Type 0} (p : Parties S) (side : Side) (w : CallWorld) → settles p side w ≡ flushed_out p side w
settles_is p side w =
    fold-append (call_stepped p) w (acting_steps side most_steps) (flushing side ∷ [])
    ∙ ap (λ (v : CallWorld). in_world v (flushes v.world side)) (acting_all p w side most_steps)

-- packet k came to an end, which replied where a reply was owed, and then settles
pub arrived : {S : Type 0} (p : Parties S) (w : CallWorld) (k : ℕ) (l : Side × World) → landing w.world k ≡ Some l → call_delivers p w k ≡ settles p l.0 (in_world w l.1)
arrived p w k l is =
    ap (λ (o : Option (Side × World)). all_call_stepped p w (call_arrival_steps k o)) is
    ∙ ap (λ (o : Option (Side × World)). settles p l.0 (in_world w (world_reached w.world o))) is

pub arrived_nowhere : {S : Type 0} (p : Parties S) (w : CallWorld) (k : ℕ) → landing w.world k ≡ None → call_delivers p w k ≡ w
arrived_nowhere p w k none = ap (λ (o : Option (Side × World)). all_call_stepped p w (call_arrival_steps k o)) none

pub deliveries_all : {S : Type 0} (p : Parties S) (w : CallWorld) (ks : List ℕ) → all_call_stepped p w (call_deliveries p w ks) ≡ fold (call_delivers p) w ks
deliveries_all p w [] = refl
deliveries_all p w (k ∷ ks) =
    fold-append (call_stepped p) w (call_arrival_steps k (landing w.world k)) (call_deliveries p (call_delivers p w k) ks)
    ∙ deliveries_all p (call_delivers p w k) ks

-- ---- each small step keeps what is always true

-- a small step of the network alone
other_holds : {S : Type 0} (p : Parties S) (w : CallWorld) (s : events.SmallStep) → events.IsStep s → events.IsOther s → PartiesLaws p → CallsHold p w → CallsHold p (in_world w (events.stepped w.world s))
other_holds p w s fits other g h = quiet_holds p w (events.stepped w.world s) h (g.world.each w.world s fits h.holds) (g.answering.network.items.quiet w.world s other h.holds)

pub step_holds : {S : Type 0} (p : Parties S) (w : CallWorld) (s : CallStep) → PartiesLaws p → CallsHold p w → CallsHold p (call_stepped p w s)
step_holds p w (arrival k) g h = other_holds p w (events.arrival k) tt tt g h
step_holds p w (noise side bytes) g h = other_holds p w (events.noise side bytes) tt tt g h
step_holds p w (ticking side) g h = other_holds p w (events.ticking side) tt tt g h
step_holds p w (acting side) g h = steps_hold p side w (suc zero) g h
step_holds p w (flushing side) g h = other_holds p w (events.flushing side) tt tt g h
step_holds p w (resending side) g h = other_holds p w (events.resending side) tt tt g h
step_holds p w (telling side asks) g h = other_holds p w (events.telling side asks) tt tt g h

pub all_hold : {S : Type 0} (p : Parties S) (w : CallWorld) (ss : List CallStep) → PartiesLaws p → CallsHold p w → CallsHold p (all_call_stepped p w ss)
all_hold p w [] g h = h
all_hold p w (s ∷ ss) g h = all_hold p (call_stepped p w s) ss g (step_holds p w s g h)

-- ---- what the steps of a side leave

-- a side's steps leave the other end and the network; those of a server's side also the calls made and listed
pub record Leaves (side : Side) (w v : CallWorld) : Type 0 where
  pub there : end_at v.world (other side) ≡ end_at w.world (other side)
  pub network : (n : Network) → IsNetwork n w.world → IsNetwork n v.world
  pub later : Later w.world v.world
  pub made : side ≡ B → v.made ≡ w.made
  pub listed : side ≡ B → v.listed ≡ w.listed

leaves_itself : NetworkLaws → (side : Side) (w : CallWorld) → Leaves side w w
leaves_itself laws side w = record { there = refl; network = λ n h. h; later = laws.goes_on.itself w.world; made = λ b. refl; listed = λ b. refl }

-- an end moves that sends and takes nothing
leaves_moved : NetworkLaws → (side : Side) (w : CallWorld) (t : State) → t.taken ≡ (end_at w.world side).taken → Leaves side w (in_world w (moved w.world side t []))
leaves_moved laws side w t same = record {
  there = laws.moves.there w.world side t [];
  network = λ n h. laws.quiet n w.world side t h (ap length same);
  later = laws.goes_on.moved w.world side t [] (omega (arith, ap length same));
  made = λ b. refl;
  listed = λ b. refl;
}

step_leaves : {S : Type 0} (p : Parties S) → ServerLaws p.serving p.service → (side : Side) (w : CallWorld) → Leaves side w (onward w (step p side w))
step_leaves p laws side w =
    let on : Later w.world w.world = laws.network.goes_on.itself w.world in
    by_step p w (λ t o. Leaves t w (onward w o)) (record {
      sent = λ t x is full. leaves_moved laws.network t w (after_send (end_at w.world t) x) (laws.ends.hears.send (end_at w.world t) x).taken;
      fed = λ t is. leaves_moved laws.network t w (after_take (end_at w.world t)) (laws.ends.hears.take (end_at w.world t)).taken;
      listed = λ is. record { there = refl; network = λ n h. h; later = on; made = λ b. refl; listed = λ b. absurd (cc) };
      made = λ may. record { there = refl; network = λ n h. h; later = on; made = λ b. absurd (cc); listed = λ b. refl };
      rests = λ is. leaves_itself laws.network A w;
      stays = leaves_itself laws.network B w;
    }) side

pub steps_leave : {S : Type 0} (p : Parties S) → ServerLaws p.serving p.service → (side : Side) (w : CallWorld) (n : ℕ) → Leaves side w (after_steps (step p side) w n)
steps_leave p laws side w zero = leaves_itself laws.network side w
steps_leave p laws side w (suc n) =
    let v = after_steps (step p side) w n in
    let before = steps_leave p laws side w n in
    let now = step_leaves p laws side v in
    record {
      there = now.there ∙ before.there;
      network = λ m h. now.network m (before.network m h);
      later = laws.network.goes_on.further w.world v.world (onward v (step p side v)).world before.later now.later;
      made = λ b. now.made b ∙ before.made b;
      listed = λ b. now.listed b ∙ before.listed b;
    }

-- ---- each outcome that is there was listed

step_none : {S : Type 0} (p : Parties S) (w : CallWorld) (side : Side) → step p side w ≡ None → side ≡ A → AllListed p w
step_none p w side = by_step p w (λ t o. o ≡ None → t ≡ A → AllListed p w) (record {
  sent = λ t x is full none. absurd (cc);
  fed = λ t is none. absurd (cc);
  listed = λ is none. absurd (cc);
  made = λ may none. absurd (cc);
  rests = λ is none a. ltb-false w.listed (length (outcomes_read p w)) is;
  stays = λ none a. absurd (cc);
}) side

left_listed : {S : Type 0} (p : Parties S) (w v : CallWorld) → Leaves B w v → AllListed p w → AllListed p v
left_listed p w v l h =
    let same : outcomes_read p v ≡ outcomes_read p w =
    ap (λ (s : State). answers p.serving.table (calls_made p v) (take s.handed s.taken)) l.there
    ∙ ap (λ (n : ℕ). answers p.serving.table (take n p.calls) (handed_at w.world A)) (l.made refl) in
    omega (arith, h, ap (length {A = SeenModel}) same, l.listed refl)

quiet_listed : {S : Type 0} (p : Parties S) (w : CallWorld) (v : World) → IsQuiet (channel_of w.world) (channel_of v) → AllListed p w → AllListed p (in_world w v)
quiet_listed p w v q h = subst (λ (rs : List SeenModel). length rs ≤ w.listed) (sym (same_read p w v (q.handed A))) h

stepped_listed : {S : Type 0} (p : Parties S) (side : Side) (w : CallWorld) → PartiesLaws p → IsBetween p w → AllListed p (stepped_out (step p side) w)
stepped_listed p A w g b = step_none p (stepped_out (step p A) w) A (settles_end p A w g b) refl
stepped_listed p B w g b = left_listed p w (stepped_out (step p B) w) (steps_leave p g.answering B w most_steps) b.listed

-- ---- between events

pub quiet_between : {S : Type 0} (p : Parties S) (w : CallWorld) (v : World) → IsBetween p w → Holds v → IsQuiet (channel_of w.world) (channel_of v) → IsBetween p (in_world w v)
quiet_between p w v b holds q = record { holds = quiet_holds p w v b.holds holds q; listed = quiet_listed p w v q b.listed }

pub settles_between : {S : Type 0} (p : Parties S) (side : Side) (w : CallWorld) → PartiesLaws p → IsBetween p w → IsBetween p (settles p side w)
settles_between p side w g b =
    let v = stepped_out (step p side) w in
    let h = steps_hold p side w most_steps g b.holds in
    let flushed = quiet_between p v (flushes v.world side) (record { holds = h; listed = stepped_listed p side w g b }) (g.world.each v.world (events.flushing side) tt h.holds) (g.answering.network.items.quiet v.world (events.flushing side) tt h.holds) in
    subst (IsBetween p) (sym (settles_is p side w)) flushed

delivered_between : {S : Type 0} (p : Parties S) (w : CallWorld) (k : ℕ) (o : Option (Side × World)) → landing w.world k ≡ o → PartiesLaws p → IsBetween p w → IsBetween p (call_delivers p w k)
delivered_between p w k None is g b = subst (IsBetween p) (sym (arrived_nowhere p w k is)) b
delivered_between p w k (Some l) is g b =
    let landed = quiet_between p w l.1 b (g.world.land w.world k l b.holds.holds is) (g.answering.network.items.land w.world k l b.holds.holds is) in
    subst (IsBetween p) (sym (arrived p w k l is)) (settles_between p l.0 (in_world w l.1) g landed)

pub all_between : {S : Type 0} (p : Parties S) (w : CallWorld) (ks : List ℕ) → PartiesLaws p → IsBetween p w → IsBetween p (fold (call_delivers p) w ks)
all_between p w [] g b = b
all_between p w (k ∷ ks) g b = all_between p (call_delivers p w k) ks g (delivered_between p w k (landing w.world k) refl g b)

pub tick_between : {S : Type 0} (p : Parties S) (w : CallWorld) (side : Side) → PartiesLaws p → IsBetween p w → IsBetween p (in_world w (ticks w.world side))
tick_between p w side g b = quiet_between p w (ticks w.world side) b (g.world.each w.world (events.ticking side) tt b.holds.holds) (g.answering.network.items.quiet w.world (events.ticking side) tt b.holds.holds)

pub happens_between : {S : Type 0} (p : Parties S) (w : CallWorld) (e : Event) → PartiesLaws p → IsBetween p w → IsBetween p (call_happens p w e)
happens_between p w (Deliver k) g b = delivered_between p w k (landing w.world k) refl g b
happens_between p w Rest g b = subst (IsBetween p) (sym (deliveries_all p w (undelivered 0 w.world.bag))) (all_between p w (undelivered 0 w.world.bag) g b)
happens_between p w (Tick side) g b = settles_between p side (in_world w (ticks w.world side)) g (tick_between p w side g b)
happens_between p w (Foreign side bytes) g b = subst (λ (v : World). IsBetween p (in_world w v)) (sym (g.foreign w.world side bytes)) b
happens_between p w (Send side x) g b = b
happens_between p w (Take side) g b = b

pub run_between : {S : Type 0} (p : Parties S) (w : CallWorld) (es : List Event) → PartiesLaws p → IsBetween p w → IsBetween p (fold (call_happens p) w es)
run_between p w [] g b = b
run_between p w (e ∷ es) g b = run_between p (call_happens p w e) es g (happens_between p w e g b)

-- ---- the start

none_read : {S : Type 0} (p : Parties S) (setup : Setup) → PartiesLaws p → length (outcomes_read p (call_start setup)) ≡ 0
none_read p setup g =
    let f = g.agree [] [] [] (All-nil IsFitting) (put_out p (call_start setup) A, refl) (put_out p (call_start setup) B, refl) in
    let none = begins_length (decided_calls []) [] f.once in
    omega (arith, f.fewer, none)

pub start_between : {S : Type 0} (p : Parties S) (setup : Setup) → PartiesLaws p → IsSetup setup → IsGood setup → IsBetween p (call_start setup)
start_between p setup g fits good = record {
  holds = record {
    holds = g.world.start setup fits good;
    out = λ side. elim side as (λ s. Begins (sent_at (start setup) s) (put_out p (call_start setup) s)) [ A ↦ (put_out p (call_start setup) A, refl) | B ↦ (put_out p (call_start setup) B, refl) ];
    made = omega arith;
    listed = omega arith;
  };
  listed = omega (arith, none_read p setup g);
}

pub begun_between : {S : Type 0} (p : Parties S) (setup : Setup) → PartiesLaws p → IsSetup setup → IsGood setup → IsBetween p (both_settled p setup)
begun_between p setup g fits good = settles_between p B (settles p A (call_start setup)) g (settles_between p A (call_start setup) g (start_between p setup g fits good))

pub always_between : {S : Type 0} (p : Parties S) (setup : Setup) (events : List Event) → PartiesLaws p → IsSetup setup → IsGood setup → IsBetween p (run_calls p setup events)
always_between p setup events g fits good = run_between p (both_settled p setup) events g (begun_between p setup g fits good)

-- ---- what the headline needs

outcomes_more : {S : Type 0} (serving : Serving S) (s : S) (cs more : List RawCall) → Begins (outcomes serving s cs) (outcomes serving s (cs ++ more))
unfolding outcomes
outcomes_more serving s [] more = (outcomes serving s more, refl)
outcomes_more serving s (c ∷ cs) more =
    let later = outcomes_more serving (after_decision serving s c) cs more in
    (later.0, ap (λ (l : List SeenModel). decision serving s c ∷ l) later.1)

pub outcomes_begin : {S : Type 0} (serving : Serving S) (s : S) (xs ys : List RawCall) → Begins xs ys → Begins (outcomes serving s xs) (outcomes serving s ys)
outcomes_begin serving s xs ys b = subst (λ (l : List RawCall). Begins (outcomes serving s xs) (outcomes serving s l)) b.1 (outcomes_more serving s xs b.0)

pub meet_no_fault : {S : Type 0} (p : Parties S) (w : CallWorld) → PartiesLaws p → CallsHold p w → MeetNoFault p w
meet_no_fault p w g h = let f = faces p w g h in record { server = f.server; caller = f.caller }
