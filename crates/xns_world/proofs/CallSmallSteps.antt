-- The small steps that finish a play of calls: both sides step to rest, and then come the small steps of events that finish it.
use Rattle.std.proofs.Common.{◌≡◌, ℕ, zero, suc, ◌+◌, ◌<◌, ◌≤◌, List, [], ◌∷◌, ◌++◌, length, fold, Option, Some, None, refl, sym, ◌∙◌, subst, arith}
use Rattle.std.specs.Prelude.{All}
use Rattle.std.proofs.lemmas.Bool.{ltb-false}
use Rattle.std.proofs.lemmas.List.Elements.{All-nil, All-cons, All-append, All-weaker, All-head, All-tail}
use Rattle.std.proofs.lemmas.List.Sums.{fold-append}
use Rattle.courier_calls.specs.Laws.{AllIsAnswered}
use Rattle.item_world.specs.Landing.{landing}
use Rattle.item_world.specs.Laws.{NoWorldIsStuck}
use Rattle.item_world.specs.Progress.{IsFurther}
use Rattle.item_world.specs.World.{World}
use Rattle.item_world.specs.declared.event.Event.{Event}
use Rattle.item_world.specs.declared.event.Event.TheVariants.{Deliver, Rest, Tick, Foreign, Send, Take}
use Rattle.item_world.specs.declared.side.Side.{Side}
use Rattle.item_world.specs.declared.side.Side.TheVariants.{A, B}
use Rattle.item_world.proofs.Finishing.{further_before}
use Rattle.xns_world.proofs.CallEvents.{finishes_by}
use Rattle.xns_world.proofs.CallMoves.{total, Rises, step_rises, step_goes_on, all_go_on}
use Rattle.xns_world.proofs.CallProgress.{bound, within_bound, bag_longer}
use Rattle.xns_world.proofs.CallRests.{AtRest, two_sides}
use Rattle.xns_world.proofs.CallStirs.{resting, quiet_caller}
use Rattle.xns_world.specs.CallLaws.{PartiesLaws}
use Rattle.xns_world.specs.CallProgress.{IsPlainCall, IsAllDone, CarriesAll, CallsGoOn, Completes, CompletesByEvents}
use Rattle.xns_world.specs.CallWorld.{Parties, CallWorld, CallStep, ticking, acting, flushing, arrival, acting_steps, settling_steps, call_arrival_steps, call_steps_of, call_happens, call_stepped, all_call_stepped, outcomes_read, has_outcome, may_call, step}
use Rattle.xns_world.specs.Settling.{onward, most_steps}

-- ---- each side takes steps until none applies

record ComesToRest {S : Type 0} (p : Parties S) (w : CallWorld) : Type 0 where
  more : List CallStep
  plain : (n : ℕ) → All (IsPlainCall n) more
  rests : AtRest p (all_call_stepped p w more)

-- where the caller takes no step each outcome is listed
at_rest : {S : Type 0} (p : Parties S) (w : CallWorld) → CallsGoOn p w → step p A w ≡ None → step p B w ≡ None → AtRest p w
at_rest p w on a b =
    let q = quiet_caller p w (has_outcome p w) (may_call p w) (resting p w A a).caller in
    record {
      on = on;
      between = record { holds = on.holds; listed = ltb-false w.listed (length (outcomes_read p w)) q.0 };
      rests = two_sides (λ t. step p t w ≡ None) A a b;
    }

acts_first : {S : Type 0} (p : Parties S) (w v : CallWorld) (side : Side) → step p side w ≡ Some v → ComesToRest p v
    → ComesToRest p w
acts_first p w v side is c = record {
  more = acting side ∷ c.more;
  plain = λ n. All-cons (IsPlainCall n) (acting side) c.more tt (c.plain n);
  rests = subst (λ (o : Option CallWorld). AtRest p (all_call_stepped p (onward w o) c.more)) (sym is) c.rests;
}

acted : {S : Type 0} (p : Parties S) (w v : CallWorld) (side : Side) → PartiesLaws p → NoWorldIsStuck → CallsGoOn p w
    → step p side w ≡ Some v → CallsGoOn p v × (total w < total v)
acted p w v side g stuck on is = (
  subst (λ (o : Option CallWorld). CallsGoOn p (onward w o)) is (step_goes_on p w (acting side) g stuck on),
  subst (λ (o : Option CallWorld). Rises w o) is (step_rises p w side g on.holds),
)

come_to_rest : {S : Type 0} (p : Parties S) (d : ℕ) (w : CallWorld) (a b : Option CallWorld) → step p A w ≡ a → step p B w ≡ b
    → PartiesLaws p → NoWorldIsStuck → CallsGoOn p w → bound p ≤ total w + d → ComesToRest p w
come_to_rest p d w None None a b g stuck on le = record { more = []; plain = λ n. All-nil (IsPlainCall n); rests = at_rest p w on a b }
come_to_rest p zero w (Some v) o a b g stuck on le =
    let s = acted p w v A g stuck on a in absurd (omega (arith, s.1, within_bound p v g s.0.holds, le))
come_to_rest p zero w None (Some v) a b g stuck on le =
    let s = acted p w v B g stuck on b in absurd (omega (arith, s.1, within_bound p v g s.0.holds, le))
come_to_rest p (suc d) w (Some v) o a b g stuck on le =
    let s = acted p w v A g stuck on a in
    acts_first p w v A a (come_to_rest p d v (step p A v) (step p B v) refl refl g stuck s.0 (omega (arith, s.1, le)))
come_to_rest p (suc d) w None (Some v) a b g stuck on le =
    let s = acted p w v B g stuck on b in
    acts_first p w v B b (come_to_rest p d v (step p A v) (step p B v) refl refl g stuck s.0 (omega (arith, s.1, le)))

-- ---- the small steps of events

-- the small steps of each event, in the world that the events before it lead to
steps_along : {S : Type 0} → Parties S → CallWorld → List Event → List CallStep
steps_along p w [] = []
steps_along p w (e ∷ es) = call_steps_of p w e ++ steps_along p (call_happens p w e) es

along_run : {S : Type 0} (p : Parties S) (w : CallWorld) (es : List Event)
    → all_call_stepped p w (steps_along p w es) ≡ fold (call_happens p) w es
unfolding steps_along
along_run p w [] = refl
along_run p w (e ∷ es) =
    fold-append (call_stepped p) w (call_steps_of p w e) (steps_along p (call_happens p w e) es) ∙ along_run p (call_happens p w e) es

acting_plain : (n : ℕ) (side : Side) (m : ℕ) → All (IsPlainCall n) (acting_steps side m)
acting_plain n side zero = All-nil (IsPlainCall n)
acting_plain n side (suc m) = All-cons (IsPlainCall n) (acting side) (acting_steps side m) tt (acting_plain n side m)

settling_plain : (n : ℕ) (side : Side) → All (IsPlainCall n) (settling_steps side)
settling_plain n side =
    All-append (IsPlainCall n) (acting_steps side most_steps) (flushing side ∷ []) (acting_plain n side most_steps)
    (All-cons (IsPlainCall n) (flushing side) [] tt (All-nil (IsPlainCall n)))

delivery_plain : (n k : ℕ) (o : Option (Side × World)) → n ≤ k → All (IsPlainCall n) (call_arrival_steps k o)
delivery_plain n k None h = All-nil (IsPlainCall n)
delivery_plain n k (Some l) h = All-cons (IsPlainCall n) (arrival k) (settling_steps l.0) h (settling_plain n l.0)

event_plain : {S : Type 0} (p : Parties S) (n : ℕ) (w : CallWorld) (e : Event) → IsFurther n e
    → All (IsPlainCall n) (call_steps_of p w e)
event_plain p n w (Deliver k) h = delivery_plain n k (landing w.world k) h
event_plain p n w Rest h = absurd h
event_plain p n w (Tick side) h = All-cons (IsPlainCall n) (ticking side) (settling_steps side) tt (settling_plain n side)
event_plain p n w (Foreign side bytes) h = absurd h
event_plain p n w (Send side x) h = absurd h
event_plain p n w (Take side) h = All-nil (IsPlainCall n)

along_plain : {S : Type 0} (p : Parties S) (n : ℕ) (w : CallWorld) (es : List Event) → All (IsFurther n) es
    → All (IsPlainCall n) (steps_along p w es)
unfolding steps_along
along_plain p n w [] h = All-nil (IsPlainCall n)
along_plain p n w (e ∷ es) h =
    All-append (IsPlainCall n) (call_steps_of p w e) (steps_along p (call_happens p w e) es)
    (event_plain p n w e (All-head (IsFurther n) e es h)) (along_plain p n (call_happens p w e) es (All-tail (IsFurther n) e es h))

-- ---- from every state of a play some plain steps carry out all calls

pub completes : {S : Type 0} (p : Parties S) (w : CallWorld) → PartiesLaws p → NoWorldIsStuck
    → AllIsAnswered p.serving p.service → CarriesAll p → CallsGoOn p w → Completes p w
completes p w g stuck sessions room on =
    let c : ComesToRest p w = come_to_rest p (bound p) w (step p A w) (step p B w) refl refl g stuck on (omega arith) in
    let v : CallWorld = all_call_stepped p w c.more in
    let f : CompletesByEvents p v = finishes_by p v g stuck sessions room c.rests in
    let last : List CallStep = steps_along p v f.more in
    let n : ℕ = length w.world.bag in
    let m : ℕ = length v.world.bag in
    let longer : n ≤ m = bag_longer p w c.more g in
    let further : All (IsFurther n) f.more = All-weaker (IsFurther m) (IsFurther n) (λ e. further_before n m e longer) f.more f.further in
    record {
      more = c.more ++ last;
      plain = All-append (IsPlainCall n) c.more last (c.plain n) (along_plain p n v f.more further);
      done = subst (IsAllDone p) (sym (fold-append (call_stepped p) w c.more last ∙ along_run p v f.more)) f.done;
    }

pub always_completes : {S : Type 0} (p : Parties S) (w : CallWorld) (steps : List CallStep) → PartiesLaws p → NoWorldIsStuck
    → AllIsAnswered p.serving p.service → CarriesAll p → CallsGoOn p w → Completes p (all_call_stepped p w steps)
always_completes p w steps g stuck sessions room on = completes p (all_call_stepped p w steps) g stuck sessions room (all_go_on p w steps g stuck on)
