-- The small steps of events that finish a world finish it.
use Rattle.std.proofs.Common.{◌≡◌, ℕ, ◌+◌, ◌*◌, ◌≤◌, List, [], ◌∷◌, ◌++◌, length, Option, Some, None, refl, sym, ◌∙◌, subst, arith, length-append}
use Rattle.std.specs.Prelude.{All}
use Rattle.std.proofs.lemmas.List.Elements.{All-nil, All-append, All-head, All-tail, All-cons}
use Rattle.std.proofs.lemmas.List.Sums.{fold-append}
use Rattle.item_world.proofs.Onward.{Kept}
use Rattle.item_world.specs.Events.{SmallStep, arrival, taking, flushing, ticking, stepped, all_stepped, steps_of, happens, world_after, arrival_steps}
use Rattle.item_world.specs.Landing.{landing}
use Rattle.item_world.specs.Progress.{IsPlainStep, IsDone, pending, Finishes, IsFurther, FinishesByEvents}
use Rattle.item_world.specs.World.{World}
use Rattle.item_world.specs.declared.side.Side.{Side}
use Rattle.item_world.specs.declared.side.Side.TheVariants.{A, B}
use Rattle.item_world.specs.declared.event.Event.{Event}
use Rattle.item_world.specs.declared.event.Event.TheVariants.{Deliver, Rest, Tick, Foreign, Send, Take}
use Rattle.item_world.proofs.Finishing.{finishes_by}
use Rattle.item_world.proofs.Going.{Both}

-- the small steps of events, each in the world that those before lead to
steps_along : World → List Event → List SmallStep
steps_along w [] = []
steps_along w (e ∷ es) = steps_of w e ++ steps_along (happens w e) es

along_run : (w : World) (es : List Event) → all_stepped w (steps_along w es) ≡ world_after w es
unfolding steps_along
along_run w [] = refl
along_run w (e ∷ es) = fold-append stepped w (steps_of w e) (steps_along (happens w e) es) ∙ along_run (happens w e) es

-- an event is of two small steps at most
record IsPair (n : ℕ) (ss : List SmallStep) : Type 0 where
  plain : All (IsPlainStep n) ss
  few : length ss ≤ 2

one_plain : (n : ℕ) (s : SmallStep) → IsPlainStep n s → IsPair n (s ∷ [])
one_plain n s h = record { plain = All-cons (IsPlainStep n) s [] h (All-nil (IsPlainStep n)); few = omega arith }

delivery_plain : (n k : ℕ) (o : Option (Side × World)) → n ≤ k → IsPair n (arrival_steps k o)
delivery_plain n k None h = record { plain = All-nil (IsPlainStep n); few = omega arith }
delivery_plain n k (Some l) h = record {
  plain = All-cons (IsPlainStep n) (arrival k) (flushing l.0 ∷ []) h (All-cons (IsPlainStep n) (flushing l.0) [] tt (All-nil (IsPlainStep n)));
  few = omega arith;
}

event_plain : (n : ℕ) (w : World) (e : Event) → IsFurther n e → IsPair n (steps_of w e)
event_plain n w (Deliver k) h = delivery_plain n k (landing w k) h
event_plain n w Rest h = absurd h
event_plain n w (Tick side) h = one_plain n (ticking side) tt
event_plain n w (Foreign side bytes) h = absurd h
event_plain n w (Send side x) h = absurd h
event_plain n w (Take side) h = one_plain n (taking side) tt

record AreFew (n : ℕ) (ss : List SmallStep) (most : ℕ) : Type 0 where
  plain : All (IsPlainStep n) ss
  few : length ss ≤ 2 * most

along_plain : (n : ℕ) (w : World) (es : List Event) → All (IsFurther n) es → AreFew n (steps_along w es) (length es)
unfolding steps_along
along_plain n w [] h = record { plain = All-nil (IsPlainStep n); few = omega arith }
along_plain n w (e ∷ es) h =
    let first = event_plain n w e (All-head (IsFurther n) e es h) in
    let more = along_plain n (happens w e) es (All-tail (IsFurther n) e es h) in
    record {
      plain = All-append (IsPlainStep n) (steps_of w e) (steps_along (happens w e) es) first.plain more.plain;
      few = omega (arith, length-append (steps_of w e) (steps_along (happens w e) es), first.few, more.few);
    }

twelve_each : (c d n : ℕ) → c ≤ 2 * d → d ≤ 6 * n → c ≤ 12 * n
twelve_each c d n h i = omega arith

by_events_finishes : (w : World) → FinishesByEvents w → Finishes w
by_events_finishes w f =
    let steps = along_plain (length w.bag) w f.more f.plain in
    record {
      more = steps_along w f.more;
      plain = steps.plain;
      few = twelve_each (length (steps_along w f.more)) (length f.more) (pending w A + pending w B + 1) steps.few f.few;
      done = subst (IsDone w) (sym (along_run w f.more)) f.done;
    }

pub finishes : Kept → (w : World) → Both w → Finishes w
finishes k w b = by_events_finishes w (finishes_by k w b)
