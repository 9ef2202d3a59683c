-- How far a play of calls has come, and what is true of it at every moment.
use Rattle.std.proofs.Common.{◌≡◌, ℕ, ◌+◌, ◌<◌, ◌≤◌, nat_lt, List, [], ◌∷◌, length, Option, Some, None, ap, arith, length-append}
use Rattle.std.specs.Prelude.{◌==◌}
use Rattle.std.proofs.lemmas.Bool.{and_parts, eqb-true}
use Rattle.courier_calls.specs.Calls.{SeenModel}
use Rattle.xns_spp.specs.Fronts.{begins_length}
use Rattle.xns_spp.specs.declared.item.Item.{Item}
use Rattle.item_world.specs.Channel.{IsQuiet, Accepts, HandsUp}
use Rattle.item_world.specs.Events as events
use Rattle.item_world.specs.Laws.{NoWorldIsStuck}
use Rattle.item_world.specs.Progress.{Linked}
use Rattle.item_world.specs.Side.{other}
use Rattle.item_world.specs.World.{World, end_at, sends, takes, channel_of, sent_at, handed_at}
use Rattle.item_world.specs.declared.side.Side.{Side}
use Rattle.item_world.specs.declared.side.Side.TheVariants.{A, B}
use Rattle.xns_world.proofs.CallCarries.{same_read, quiet_holds, not_refused, next_piece, read_more, calls, waiting_item}
use Rattle.xns_world.proofs.CallRuns.{step_holds}
use Rattle.xns_world.proofs.Stepping.{by_step}
use Rattle.xns_world.specs.CallLaws.{PartiesLaws}
use Rattle.xns_world.specs.CallOrder.{CallsHold}
use Rattle.xns_world.specs.CallProgress.{CallsGoOn}
use Rattle.xns_world.specs.CallWorld.{Parties, CallWorld, CallStep, arrival, noise, ticking, acting, flushing, resending, telling, call_stepped, all_call_stepped, outcomes_read, in_world, sends_next, feeds_session, lists_outcome, makes, step}
use Rattle.xns_world.specs.Settling.{onward}

-- ---- how far a play has come

unfoldable pub total : CallWorld → ℕ
total w = w.made + w.listed + (length (sent_at w.world A) + length (sent_at w.world B)) + (length (handed_at w.world A) + length (handed_at w.world B))

abbrev pub Rises : CallWorld → Option CallWorld → Type 0
Rises w None = Unit {0}
Rises w (Some v) = total w < total v

pub sent_rises : (w : CallWorld) (side : Side) (x : Item)
    → Accepts (channel_of w.world) (channel_of (sends w.world side x)) side x → total w < total (sends_next w side x)
unfolding total
sent_rises w A x a = omega (arith, ap length a.here, ap length a.there, ap length (a.handed A), ap length (a.handed B), length-append (sent_at w.world A) (x ∷ []))
sent_rises w B x a = omega (arith, ap length a.here, ap length a.there, ap length (a.handed A), ap length (a.handed B), length-append (sent_at w.world B) (x ∷ []))

pub fed_rises : (w : CallWorld) (side : Side) (x : Item)
    → HandsUp (channel_of w.world) (channel_of (takes w.world side)) side x → total w < total (feeds_session w side)
unfolding total
fed_rises w A x a = omega (arith, ap length a.here, ap length a.there, ap length (a.accepted A), ap length (a.accepted B), length-append (handed_at w.world A) (x ∷ []))
fed_rises w B x a = omega (arith, ap length a.here, ap length a.there, ap length (a.accepted A), ap length (a.accepted B), length-append (handed_at w.world B) (x ∷ []))

pub lists_rises : (w : CallWorld) → total w < total (lists_outcome w)
unfolding total
lists_rises w = omega arith

pub makes_rises : (w : CallWorld) → total w < total (makes w)
unfolding total
makes_rises w = omega arith

pub quiet_total : (w : CallWorld) (v : World) → IsQuiet (channel_of w.world) (channel_of v) → total (in_world w v) ≡ total w
unfolding total
quiet_total w v q = omega (arith, ap length (q.accepted A), ap length (q.accepted B), ap length (q.handed A), ap length (q.handed B))

pub step_rises : {S : Type 0} (p : Parties S) (w : CallWorld) (side : Side) → PartiesLaws p → CallsHold p w
    → Rises w (step p side w)
step_rises p w side g h = by_step p w (λ t o. Rises w o) (record {
  sent = λ t x is full. sent_rises w t x (g.answering.network.items.send w.world t x (not_refused g.answering.ends (end_at w.world t) x (next_piece p w t x g h is) full));
  fed = λ t is. let e = waiting_item g.answering.ends (end_at w.world t) is in fed_rises w t e.0 (g.answering.network.items.take w.world t e.0 h.holds e.1);
  listed = λ is. lists_rises w;
  made = λ may. makes_rises w;
  rests = λ is. tt;
  stays = tt;
}) side

-- ---- what is true at every moment

abbrev pub IfGoesOn : {S : Type 0} → Parties S → Option CallWorld → Type 0
IfGoesOn p None = Unit {0}
IfGoesOn p (Some v) = Linked v.world × (v.made ≤ length (outcomes_read p v) + 1)

pub step_on : {S : Type 0} (p : Parties S) (w : CallWorld) (side : Side) → PartiesLaws p → NoWorldIsStuck → CallsGoOn p w
    → IfGoesOn p (step p side w)
step_on p w side g stuck h = by_step p w (λ t o. IfGoesOn p o) (record {
  sent = λ t x is full.
      let piece = next_piece p w t x g h.holds is in
      let a = g.answering.network.items.send w.world t x (not_refused g.answering.ends (end_at w.world t) x piece full) in
      (stuck.each w.world (events.sending t x) piece.short.fits h.holds.holds h.linked, omega (arith, ap (length {A = SeenModel}) (same_read p w (sends w.world t x) (a.handed A)), h.waits));
  fed = λ t is.
      let e = waiting_item g.answering.ends (end_at w.world t) is in
      let u = g.answering.network.items.take w.world t e.0 h.holds.holds e.1 in
      (stuck.each w.world (events.taking t) tt h.holds.holds h.linked, omega (arith, begins_length (outcomes_read p w) (outcomes_read p (feeds_session w t)) (read_more p w t e.0 g u), h.waits));
  listed = λ is. (h.linked, h.waits);
  made = λ may.
      let c = calls p w g h.holds may in
      let all = eqb-true (length (outcomes_read p w)) w.made (and_parts (length (outcomes_read p w) == w.made) (nat_lt w.made (length p.calls)) may).0 in
      (h.linked, omega (arith, all, ap (length {A = SeenModel}) c.same));
  rests = λ is. tt;
  stays = tt;
}) side

pub onward_on : {S : Type 0} (p : Parties S) (w : CallWorld) (o : Option CallWorld) → CallsGoOn p w → IfGoesOn p o
    → Linked (onward w o).world × ((onward w o).made ≤ length (outcomes_read p (onward w o)) + 1)
onward_on p w None h k = (h.linked, h.waits)
onward_on p w (Some v) h k = k

pub other_on : {S : Type 0} (p : Parties S) (w : CallWorld) (s : events.SmallStep) → events.IsStep s → events.IsOther s
    → PartiesLaws p → NoWorldIsStuck → CallsGoOn p w → CallsGoOn p (in_world w (events.stepped w.world s))
other_on p w s fits other g stuck h =
    let q = g.answering.network.items.quiet w.world s other h.holds.holds in
    record {
      holds = quiet_holds p w (events.stepped w.world s) h.holds (g.world.each w.world s fits h.holds.holds) q;
      linked = stuck.each w.world s fits h.holds.holds h.linked;
      waits = omega (arith, ap (length {A = SeenModel}) (same_read p w (events.stepped w.world s) (q.handed A)), h.waits);
    }

pub step_goes_on : {S : Type 0} (p : Parties S) (w : CallWorld) (s : CallStep) → PartiesLaws p → NoWorldIsStuck → CallsGoOn p w
    → CallsGoOn p (call_stepped p w s)
step_goes_on p w (arrival k) g stuck h = other_on p w (events.arrival k) tt tt g stuck h
step_goes_on p w (noise side bytes) g stuck h = other_on p w (events.noise side bytes) tt tt g stuck h
step_goes_on p w (ticking side) g stuck h = other_on p w (events.ticking side) tt tt g stuck h
step_goes_on p w (acting side) g stuck h =
    let k = onward_on p w (step p side w) h (step_on p w side g stuck h) in
    record { holds = step_holds p w (acting side) g h.holds; linked = k.0; waits = k.1 }
step_goes_on p w (flushing side) g stuck h = other_on p w (events.flushing side) tt tt g stuck h
step_goes_on p w (resending side) g stuck h = other_on p w (events.resending side) tt tt g stuck h
step_goes_on p w (telling side asks) g stuck h = other_on p w (events.telling side asks) tt tt g stuck h

pub all_go_on : {S : Type 0} (p : Parties S) (w : CallWorld) (ss : List CallStep) → PartiesLaws p → NoWorldIsStuck → CallsGoOn p w
    → CallsGoOn p (all_call_stepped p w ss)
all_go_on p w [] g stuck h = h
all_go_on p w (s ∷ ss) g stuck h = all_go_on p (call_stepped p w s) ss g stuck (step_goes_on p w s g stuck h)
