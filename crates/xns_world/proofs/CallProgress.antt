-- How far a play of calls can come, and what is so where it has come there.
use Rattle.std.proofs.Common.{◌≡◌, ℕ, zero, suc, ◌+◌, ◌≤◌, List, [], ◌∷◌, length, ◌∙◌, subst, arith}
use Rattle.std.proofs.lemmas.List.{take_all}
use Rattle.item_world.proofs.Later.{all_later}
use Rattle.item_world.proofs.Onward.{longer}
use Rattle.courier_messages.specs.RawCalls.{RawCall, caller_items}
use Rattle.courier_calls.specs.Calls.{outcomes}
use Rattle.courier_calls.specs.Server.{server_items}
use Rattle.xns_spp.specs.Fronts.{begins_length}
use Rattle.xns_spp.specs.Growth.{Begins}
use Rattle.item_world.specs.Events as events
use Rattle.item_world.specs.Laws.{NoWorldIsStuck}
use Rattle.item_world.specs.World.{sent_at, handed_at}
use Rattle.item_world.specs.declared.side.Side.TheVariants.{A, B}
use Rattle.xns_world.proofs.CallCarries.{faces, same_list}
use Rattle.xns_world.proofs.CallRuns.{steps_leave}
use Rattle.xns_world.proofs.CallEntries.{outcomes_length}
use Rattle.xns_world.specs.CallLaws.{PartiesLaws}
use Rattle.xns_world.specs.CallOrder.{CallsHold, IsBetween}
use Rattle.xns_world.specs.CallProgress.{IsAllDone, CallsGoOn}
use Rattle.item_world.specs.declared.setup.Setup.{Setup}
use Rattle.xns_world.specs.CallWorld.{Parties, CallWorld, CallStep, arrival, noise, ticking, acting, flushing, resending, telling, call_start, call_stepped, all_call_stepped, carried_at, calls_made, put_out, outcomes_read}
use Rattle.xns_world.proofs.CallMoves.{total}
use Rattle.xns_world.proofs.CallStirs.{caller_most, server_most, read_few}

-- ---- steps that bring a play to its end

pub bound : {S : Type 0} → Parties S → ℕ
bound p = length p.calls + length p.calls + (length (caller_items p.calls) + length (server_items p.serving p.service (caller_items p.calls)))
    + (length (server_items p.serving p.service (caller_items p.calls)) + length (caller_items p.calls))

pub within_bound : {S : Type 0} (p : Parties S) (w : CallWorld) → PartiesLaws p → CallsHold p w → total w ≤ bound p
unfolding total bound
within_bound p w g h =
    let few = read_few p w g h in
    let c = begins_length (put_out p w A) (caller_items p.calls) (caller_most p w g) in
    let d = begins_length (put_out p w B) (server_items p.serving p.service (caller_items p.calls)) (server_most p w g h) in
    let a = begins_length (sent_at w.world A) (put_out p w A) (h.out A) in
    let b = begins_length (sent_at w.world B) (put_out p w B) (h.out B) in
    let e = begins_length (handed_at w.world B) (sent_at w.world A) (g.world.order w.world B h.holds) in
    let f = begins_length (handed_at w.world A) (sent_at w.world B) (g.world.order w.world A h.holds) in
    omega (arith, few, a, b, c, d, e, f, h.made, h.listed)

-- all calls were listed
pub all_done : {S : Type 0} (p : Parties S) (w : CallWorld) → PartiesLaws p → CallsHold p w → length p.calls ≤ w.listed
    → IsAllDone p w
all_done p w g h all =
    let f = faces p w g h in
    let few = read_few p w g h in
    let made : w.made ≡ length p.calls = omega (arith, all, few, h.listed, h.made) in
    let calls_are : calls_made p w ≡ p.calls = take_all w.made p.calls (omega (arith, made)) in
    let carried : carried_at w ≡ p.calls = same_list (carried_at w) p.calls (subst (λ (cs : List RawCall). Begins (carried_at w) cs) calls_are f.once) (omega (arith, all, h.listed, f.fewer)) in
    let front : Begins (outcomes_read p w) (outcomes p.serving p.service p.calls) = subst (λ (cs : List RawCall). Begins (outcomes_read p w) (outcomes p.serving p.service cs)) calls_are f.answered in
    let read : outcomes_read p w ≡ outcomes p.serving p.service p.calls = same_list (outcomes_read p w) (outcomes p.serving p.service p.calls) front (omega (arith, outcomes_length p.serving p.service p.calls, all, h.listed)) in
    record {
      made = made;
      carried = carried;
      seen = take_all w.listed (outcomes_read p w) (omega (arith, few, made, all)) ∙ read;
    }

step_longer : {S : Type 0} (p : Parties S) (w : CallWorld) (s : CallStep) → PartiesLaws p
    → length w.world.bag ≤ length (call_stepped p w s).world.bag
step_longer p w (arrival k) g = longer w.world (events.stepped w.world (events.arrival k)) (all_later g.answering.ends w.world (events.arrival k ∷ []))
step_longer p w (noise side bytes) g = longer w.world (events.stepped w.world (events.noise side bytes)) (all_later g.answering.ends w.world (events.noise side bytes ∷ []))
step_longer p w (ticking side) g = longer w.world (events.stepped w.world (events.ticking side)) (all_later g.answering.ends w.world (events.ticking side ∷ []))
step_longer p w (acting side) g = longer w.world (call_stepped p w (acting side)).world (steps_leave p g.answering side w (suc zero)).later
step_longer p w (flushing side) g = longer w.world (events.stepped w.world (events.flushing side)) (all_later g.answering.ends w.world (events.flushing side ∷ []))
step_longer p w (resending side) g = longer w.world (events.stepped w.world (events.resending side)) (all_later g.answering.ends w.world (events.resending side ∷ []))
step_longer p w (telling side asks) g = longer w.world (events.stepped w.world (events.telling side asks)) (all_later g.answering.ends w.world (events.telling side asks ∷ []))

pub bag_longer : {S : Type 0} (p : Parties S) (w : CallWorld) (ss : List CallStep) → PartiesLaws p
    → length w.world.bag ≤ length (all_call_stepped p w ss).world.bag
bag_longer p w [] g = omega arith
bag_longer p w (s ∷ ss) g = omega (arith, step_longer p w s g, bag_longer p (call_stepped p w s) ss g)

-- ---- a play as it begins

pub starts : {S : Type 0} (p : Parties S) (setup : Setup) → NoWorldIsStuck → IsBetween p (call_start setup)
    → CallsGoOn p (call_start setup)
starts p setup stuck b = record { holds = b.holds; linked = stuck.starts setup; waits = omega arith }
