use Rattle.std.proofs.Common.{◌≡◌, ℕ, ◌+◌, List, Option, Some, None, inr, length, refl, sym, ◌∙◌, ap, subst}
use Rattle.std.proofs.lemmas.Result.{on_err_weaker}
use Rattle.std.specs.Prelude.{slice_get, IsSome}
use Rattle.xns_spp.proofs.Steps.{on_err}
use Rattle.xns_spp.specs.Held.{StandsFor}
use Rattle.xns_spp.specs.Receiving.{NeedsMemory, receive_answer, after_receive}
use Rattle.xns_spp.specs.declared.received.Received.{Received}
use Rattle.item_world.proofs.Quiet.{ok_then, ok_always, receive_took}
use Rattle.item_world.proofs.Networks.{end_reached_by}
use Rattle.item_world.proofs.Sides.{lands_as, comes_as}
use Rattle.item_world.proofs.ends.land.Goals as goal
use Rattle.item_world.specs.Network.{IsEnd}
use Rattle.item_world.specs.World.{World, end_at}
use Rattle.item_world.specs.declared.emitted.Emitted.{Emitted}

pub returns-clause-endpoint : goal.returns-clause-endpoint
returns-clause-endpoint c =
    ok_always c.deliver.result (λ s x h is. subst (λ (b : List ℕ). StandsFor c.receive.new.self (after_receive s b)) (c.bytes.ensures x is) (c.in_ok-received.ensures.stands s h))

pub returns-clause-network : goal.returns-clause-network
returns-clause-network c =
    ok_then c.deliver.result c.deliver.ensures.delivers (λ delivered laws w x h is.
    let side = c.args.side in
    let k = c.args.number in
    let s = end_at w side in
    let there : slice_get c.args.network.now.packets k ≡ Some x = ap (λ (t : List Emitted). slice_get t k) h.network.bag ∙ is in
    let bytes = c.bytes.ensures x there in
    let answer = c.in_ok-received.ensures.answer s h.stands ∙ ap (receive_answer s) bytes in
    let stands = subst (λ (b : List ℕ). StandsFor c.receive.new.self (after_receive s b)) bytes (c.in_ok-received.ensures.stands s h.stands) in
    let took = ap (λ (r : Received). length s.taken + r.took) answer ∙ receive_took laws s x.bytes in
    end_reached_by w k side x c.receive.new.self c.deliver.new.self c.in_ok-received.received.reply stands (ap (λ (r : Received). r.reply) answer)
    (delivered w x (after_receive s x.bytes) h.network is stands.fits.bounds.taken_most took))

pub returns-clause-stands : goal.returns-clause-stands
returns-clause-stands c =
    ok_then c.deliver.result (returns-clause-network c) (λ comes laws w v h e.
    let l = lands_as w c.args.number c.args.side v e in
    subst (λ (u : World). IsEnd c.receive.new.self c.deliver.new.self u c.args.side) (sym (comes_as w c.args.number c.args.side l.packet) ∙ l.world) (comes laws w l.packet h l.is))

pub returns-in_err-received-clause-memory : goal.returns-in_err-received-clause-memory
returns-in_err-received-clause-memory c = on_err c.from_residual.result _ (λ s x h is. subst (NeedsMemory s) (c.bytes.ensures x is) (c.in_err-received.ensures.memory s h))

some_reply : (o : Option (List ℕ)) → IsSome o → (reply : List ℕ) × (o ≡ Some reply)
some_reply (Some reply) is = (reply, refl)
some_reply None is = absurd (cc)

pub returns-clause-memory : goal.returns-clause-memory
returns-clause-memory c =
    on_err_weaker c.deliver.result (λ some s x h is.
    let answer = c.in_ok-received.ensures.answer s h ∙ ap (receive_answer s) (c.bytes.ensures x is) in
    let e = some_reply c.in_ok-received.received.reply some in
    inr (e.0, sym (ap (λ (r : Received). r.reply) answer) ∙ e.1)) c.deliver.ensures.memory
