-- In three rounds an item more is handed up, so some rounds finish.
use Rattle.std.proofs.Common.{◌≡◌, ℕ, zero, suc, ◌+◌, ◌*◌, ◌<◌, ◌≤◌, Bool, true, false, List, length, nat_lt, refl, sym, ◌∙◌, ap, subst, arith}
use Rattle.std.proofs.lemmas.Bool.{ltb-true, ltb-false}
use Rattle.xns_spp.specs.Fronts.{begins_length}
use Rattle.xns_spp.specs.Meant.{own_meant}
use Rattle.xns_spp.specs.Packet.{SppPacketModel, spp_packet_spelling}
use Rattle.xns_spp.specs.Receiving.{after_receive}
use Rattle.xns_spp.specs.Sending.{after_tick, tick_answer}
use Rattle.xns_spp.specs.State.{State, send_limit}
use Rattle.xns_spp.specs.declared.item.Item.{Item}
use Rattle.item_world.proofs.Finishing.{all_done}
use Rattle.item_world.proofs.Going.{EndGoes, Both, Ahead, ahead_then, fold_ahead, tick_ahead, GoesOn, goes_on_itself, goes_on_then}
use Rattle.item_world.proofs.Onward.{Kept, Pair, stands, TickSends, tick_sends}
use Rattle.item_world.proofs.Rests.{rested}
use Rattle.item_world.proofs.Rounds.{ticked_both, turn, round_is, both_pair, Ticks, tick_of, turn_ahead, rested_ahead, waits_moves, Came, rest_comes, Offer, ask, IsTold, tell}
use Rattle.item_world.proofs.Sides.{same_end, same_other}
use Rattle.item_world.proofs.Ways.{way_on, tick_way}
use Rattle.item_world.specs.Events.{delivers, undelivered}
use Rattle.item_world.specs.Invariant.{StandsBesidePeer}
use Rattle.item_world.specs.Progress.{pending, IsDone, rounds, FinishesInRounds}
use Rattle.item_world.specs.Side.{other}
use Rattle.item_world.specs.World.{World, end_at, emitted, ticks}
use Rattle.item_world.specs.declared.side.Side.{Side}
use Rattle.item_world.specs.declared.side.Side.TheVariants.{A, B}

-- ---- the third round: the next item goes out, and is taken

-- an end has taken more than n items after a packet, where it had before, or where it takes one from the packet
takes_next : Kept → (p : State) (bytes : List ℕ) (n : ℕ) (b : Bool) → nat_lt n (length p.taken) ≡ b → n ≤ length p.taken
    → (length p.taken ≤ n → length p.taken < length (after_receive p bytes).taken) → n < length (after_receive p bytes).taken
takes_next k p bytes n true h le takes =
    omega (arith, ltb-true n (length p.taken) h, begins_length p.taken (after_receive p bytes).taken (k.laws.grows.receive p bytes).taken)
takes_next k p bytes n false h le takes = omega (arith, le, takes (ltb-false n (length p.taken) h))

-- the next item of a side is its first that is not acknowledged
sends_next : Kept → (w : World) (side : Side) (n : ℕ) (b : Both w) (t : Ticks w side) → IsTold (end_at w side) n
    → (end_at w (other side)).handed ≡ n
    → n < length (end_at w side).accepted → length (end_at t.before (other side)).taken ≤ n
    → n < length (end_at (rested (ticked_both w)) (other side)).taken
sends_next kept w side n b t told is left none =
    let w1 : World = t.before in
    let w2 : World = ticked_both w in
    let s : State = end_at w1 side in
    let p : State = end_at w1 (other side) in
    let x : Pair w1 side s p = both_pair w1 side t.ahead.both in
    let now : IsTold s n = subst (λ (y : State). IsTold y n) (sym t.here) told in
    let left_here : n < length s.accepted = subst (λ (y : State). n < length y.accepted) (sym t.here) left in
    let there_now : StandsBesidePeer s p = stands w1 side s p x in
    let next : s.acknowledged ≡ n = omega (arith, now.acknowledged, there_now.acknowledged, none) in
    let few = there_now.fits.bounds.accepted_most in
    let may : s.acknowledged < send_limit s = omega (arith, next, now.allowed (omega (arith, left_here, few)), left_here, few) in
    let a : TickSends s p = tick_sends kept w1 side s p x now.ready may (omega (arith, next, left_here)) in
    let k : ℕ = length w1.bag in
    let q : SppPacketModel = a.packet in
    let out = tick_way kept w1 side s p q (own_meant s s.acknowledged) x a.first in
    let here : EndGoes 0 (after_tick s) (end_at w2 side) =
    subst (λ (y : State). EndGoes 0 y (end_at w2 side)) (same_end w1 side (after_tick s) (tick_answer s)) (t.after.ends side) in
    let there : EndGoes 0 p (end_at w2 (other side)) =
    subst (λ (y : State). EndGoes 0 y (end_at w2 (other side))) (same_other w1 side (after_tick s) (tick_answer s)) (t.after.ends (other side)) in
    let way = way_on (ticks w1 side).bag w2.bag side (after_tick s) (end_at w2 side) p (end_at w2 (other side)) k q (own_meant s s.acknowledged) s.handed p.handed 0 here there out
    (t.keeps k (emitted side out.at (spp_packet_spelling q)) out.is) in
    let both : Both w2 = t.after.both in
    let c : Came w2 side k q (own_meant s s.acknowledged) =
    rest_comes kept w2 side (end_at w2 side) (end_at w2 (other side)) k q (own_meant s s.acknowledged) s.handed p.handed both (both_pair w2 side both) way
    (omega (arith, here.handed, (kept.laws.stays.tick s).handed)) (omega (arith, there.handed)) in
    let u : World = c.at in
    let pu : State = end_at u (other side) in
    let bytes : List ℕ = spp_packet_spelling q in
    let o : State = after_receive pu bytes in
    let handed : n ≤ pu.handed =
    omega (arith, is, (t.ahead.ends (other side)).grows.handed, there.grows.handed, (c.before.ends (other side)).grows.handed) in
    let fits = (c.before.both.holds.ends (other side)).fits in
    let takes : length pu.taken ≤ n → length pu.taken < length o.taken = λ le.
    c.come.counts.takes a.brings (omega (arith, next, le, handed, fits.bounds.handed_taken))
    (omega (arith, le, handed, fits.ends.window_least, left_here, few)) in
    let more : n < length o.taken = takes_next kept pu bytes n (nat_lt n (length pu.taken)) refl (omega (arith, handed, fits.bounds.handed_taken)) takes in
    let same : length (end_at (delivers u k) (other side)).taken ≡ length o.taken =
    ap (λ (y : State). length y.taken) c.come.pair.there ∙ ap (length {A = Item}) (kept.laws.hears.flush o).taken in
    let grew = (c.after.ends (other side)).grows.taken in
    omega (arith, more, same, begins_length (end_at (delivers u k) (other side)).taken (end_at (rested w2) (other side)).taken grew)

waits_by : Kept → (w : World) (side : Side) (n : ℕ) (b : Both w) (t : Ticks w side) (c : Bool)
    → nat_lt n (length (end_at t.before (other side)).taken) ≡ c
    → IsTold (end_at w side) n → (end_at w (other side)).handed ≡ n → n < length (end_at w side).accepted
    → n < length (end_at (rested (ticked_both w)) (other side)).taken
waits_by kept w side n b t true h told is left =
    let w1 : World = t.before in
    let w2 : World = ticked_both w in
    let first = tick_ahead kept w1 side t.ahead.both in
    let on : Ahead 0 w1 w2 = ahead_then 0 0 w1 (ticks w1 side) w2 first t.after in
    let last : Ahead 0 w1 (rested w2) = ahead_then 0 0 w1 w2 (rested w2) on (fold_ahead kept w2 (undelivered 0 w2.bag) on.both) in
    omega (
      arith,
      ltb-true n (length (end_at w1 (other side)).taken) h,
      begins_length (end_at w1 (other side)).taken (end_at (rested w2) (other side)).taken (last.ends (other side)).grows.taken,
    )
waits_by kept w side n b t false h told is left =
    sends_next kept w side n b t told is left (ltb-false n (length (end_at t.before (other side)).taken) h)

next_moves : Kept → (w : World) (side : Side) (n : ℕ) → Both w → IsTold (end_at w side) n
    → (end_at w (other side)).handed ≡ n
    → n < length (end_at w side).accepted → n < (end_at (turn w) (other side)).handed
next_moves kept w side n b told is left =
    let t : Ticks w side = tick_of kept w side b in
    let waits = waits_by kept w side n b t (nat_lt n (length (end_at t.before (other side)).taken)) refl told is left in
    omega (arith, is, waits_moves kept w side b (omega (arith, is, waits)))

-- ---- three rounds

three_after : Kept → (w : World) (side : Side) (n : ℕ) (b : Bool) → nat_lt n (end_at w (other side)).handed ≡ b → Both w
    → IsTold (end_at w side) n
    → n ≤ (end_at w (other side)).handed → n < length (end_at w side).accepted → n < (end_at (turn w) (other side)).handed
three_after kept w side n true h b told le left =
    omega (arith, ltb-true n (end_at w (other side)).handed h, ((turn_ahead kept w b).ends (other side)).grows.handed)
three_after kept w side n false h b told le left =
    next_moves kept w side n b told (omega (arith, le, ltb-false n (end_at w (other side)).handed h)) left

two_turns : Kept → (w : World) → Both w → Ahead 4 w (turn (turn w))
two_turns kept w b =
    let first = turn_ahead kept w b in
    ahead_then 2 2 w (turn w) (turn (turn w)) first (turn_ahead kept (turn w) first.both)

-- two rounds after an end asked, it is told what its peer had handed up
told_in_two : Kept → (w : World) (side : Side) → Both w → (end_at w side).acknowledged < length (end_at w side).accepted
    → IsTold (end_at (turn (turn w)) side) (end_at w (other side)).handed
told_in_two kept w side b asks =
    let first = turn_ahead kept w b in
    let p : State = end_at w (other side) in
    let s : State = end_at w side in
    let f : Offer (turn w) side p.handed s.handed = ask kept w side b asks p.handed s.handed refl refl in
    tell kept (turn w) side p.handed s.handed first.both f (omega (arith, (first.ends (other side)).handed)) (omega (arith, (first.ends side).handed))

three_by : Kept → (w : World) (side : Side) (b : Bool)
    → nat_lt (end_at w (other side)).handed (length (end_at w (other side)).taken) ≡ b → Both w
    → (end_at w (other side)).handed < length (end_at w side).accepted
    → (end_at w (other side)).handed < (end_at (turn (turn (turn w))) (other side)).handed
three_by kept w side true h b left =
    let p : State = end_at w (other side) in
    let v : World = rested (ticked_both w) in
    let taken = begins_length p.taken (end_at v (other side)).taken ((rested_ahead kept w b).ends (other side)).grows.taken in
    let more = two_turns kept (turn w) (turn_ahead kept w b).both in
    omega (arith, waits_moves kept w side b (omega (arith, ltb-true p.handed (length p.taken) h, taken)), (more.ends (other side)).grows.handed)
three_by kept w side false h b left =
    let w2 : World = turn (turn w) in
    let two = two_turns kept w b in
    let p : State = end_at w (other side) in
    let asks : (end_at w side).acknowledged < length (end_at w side).accepted =
    omega (arith, (b.holds.ends side).acknowledged, ltb-false p.handed (length p.taken) h, left) in
    three_after kept w2 side p.handed (nat_lt p.handed (end_at w2 (other side)).handed) refl two.both (told_in_two kept w side b asks)
    (two.ends (other side)).grows.handed (omega (arith, left, ap (length {A = Item}) (two.ends side).accepted))

-- ---- one round after another

turns : ℕ → World → World
turns zero w = w
turns (suc n) w = turns n (turn w)

rounds_are : (n : ℕ) (w : World) → rounds n w ≡ turns n w
unfolding rounds turns
rounds_are zero w = refl
rounds_are (suc n) w = ap (rounds n) (round_is w) ∙ rounds_are n (turn w)

turns_go_on : Kept → (n : ℕ) (w : World) → Both w → GoesOn w (turns n w)
unfolding turns
turns_go_on kept zero w b = goes_on_itself w b
turns_go_on kept (suc n) w b =
    let first = turn_ahead kept w b in
    goes_on_then 2 w (turn w) (turns n (turn w)) first (turns_go_on kept n (turn w) first.both)

-- a side's items are all handed up, and acknowledged two rounds later
record Reached (w v : World) (side : Side) : Type 0 where
  handed : length (end_at w side).accepted ≤ (end_at v (other side)).handed
  acknowledged : length (end_at w side).accepted ≤ (end_at v side).acknowledged

settle : Kept → (n : ℕ) (w : World) (side : Side) (b : Bool)
    → nat_lt (end_at w side).acknowledged (length (end_at w side).accepted) ≡ b → Both w
    → length (end_at w side).accepted ≤ (end_at w (other side)).handed → 2 ≤ n → Reached w (turns n w) side
unfolding turns
settle kept zero w side c h b all le = absurd (omega (arith, le))
settle kept (suc zero) w side c h b all le = absurd (omega (arith, le))
settle kept (suc (suc n)) w side false h b all le =
    let g = (turns_go_on kept (suc (suc n)) w b).ahead in
    let s : State = end_at w side in
    record {
      handed = omega (arith, all, (g.ends (other side)).grows.handed);
      acknowledged = omega (arith, ltb-false s.acknowledged (length s.accepted) h, (g.ends side).grows.acknowledged);
    }
settle kept (suc (suc n)) w side true h b all le =
    let s : State = end_at w side in
    let two = two_turns kept w b in
    let told = told_in_two kept w side b (ltb-true s.acknowledged (length s.accepted) h) in
    let g = (turns_go_on kept n (turn (turn w)) two.both).ahead in
    record {
      handed = omega (arith, all, (two.ends (other side)).grows.handed, (g.ends (other side)).grows.handed);
      acknowledged = omega (arith, all, told.acknowledged, (g.ends side).grows.acknowledged);
    }

reaches : Kept → (d n : ℕ) (w : World) (side : Side) (b : Bool)
    → nat_lt (end_at w (other side)).handed (length (end_at w side).accepted) ≡ b → Both w
    → length (end_at w side).accepted ≤ (end_at w (other side)).handed + d → 3 * d + 2 ≤ n → Reached w (turns n w) side
unfolding turns
reaches kept d n w side false h b few le =
    let s : State = end_at w side in
    settle kept n w side (nat_lt s.acknowledged (length s.accepted)) refl b (ltb-false (end_at w (other side)).handed (length s.accepted) h) (omega (arith, le))
reaches kept zero n w side true h b few le = absurd (omega (arith, few, ltb-true (end_at w (other side)).handed (length (end_at w side).accepted) h))
reaches kept (suc d) zero w side true h b few le = absurd (omega (arith, le))
reaches kept (suc d) (suc zero) w side true h b few le = absurd (omega (arith, le))
reaches kept (suc d) (suc (suc zero)) w side true h b few le = absurd (omega (arith, le))
reaches kept (suc d) (suc (suc (suc n))) w side true h b few le =
    let v : World = turn (turn (turn w)) in
    let two = two_turns kept w b in
    let on : Ahead 6 w v = ahead_then 4 2 w (turn (turn w)) v two (turn_ahead kept (turn (turn w)) two.both) in
    let left = ltb-true (end_at w (other side)).handed (length (end_at w side).accepted) h in
    let more = three_by kept w side (nat_lt (end_at w (other side)).handed (length (end_at w (other side)).taken)) refl b left in
    let same : length (end_at v side).accepted ≡ length (end_at w side).accepted = ap (length {A = Item}) (on.ends side).accepted in
    let r : Reached v (turns n v) side =
    reaches kept d n v side (nat_lt (end_at v (other side)).handed (length (end_at v side).accepted)) refl on.both (omega (arith, few, more, same)) (omega (arith, le)) in
    record { handed = omega (arith, same, r.handed); acknowledged = omega (arith, same, r.acknowledged) }

enough : (w : World) (n : ℕ) (side : Side) → 3 * (pending w A + pending w B + 1) ≤ n → 3 * pending w side + 2 ≤ n
enough w n A h = omega (arith, h)
enough w n B h = omega (arith, h)

in_turns : Kept → (w : World) (n : ℕ) → Both w → 3 * (pending w A + pending w B + 1) ≤ n → IsDone w (turns n w)
in_turns kept w n b le =
    let v : World = turns n w in
    let r : (side : Side) → Reached w v side = λ side.
    reaches kept (pending w side) n w side (nat_lt (end_at w (other side)).handed (length (end_at w side).accepted)) refl b (omega (arith)) (enough w n side le) in
    all_done kept w v (turns_go_on kept n w b) (λ side. (r side).handed) (λ side. (r side).acknowledged)

pub finishes_in_rounds : Kept → (w : World) → Both w → FinishesInRounds w
finishes_in_rounds kept w b n le = subst (IsDone w) (sym (rounds_are n w)) (in_turns kept w n b le)
