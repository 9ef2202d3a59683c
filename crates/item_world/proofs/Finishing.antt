-- From every world some events hand up all that was accepted, and have it acknowledged.
use Rattle.std.proofs.Common.{◌≡◌, ℕ, zero, suc, ◌+◌, ◌-◌, ◌*◌, ◌<◌, ◌≤◌, Bool, true, false, List, [], ◌∷◌, ◌++◌, length, take, nat_lt, refl, sym, ◌∙◌, ap, subst, arith, append-nil, length-append}
use Rattle.std.specs.Prelude.{All, ◌||◌}
use Rattle.xns_spp.specs.Acceptance.{is_backlog_full}
use Rattle.xns_spp.specs.Numbers.{most_items}
use Rattle.std.proofs.Math.Nat.{le_refl, le_trans}
use Rattle.std.proofs.lemmas.Bool.{ltb-true, ltb-false, ne_eqb}
use Rattle.std.proofs.lemmas.List.{length-take}
use Rattle.std.proofs.lemmas.List.Elements.{All-nil, All-append, All-weaker}
use Rattle.std.proofs.lemmas.List.Sums.{fold-append}
use Rattle.xns_spp.specs.Growth.{Begins}
use Rattle.xns_spp.specs.Sending.{is_full}
use Rattle.xns_spp.specs.State.{State, IsState, numbers_of}
use Rattle.xns_spp.specs.declared.item.Item.{Item}
use Rattle.item_world.proofs.Later.{run_later}
use Rattle.item_world.proofs.Onward.{Kept, longer}
use Rattle.item_world.specs.Events.{happens, world_after}
use Rattle.item_world.specs.Later.{Later}
use Rattle.item_world.specs.Invariant.{Holds}
use Rattle.item_world.specs.Progress.{IsDone, pending, IsFurther, FinishesByEvents}
use Rattle.item_world.specs.Side.{other}
use Rattle.item_world.specs.World.{World, end_at, sent_at, handed_at}
use Rattle.item_world.specs.declared.side.Side.{Side}
use Rattle.item_world.specs.declared.side.Side.TheVariants.{A, B}
use Rattle.item_world.proofs.Deliveries.{AdvancesBy, advances_by, SettlesBy, settles_by}
use Rattle.item_world.proofs.Going.{Both, GoesOn, events_go_on}
use Rattle.item_world.specs.declared.event.Event.{Event}
use Rattle.item_world.specs.declared.event.Event.TheVariants.{Deliver, Rest, Tick, Foreign, Send, Take}

pub further_before : (m n : ℕ) (e : Event) → m ≤ n → IsFurther n e → IsFurther m e
further_before m n (Deliver k) le h = omega (arith, h)
further_before m n Rest le h = absurd h
further_before m n (Tick side) le h = tt
further_before m n (Foreign side bytes) le h = absurd h
further_before m n (Send side x) le h = absurd h
further_before m n (Take side) le h = tt

-- ---- events one after another

-- u goes on as v by at most n events
record Leads (u v : World) (n : ℕ) : Type 0 where
  steps : List Event
  plain : All (IsFurther (length u.bag)) steps
  few : length steps ≤ n
  is : world_after u steps ≡ v

leads_then : Kept → (u v w : World) (m n : ℕ) → Leads u v m → Leads v w n → Leads u w (m + n)
leads_then k u v w m n a b =
    let more : length u.bag ≤ length v.bag = longer u v (subst (λ (x : World). Later u x) a.is (run_later k.laws u a.steps)) in
    record {
      steps = a.steps ++ b.steps;
      plain = All-append (IsFurther (length u.bag)) a.steps b.steps a.plain
          (All-weaker (IsFurther (length v.bag)) (IsFurther (length u.bag)) (λ s. further_before (length u.bag) (length v.bag) s more) b.steps b.plain);
      few = omega (arith, length-append a.steps b.steps, a.few, b.few);
      is = fold-append happens u a.steps b.steps ∙ (ap (λ (x : World). world_after x b.steps) a.is ∙ b.is);
    }

leads_on : Kept → (u v : World) (n : ℕ) → Leads u v n → Both u → GoesOn u v
leads_on k u v n l b = subst (λ (x : World). GoesOn u x) l.is (events_go_on k (length u.bag) u l.steps l.plain b)

-- ---- one way

-- events after which each item of a side is handed up at the other
record Reaches (w : World) (side : Side) (d : ℕ) : Type 0 where
  then : World
  leads : Leads w then (6 * d)
  all : length (end_at then side).accepted ≤ (end_at then (other side)).handed

reaches : Kept → (d : ℕ) (w : World) (side : Side) (b : Bool)
    → nat_lt (end_at w (other side)).handed (length (end_at w side).accepted) ≡ b → Both w
    → length (end_at w side).accepted ≤ (end_at w (other side)).handed + d → Reaches w side d
reaches k d w side false e h le = record {
  then = w;
  leads = record { steps = []; plain = All-nil (IsFurther (length w.bag)); few = omega arith; is = refl };
  all = ltb-false (end_at w (other side)).handed (length (end_at w side).accepted) e;
}
reaches k zero w side true e h le = absurd (omega (arith, le, ltb-true (end_at w (other side)).handed (length (end_at w side).accepted) e))
reaches k (suc d) w side true e h le =
    let a : AdvancesBy w side (end_at w (other side)).handed = advances_by k w side h.holds h.linked (ltb-true (end_at w (other side)).handed (length (end_at w side).accepted) e) in
    let v : World = world_after w a.steps in
    let l : Leads w v 6 = record { steps = a.steps; plain = a.plain; few = a.few; is = refl } in
    let on : GoesOn w v = leads_on k w v 6 l h in
    let left : length (end_at v side).accepted ≤ (end_at v (other side)).handed + d = omega (arith, ap length (on.ahead.ends side).accepted, a.more, le) in
    let r : Reaches v side d = reaches k d v side (nat_lt (end_at v (other side)).handed (length (end_at v side).accepted)) refl on.ahead.both left in
    let count : 6 + 6 * d ≡ 6 * suc d = omega arith in
    record { then = r.then; leads = subst (λ (n : ℕ). Leads w r.then n) count (leads_then k w v r.then 6 (6 * d) l r.leads); all = r.all }

reaches_all : Kept → (w : World) (side : Side) (d : ℕ)
    → length (end_at w side).accepted ≤ (end_at w (other side)).handed + d → Both w → Reaches w side d
reaches_all k w side d le h = reaches k d w side (nat_lt (end_at w (other side)).handed (length (end_at w side).accepted)) refl h le

-- ---- items go both ways

-- a list that begins another and is as long is the other
same_list : (xs ys : List Item) → Begins xs ys → length ys ≤ length xs → xs ≡ ys
same_list xs ys (rest, e) le = by_rest rest e
  where
    by_rest : (rest : List Item) → xs ++ rest ≡ ys → xs ≡ ys
    by_rest [] e = sym (append-nil xs) ∙ e
    by_rest (x ∷ rest) e = absurd (omega (arith, le, ap length e, length-append xs (x ∷ rest)))

all_handed : (s p : State) → s.handed ≤ length s.taken → Begins (take s.handed s.taken) p.accepted
    → length p.accepted ≤ s.handed → take s.handed s.taken ≡ p.accepted
all_handed s p within b le = same_list (take s.handed s.taken) p.accepted b (omega (arith, length-take s.handed s.taken))

done_at : Kept → (v : World) → Holds v → (side : Side) → length (end_at v side).accepted ≤ (end_at v (other side)).handed
    → handed_at v (other side) ≡ sent_at v side
done_at k v h A le = all_handed v.b v.a (h.ends B).fits.bounds.handed_taken (k.order.order v B h) le
done_at k v h B le = all_handed v.a v.b (h.ends A).fits.bounds.handed_taken (k.order.order v A h) le

pub not_full : (s : State) → IsState s → s.acknowledged ≡ length s.accepted → length s.accepted < most_items
    → is_full s ≡ false
not_full s fits all less =
    ap (λ (b : Bool). b || is_backlog_full s.ends (numbers_of s)) (ne_eqb (length s.accepted) most_items (λ e. omega (arith, e, less)))
    ∙ ne_eqb (length s.accepted - s.acknowledged) s.ends.backlog (λ e. omega (arith, e, all, fits.ends.backlog_least))

-- all is done once each way is handed up and acknowledged
pub all_done : Kept → (w v : World) → GoesOn w v
    → ((side : Side) → length (end_at w side).accepted ≤ (end_at v (other side)).handed)
    → ((side : Side) → length (end_at w side).accepted ≤ (end_at v side).acknowledged)
    → IsDone w v
all_done k w v on handed acknowledged =
    let both = on.ahead.both in
    let ends = on.ahead.ends in
    let count : (side : Side) → length (end_at v side).accepted ≡ length (end_at w side).accepted = λ side. ap length (ends side).accepted in
    let all : (side : Side) → (end_at v side).acknowledged ≡ length (end_at v side).accepted = λ side.
    let b = (both.holds.ends side).fits.bounds in omega (arith, acknowledged side, count side, b.acknowledged_sent, b.sent_accepted) in
    record {
      accepted = λ side. (ends side).accepted;
      handed = λ side. done_at k v both.holds side (omega (arith, count side, handed side)) ∙ (ends side).accepted;
      acknowledged = λ side. all side ∙ count side;
      free = λ side less. not_full (end_at v side) (both.holds.ends side).fits (all side) (omega (arith, count side, less));
    }

few_enough : (m n c : ℕ) → c ≤ 0 + 6 * m + 6 * n + 3 + 3 → c ≤ 6 * (m + n + 1)
few_enough m n c h = omega arith

still_left : (n h i : ℕ) → h ≤ i → n ≤ i + (n - h)
still_left n h i a = omega arith

-- at most n events lead from w, by way of v, to a world in which all that this side of w had accepted is handed up at
-- the other side
record Handed (w v : World) (side : Side) (n : ℕ) : Type 0 where
  then : World
  leads : Leads w then n
  since : GoesOn v then
  all : length (end_at w side).accepted ≤ (end_at then (other side)).handed

hands_over : Kept → (w v : World) (side : Side) (c d : ℕ) → Both w → Leads w v c
    → length (end_at w side).accepted ≤ (end_at v (other side)).handed + d → Handed w v side (c + 6 * d)
hands_over k w v side c d h l le =
    let on : GoesOn w v = leads_on k w v c l h in
    let before : length (end_at v side).accepted ≡ length (end_at w side).accepted = ap length (on.ahead.ends side).accepted in
    let r : Reaches v side d = reaches_all k v side d (omega (arith, before, le)) on.ahead.both in
    let since : GoesOn v r.then = leads_on k v r.then (6 * d) r.leads on.ahead.both in
    record {
      then = r.then;
      leads = leads_then k w v r.then c (6 * d) l r.leads;
      since = since;
      all = omega (arith, before, ap length (since.ahead.ends side).accepted, r.all);
    }

record Acknowledged (w v : World) (side : Side) (n : ℕ) : Type 0 where
  then : World
  leads : Leads w then n
  since : GoesOn v then
  all : length (end_at w side).accepted ≤ (end_at then side).acknowledged

learns_all : Kept → (w v : World) (side : Side) (c : ℕ) → Both w → Leads w v c
    → length (end_at w side).accepted ≤ (end_at v (other side)).handed → Acknowledged w v side (c + 3)
learns_all k w v side c h l le =
    let on : GoesOn w v = leads_on k w v c l h in
    let now : Both v = on.ahead.both in
    let before : length (end_at v side).accepted ≡ length (end_at w side).accepted = ap length (on.ahead.ends side).accepted in
    let r : SettlesBy v side (length (end_at v side).accepted) = settles_by k v side now.holds now.linked (omega (arith, before, le)) in
    let u : World = world_after v r.steps in
    let more : Leads v u 3 = record { steps = r.steps; plain = r.plain; few = r.few; is = refl } in
    record { then = u; leads = leads_then k w v u c 3 l more; since = leads_on k v u 3 more now; all = omega (arith, before, r.all) }

by_sides : Kept → (w v : World) (n : ℕ) → Both w → Leads w v n → length (end_at w A).accepted ≤ (end_at v B).handed
    → length (end_at w B).accepted ≤ (end_at v A).handed → length (end_at w A).accepted ≤ (end_at v A).acknowledged
    → length (end_at w B).accepted ≤ (end_at v B).acknowledged → IsDone w v
by_sides k w v n h l to_b to_a at_a at_b =
    all_done k w v (leads_on k w v n l h)
    (λ side. elim side as (λ t. length (end_at w t).accepted ≤ (end_at v (other t)).handed) [ A ↦ to_b | B ↦ to_a ])
    (λ side. elim side as (λ t. length (end_at w t).accepted ≤ (end_at v t).acknowledged) [ A ↦ at_a | B ↦ at_b ])

-- the last of four moves
last_done : Kept → (w v2 : World) (m n : ℕ) → Both w → Leads w v2 (0 + 6 * m + 6 * n)
    → length (end_at w A).accepted ≤ (end_at v2 B).handed → length (end_at w B).accepted ≤ (end_at v2 A).handed
    → (c : Acknowledged w v2 A (0 + 6 * m + 6 * n + 3)) (d : Acknowledged w c.then B (0 + 6 * m + 6 * n + 3 + 3))
    → IsDone w d.then
last_done k w v2 m n h l to_b to_a c d =
    by_sides k w d.then (0 + 6 * m + 6 * n + 3 + 3) h d.leads
    (le_trans (le_trans to_b (c.since.ahead.ends B).grows.handed) (d.since.ahead.ends B).grows.handed)
    (le_trans (le_trans to_a (c.since.ahead.ends A).grows.handed) (d.since.ahead.ends A).grows.handed)
    (le_trans c.all (d.since.ahead.ends A).grows.acknowledged)
    d.all

-- each end asks until it knows
asks_both : Kept → (w v : World) (m n : ℕ) → Both w → Leads w v (0 + 6 * m + 6 * n)
    → length (end_at w A).accepted ≤ (end_at v B).handed → length (end_at w B).accepted ≤ (end_at v A).handed
    → m ≡ pending w A → n ≡ pending w B
    → FinishesByEvents w
asks_both k w v m n h l to_b to_a is_m is_n =
    let c : Acknowledged w v A (0 + 6 * m + 6 * n + 3) = learns_all k w v A (0 + 6 * m + 6 * n) h l to_b in
    let d : Acknowledged w c.then B (0 + 6 * m + 6 * n + 3 + 3) =
    learns_all k w c.then B (0 + 6 * m + 6 * n + 3) h c.leads (le_trans to_a (c.since.ahead.ends A).grows.handed) in
    record {
      more = d.leads.steps;
      plain = d.leads.plain;
      few = subst (λ (j : ℕ). length d.leads.steps ≤ 6 * (pending w A + j + 1)) is_n
          (subst (λ (i : ℕ). length d.leads.steps ≤ 6 * (i + n + 1)) is_m (few_enough m n (length d.leads.steps) d.leads.few));
      done = subst (IsDone w) (sym d.leads.is) (last_done k w v m n h l to_b to_a c d);
    }

-- first one way, then the other
pub finishes_by : Kept → (w : World) → Both w → FinishesByEvents w
finishes_by k w h =
    let none : Leads w w 0 = record { steps = []; plain = All-nil (IsFurther (length w.bag)); few = omega arith; is = refl } in
    let a : Handed w w A (0 + 6 * pending w A) = hands_over k w w A 0 (pending w A) h none (still_left (length (end_at w A).accepted) (end_at w B).handed (end_at w B).handed (le_refl (end_at w B).handed)) in
    let b : Handed w a.then B (0 + 6 * pending w A + 6 * pending w B) =
    hands_over k w a.then B (0 + 6 * pending w A) (pending w B) h a.leads (still_left (length (end_at w B).accepted) (end_at w A).handed (end_at a.then A).handed (a.since.ahead.ends A).grows.handed) in
    asks_both k w b.then (pending w A) (pending w B) h b.leads
    (le_trans a.all (b.since.ahead.ends B).grows.handed) b.all refl refl
