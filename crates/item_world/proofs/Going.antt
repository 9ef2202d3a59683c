-- An end goes on with nothing accepted, and a world with its ends.
use Rattle.std.proofs.Common.{◌≡◌, inl, inr, ℕ, ◌+◌, ◌≤◌, true, List, [], ◌∷◌, fold, Option, Some, None, refl, sym, ◌∙◌, ap, subst, arith}
use Rattle.std.specs.Option.{option_to_list}
use Rattle.std.specs.Prelude.{All}
use Rattle.std.proofs.lemmas.List.Elements.{All-head, All-tail}
use Rattle.xns_spp.proofs.Growing.{grows_itself}
use Rattle.xns_spp.specs.Ends.{is_open}
use Rattle.xns_spp.specs.Fronts.{begins_then}
use Rattle.xns_spp.specs.Growth.{Grows}
use Rattle.xns_spp.specs.Receiving.{receive_answer, after_receive}
use Rattle.xns_spp.specs.Sending.{after_flush, flush_answer, after_tick, tick_answer, after_take, take_answer}
use Rattle.xns_spp.specs.State.{State, IsState}
use Rattle.xns_spp.specs.declared.ends.Ends.{Ends}
use Rattle.xns_spp.specs.declared.item.Item.{Item}
use Rattle.item_world.proofs.Kept.{flushed, delivers_lands, steps_fit}
use Rattle.item_world.proofs.Later.{later_then, later_itself, all_later}
use Rattle.item_world.proofs.Linking.{SameNames, same_names, names_then}
use Rattle.item_world.proofs.Onward.{Kept}
use Rattle.item_world.proofs.Sides.{each_end, same_marked, has_landed}
use Rattle.item_world.specs.EndLaws.{EndLaws}
use Rattle.item_world.specs.Events.{SmallStep, IsStep, ticking, taking, stepped, all_stepped, delivery_steps, delivers, IsEvent, steps_of, happens, world_after}
use Rattle.item_world.specs.Later.{Later}
use Rattle.item_world.specs.Invariant.{Holds}
use Rattle.item_world.specs.Landing.{with_arrival, landing}
use Rattle.item_world.specs.Progress.{Linked, IsFurther}
use Rattle.item_world.specs.Side.{other}
use Rattle.item_world.specs.World.{World, end_at, moved, marked_delivered, flushes, ticks, takes}
use Rattle.item_world.specs.declared.emitted.Emitted.{Emitted}
use Rattle.item_world.specs.declared.event.Event.{Event}
use Rattle.item_world.specs.declared.event.Event.TheVariants.{Deliver, Rest, Tick, Foreign, Send, Take}
use Rattle.item_world.specs.declared.side.Side.{Side}

-- ---- an end goes on, with nothing accepted and at most so many items handed up

pub record EndGoes (most : ℕ) (s t : State) : Type 0 where
  pub grows : Grows s t
  pub accepted : t.accepted ≡ s.accepted
  pub names : SameNames s.ends t.ends
  pub opens : is_open s.ends ≡ true → is_open t.ends ≡ true
  pub handed : t.handed ≤ s.handed + most

grows_then : (s t u : State) → Grows s t → Grows t u → Grows s u
grows_then s t u a b = record {
  accepted = begins_then s.accepted t.accepted u.accepted a.accepted b.accepted;
  acknowledged = omega (arith, a.acknowledged, b.acknowledged);
  sent = omega (arith, a.sent, b.sent);
  allowed = omega (arith, a.allowed, b.allowed);
  taken = begins_then s.taken t.taken u.taken a.taken b.taken;
  handed = omega (arith, a.handed, b.handed);
  top = omega (arith, a.top, b.top);
}

pub goes_itself : (most : ℕ) (s : State) → EndGoes most s s
goes_itself most s = record { grows = grows_itself s; accepted = refl; names = same_names s.ends s.ends refl; opens = λ h. h; handed = omega arith }

pub goes_then : (m n : ℕ) (s t u : State) → EndGoes m s t → EndGoes n t u → EndGoes (m + n) s u
goes_then m n s t u a b = record {
  grows = grows_then s t u a.grows b.grows;
  accepted = b.accepted ∙ a.accepted;
  names = names_then s.ends t.ends u.ends a.names b.names;
  opens = λ h. b.opens (a.opens h);
  handed = omega (arith, a.handed, b.handed);
}

sent_goes : (s t : State) (n : ℕ) → Grows s t → t ≡ record s { sent = n } → EndGoes 0 s t
sent_goes s t n grows is = record {
  grows = grows;
  accepted = ap (λ (u : State). u.accepted) is;
  names = same_names s.ends t.ends (ap (λ (u : State). u.ends) is);
  opens = λ h. ap (λ (u : State). is_open u.ends) is ∙ h;
  handed = omega (arith, ap (λ (u : State). u.handed) is);
}

pub flush_goes : EndLaws → (s : State) → IsState s → EndGoes 0 s (after_flush s)
flush_goes laws s fits = sent_goes s (after_flush s) (after_flush s).sent (laws.grows.flush s fits) (laws.alone.flush s)

tick_goes : EndLaws → (s : State) → IsState s → EndGoes 0 s (after_tick s)
tick_goes laws s fits = sent_goes s (after_tick s) (after_tick s).sent (laws.grows.tick s fits) (laws.alone.tick s)

take_goes : EndLaws → (s : State) (o : Option Item) → take_answer s ≡ o → EndGoes 1 s (after_take s)
take_goes laws s None h = subst (EndGoes 1 s) (sym (laws.hands_up.none s h)) (goes_itself 1 s)
take_goes laws s (Some x) h =
    let is = laws.hands_up.some s x h in
    record {
      grows = laws.grows.take s;
      accepted = ap (λ (u : State). u.accepted) is;
      names = same_names s.ends (after_take s).ends (ap (λ (u : State). u.ends) is);
      opens = λ o. ap (λ (u : State). is_open u.ends) is ∙ o;
      handed = omega (arith, ap (λ (u : State). u.handed) is);
    }

receive_names : EndLaws → (s : State) (b : List ℕ) → SameNames s.ends (after_receive s b).ends
receive_names laws s b =
    elim (laws.learns s b) as (λ o. SameNames s.ends (after_receive s b).ends) [
      | inl same ↦ same_names s.ends (after_receive s b).ends same
      | inr l ↦ subst (λ (x : Ends). SameNames s.ends x) (sym l.ends) (record { own = refl; id = refl; role = refl })
    ]

receive_goes : EndLaws → (s : State) (b : List ℕ) → EndGoes 0 s (after_receive s b)
receive_goes laws s b =
    let stays = laws.stays.receive s b in
    record {
      grows = laws.grows.receive s b;
      accepted = stays.accepted;
      names = receive_names laws s b;
      opens = λ h. ap is_open (laws.known.known s b h) ∙ h;
      handed = omega (arith, stays.handed);
    }

-- ---- what always holds of a world

pub record Both (w : World) : Type 0 where
  pub holds : Holds w
  pub linked : Linked w

both_step : Kept → (w : World) (s : SmallStep) → IsStep s → Both w → Both (stepped w s)
both_step k w s step b = record { holds = k.order.each w s step b.holds; linked = k.links w s step b.holds b.linked }

pub both_after : Kept → (w : World) (ss : List SmallStep) → All IsStep ss → Both w → Both (all_stepped w ss)
both_after k w [] fits b = b
both_after k w (s ∷ ss) fits b = both_after k (stepped w s) ss (All-tail IsStep s ss fits) (both_step k w s (All-head IsStep s ss fits) b)

pub events_after : Kept → (w : World) (es : List Event) → All IsEvent es → Both w → Both (world_after w es)
events_after k w [] fits b = b
events_after k w (e ∷ es) fits b =
    events_after k (happens w e) es (All-tail IsEvent e es fits) (both_after k w (steps_of w e) (steps_fit w e (All-head IsEvent e es fits)) b)

-- ---- a world of two such ends

abbrev EndsGo : ℕ → World → World → Type 0
EndsGo most w v = (side : Side) → EndGoes most (end_at w side) (end_at v side)

pub record Ahead (most : ℕ) (w v : World) : Type 0 where
  pub both : Both v
  pub later : Later w v
  pub ends : EndsGo most w v

pub ahead_itself : (most : ℕ) (w : World) → Both w → Ahead most w w
ahead_itself most w b = record { both = b; later = later_itself w; ends = λ side. goes_itself most (end_at w side) }

pub ahead_then : (m n : ℕ) (u v w : World) → Ahead m u v → Ahead n v w → Ahead (m + n) u w
ahead_then m n u v w a b = record {
  both = b.both;
  later = later_then u v w a.later b.later;
  ends = λ side. goes_then m n (end_at u side) (end_at v side) (end_at w side) (a.ends side) (b.ends side);
}

moved_ends : (most : ℕ) (w : World) (side : Side) (s : State) (bs : List (List ℕ)) → EndGoes most (end_at w side) s
    → EndsGo most w (moved w side s bs)
moved_ends most w side s bs h t = each_end w side s bs (λ u y. EndGoes most (end_at w u) y) h t (goes_itself most (end_at w t))

same_goes : (s t : State) → t ≡ s → EndGoes 0 s t
same_goes s t e = subst (EndGoes 0 s) (sym e) (goes_itself 0 s)

land_ends : EndLaws → (w : World) (k : ℕ) (l : Side × World) → landing w k ≡ Some l → EndsGo 0 w l.1
land_ends laws w k l e =
    let i = has_landed w k l e in
    let x : Emitted = i.packet in
    let v : World = marked_delivered w k x in
    let s : State = end_at v (other x.side) in
    let more : EndsGo 0 v (with_arrival w k x) =
    moved_ends 0 v (other x.side) (after_receive s x.bytes) (option_to_list (receive_answer s x.bytes).reply) (receive_goes laws s x.bytes) in
    subst (λ (m : Side × World). EndsGo 0 w m.1) i.leads
    (λ t. goes_then 0 0 (end_at w t) (end_at v t) (end_at (with_arrival w k x) t) (same_goes (end_at w t) (end_at v t) (same_marked w k x t)) (more t))

deliver_ends : Kept → (w : World) (k : ℕ) (o : Option (Side × World)) → landing w k ≡ o → Both w → EndsGo 0 w (flushed w o)
deliver_ends kept w k None e b t = goes_itself 0 (end_at w t)
deliver_ends kept w k (Some l) e b t =
    let v : World = l.1 in
    let now : Holds v = kept.order.land w k l b.holds e in
    let s : State = end_at v l.0 in
    goes_then 0 0 (end_at w t) (end_at v t) (end_at (flushes v l.0) t) (land_ends kept.laws w k l e t)
    (moved_ends 0 v l.0 (after_flush s) (flush_answer s) (flush_goes kept.laws s (now.ends l.0).fits) t)

pub deliver_ahead : Kept → (w : World) (k : ℕ) → Both w → Ahead 0 w (delivers w k)
deliver_ahead kept w k b = record {
  both = both_after kept w (delivery_steps w k) (steps_fit w (Deliver k) tt) b;
  later = all_later kept.laws w (delivery_steps w k);
  ends = subst (λ (v : World). EndsGo 0 w v) (sym (delivers_lands w k)) (deliver_ends kept w k (landing w k) refl b);
}

pub fold_ahead : Kept → (w : World) (ks : List ℕ) → Both w → Ahead 0 w (fold delivers w ks)
fold_ahead kept w [] b = ahead_itself 0 w b
fold_ahead kept w (k ∷ ks) b =
    let first = deliver_ahead kept w k b in
    ahead_then 0 0 w (delivers w k) (fold delivers (delivers w k) ks) first (fold_ahead kept (delivers w k) ks first.both)

-- an end takes a step, and goes on by it
step_ahead : Kept → (most : ℕ) (w : World) (s : SmallStep) → IsStep s → EndsGo most w (stepped w s) → Both w → Ahead most w (stepped w s)
step_ahead kept most w s step ends b = record { both = both_step kept w s step b; later = all_later kept.laws w (s ∷ []); ends = ends }

pub tick_ahead : Kept → (w : World) (side : Side) → Both w → Ahead 0 w (ticks w side)
tick_ahead kept w side b =
    let s : State = end_at w side in
    step_ahead kept 0 w (ticking side) tt (moved_ends 0 w side (after_tick s) (tick_answer s) (tick_goes kept.laws s (b.holds.ends side).fits)) b

pub take_ahead : Kept → (w : World) (side : Side) → Both w → Ahead 1 w (takes w side)
take_ahead kept w side b =
    let s : State = end_at w side in
    step_ahead kept 1 w (taking side) tt (moved_ends 1 w side (after_take s) [] (take_goes kept.laws s (take_answer s) refl)) b

-- ---- with some items handed up

pub record GoesOn (w v : World) : Type 0 where
  pub most : ℕ
  pub ahead : Ahead most w v

pub goes_on_itself : (w : World) → Both w → GoesOn w w
goes_on_itself w b = record { most = 0; ahead = ahead_itself 0 w b }

pub goes_on_then : (most : ℕ) (u v w : World) → Ahead most u v → GoesOn v w → GoesOn u w
goes_on_then most u v w a g = record { most = most + g.most; ahead = ahead_then most g.most u v w a g.ahead }

event_goes_on : Kept → (n : ℕ) (w : World) (e : Event) → IsFurther n e → Both w → GoesOn w (happens w e)
event_goes_on k n w (Deliver i) h b = record { most = 0; ahead = deliver_ahead k w i b }
event_goes_on k n w Rest h b = absurd h
event_goes_on k n w (Tick side) h b = record { most = 0; ahead = tick_ahead k w side b }
event_goes_on k n w (Foreign side bytes) h b = absurd h
event_goes_on k n w (Send side x) h b = absurd h
event_goes_on k n w (Take side) h b = record { most = 1; ahead = take_ahead k w side b }

pub events_go_on : Kept → (n : ℕ) (w : World) (es : List Event) → All (IsFurther n) es → Both w → GoesOn w (world_after w es)
events_go_on k n w [] h b = goes_on_itself w b
events_go_on k n w (e ∷ es) h b =
    let first = event_goes_on k n w e (All-head (IsFurther n) e es h) b in
    goes_on_then first.most w (happens w e) (world_after w (e ∷ es)) first.ahead (events_go_on k n (happens w e) es (All-tail (IsFurther n) e es h) first.ahead.both)
