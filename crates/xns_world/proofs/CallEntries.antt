-- Each small step is one entry of the ledger.
use Rattle.std.proofs.Common.{◌≡◌, ℕ, zero, suc, ◌+◌, ◌≤◌, true, inl, inr, List, [], ◌∷◌, ◌++◌, length, take, fold, Some, refl, sym, ◌∙◌, ap, subst, arith, append-nil, append_assoc}
use Rattle.std.specs.Prelude.{All}
use Rattle.std.proofs.lemmas.Bool.{ltb-true}
use Rattle.courier_messages.specs.RawCalls.{RawCall}
use Rattle.courier_calls.specs.Calls.{SeenModel, Serving, decision, after_decision, outcomes, last_state}
use Rattle.courier_calls.specs.Caller.{answers}
use Rattle.courier_calls.specs.Laws.{BringsAtMostOne}
use Rattle.courier_calls.specs.Server.{decided_calls}
use Rattle.xns_spp.specs.Growth.{Begins}
use Rattle.xns_spp.specs.Item.{IsItem}
use Rattle.xns_spp.specs.Sending.{take_answer}
use Rattle.xns_spp.specs.declared.item.Item.{Item}
use Rattle.item_world.specs.Channel.{HandsUp}
use Rattle.item_world.proofs.Fronts.{element}
use Rattle.item_world.specs.Events as events
use Rattle.item_world.specs.World.{World, end_at, sends, takes, channel_of, sent_at, handed_at}
use Rattle.item_world.specs.declared.setup.Setup.{Setup}
use Rattle.item_world.specs.declared.side.Side.{Side}
use Rattle.item_world.specs.declared.side.Side.TheVariants.{A, B}
use Rattle.xns_world.proofs.CallCarries.{faces, begun_items, next_piece, read_more, feeds_hold, calls, not_refused, waiting_item, shorter_begins, front_stays}
use Rattle.xns_world.proofs.CallRuns.{step_holds, outcomes_begin}
use Rattle.xns_world.proofs.Stepping.{by_step}
use Rattle.xns_spp.specs.Fronts.{begins_then, front_begins, one_more, last_of}
use Rattle.xns_world.specs.CallLaws.{PartiesLaws}
use Rattle.xns_world.specs.CallOrder.{decides, ledger_of, CallsHold}
use Rattle.xns_world.specs.CallWorld.{Parties, CallWorld, calls_made, outcomes_read, in_world, feeds_session, lists_outcome, makes, has_outcome, may_call, call_start, carried_at, seen_at, step, CallStep, arrival, noise, ticking, acting, flushing, resending, telling, call_stepped, all_call_stepped}
use Rattle.xns_world.specs.Ledger as ledger
use Rattle.xns_world.specs.Ledger.{Ledger, Entry, IsHistory, carried_out, decided_then, IsInOrder}
use Rattle.xns_world.specs.Settling.{onward}

-- ---- the outcomes and the state, by one call more

outcomes_one : {S : Type 0} (serving : Serving S) (s : S) (cs : List RawCall) (c : RawCall) → outcomes serving s (cs ++ c ∷ []) ≡ outcomes serving s cs ++ decision serving (last_state serving s cs) c ∷ []
unfolding outcomes last_state
outcomes_one serving s [] c = refl
outcomes_one serving s (d ∷ cs) c = ap (λ (l : List SeenModel). decision serving s d ∷ l) (outcomes_one serving (after_decision serving s d) cs c)

state_one : {S : Type 0} (serving : Serving S) (s : S) (cs : List RawCall) (c : RawCall) → last_state serving s (cs ++ c ∷ []) ≡ after_decision serving (last_state serving s cs) c
unfolding last_state
state_one serving s [] c = refl
state_one serving s (d ∷ cs) c = state_one serving (after_decision serving s d) cs c

pub outcomes_length : {S : Type 0} (serving : Serving S) (s : S) (cs : List RawCall) → length (outcomes serving s cs) ≡ length cs
unfolding outcomes
outcomes_length serving s [] = refl
outcomes_length serving s (c ∷ cs) = ap suc (outcomes_length serving (after_decision serving s c) cs)

-- the state and the outcomes of calls, from what there was before on
all_decided : {S : Type 0} (serving : Serving S) (s : S) (os : List SeenModel) (cs : List RawCall) → fold (decided_then (decides serving)) (s, os) cs ≡ (last_state serving s cs, os ++ outcomes serving s cs)
unfolding outcomes last_state
all_decided serving s os [] = ap (λ (l : List SeenModel). (s, l)) (sym (append-nil os))
all_decided {S} serving s os (c ∷ cs) =
    all_decided serving (after_decision serving s c) (os ++ decision serving s c ∷ []) cs
    ∙ ap (λ (l : List SeenModel). (last_state serving (after_decision serving s c) cs, l)) (append_assoc os (decision serving s c ∷ []) (outcomes serving (after_decision serving s c) cs))

-- ---- what is read begins what was answered

read_begins : {S : Type 0} (p : Parties S) (w : CallWorld) → PartiesLaws p → CallsHold p w → Begins (outcomes_read p w) (outcomes p.serving p.service (carried_at w))
read_begins p w g h =
    let f = faces p w g h in
    let carried = outcomes p.serving p.service (carried_at w) in
    let all = outcomes p.serving p.service (calls_made p w) in
    let few : length (outcomes_read p w) ≤ length carried = omega (arith, f.fewer, outcomes_length p.serving p.service (carried_at w)) in
    shorter_begins (outcomes_read p w) carried all f.answered (outcomes_begin p.serving p.service (carried_at w) (calls_made p w) f.once) few

pub in_order : {S : Type 0} (p : Parties S) (w : CallWorld) → PartiesLaws p → CallsHold p w → IsInOrder (decides p.serving) p.service (ledger_of p w)
in_order p w g h = record {
  carried = (faces p w g h).once;
  answered = sym (all_decided p.serving p.service [] (carried_at w));
  seen = begins_then (seen_at p w) (outcomes_read p w) (outcomes p.serving p.service (carried_at w)) (front_begins w.listed (outcomes_read p w)) (read_begins p w g h);
}

-- ---- steps that leave the ledger as it is

-- the ledger, by what was seen and carried out
ledger_as : {S : Type 0} → Parties S → CallWorld → List SeenModel → List RawCall → Ledger S RawCall SeenModel
ledger_as p w seen carried = record {
  made = calls_made p w;
  carried = carried;
  answered = outcomes p.serving p.service carried;
  seen = seen;
  state = last_state p.serving p.service carried;
}

same_ledger : {S : Type 0} (p : Parties S) (w : CallWorld) (v : World) (carried : List RawCall) → seen_at p (in_world w v) ≡ seen_at p w → decided_calls (handed_at v B) ≡ carried → ledger_of p (in_world w v) ≡ ledger_as p w (seen_at p w) carried
unfolding ledger_as
same_ledger p w v carried seen same = ap (λ (l : List SeenModel). ledger_as p w l (decided_calls (handed_at v B))) seen ∙ ap (λ (cs : List RawCall). ledger_as p w (seen_at p w) cs) same

abbrev EntryTo : {S : Type 0} → Parties S → CallWorld → CallWorld → Type 0
EntryTo p w v = Entry (decides p.serving) (ledger_of p w) (ledger_of p v)

quiet_entry : {S : Type 0} (p : Parties S) (w : CallWorld) (v : World) → seen_at p (in_world w v) ≡ seen_at p w → decided_calls (handed_at v B) ≡ carried_at w → EntryTo p w (in_world w v)
unfolding ledger_as
quiet_entry p w v seen same = ledger.quiet (same_ledger p w v (carried_at w) seen same)

same_seen : {S : Type 0} (p : Parties S) (w : CallWorld) (v : World) → handed_at v A ≡ handed_at w.world A → seen_at p (in_world w v) ≡ seen_at p w
same_seen p w v same = ap (λ (xs : List Item). take w.listed (answers p.serving.table (calls_made p w) xs)) same

handed_entry : {S : Type 0} (p : Parties S) (w : CallWorld) (v : World) → ((t : Side) → handed_at v t ≡ handed_at w.world t) → EntryTo p w (in_world w v)
handed_entry p w v same = quiet_entry p w v (same_seen p w v (same A)) (ap decided_calls (same B))

other_entry : {S : Type 0} (p : Parties S) (w : CallWorld) (s : events.SmallStep) → events.IsOther s → PartiesLaws p → CallsHold p w → EntryTo p w (in_world w (events.stepped w.world s))
other_entry p w s other g h = handed_entry p w (events.stepped w.world s) (g.answering.network.items.quiet w.world s other h.holds).handed

-- ---- an item is fed

caller_feeds : {S : Type 0} (p : Parties S) (w : CallWorld) (x : Item) → PartiesLaws p → CallsHold p w → take_answer w.world.a ≡ Some x → EntryTo p w (feeds_session w A)
caller_feeds p w x g h is =
    let u = g.answering.network.items.take w.world A x h.holds is in
    quiet_entry p w (takes w.world A) (front_stays w.listed (outcomes_read p w) (outcomes_read p (feeds_session w A)) (read_more p w A x g u) h.listed) (ap decided_calls u.there)

-- one call more is carried out
grown_ledger : {S : Type 0} (p : Parties S) (w : CallWorld) (seen : List SeenModel) (cs : List RawCall) (c : RawCall) → ledger_as p w seen (cs ++ c ∷ []) ≡ carried_out (decides p.serving) (ledger_as p w seen cs) c
unfolding ledger_as
grown_ledger {S} p w seen cs c =
    ap (λ (os : List SeenModel). record (ledger_as p w seen (cs ++ c ∷ [])) { answered = os }) (outcomes_one p.serving p.service cs c)
    ∙ ap (λ (s : S). record (carried_out (decides p.serving) (ledger_as p w seen cs) c) { state = s }) (state_one p.serving p.service cs c)

-- the item ends no message, or a call, which is decided
server_brings : {S : Type 0} (p : Parties S) (w : CallWorld) (x : Item) → PartiesLaws p → CallsHold p w → CallsHold p (feeds_session w B) → HandsUp (channel_of w.world) (channel_of (takes w.world B)) B x
    → BringsAtMostOne p.serving p.service (handed_at w.world B) (handed_at w.world B ++ x ∷ []) → EntryTo p w (feeds_session w B)
unfolding ledger_as
server_brings p w x g h after u (inl none) = quiet_entry p w (takes w.world B) (same_seen p w (takes w.world B) u.there) (ap decided_calls u.here ∙ none.calls)
server_brings p w x g h after u (inr one) =
    let c : RawCall = one.call in
    let carried : carried_at (feeds_session w B) ≡ carried_at w ++ c ∷ [] = ap decided_calls u.here ∙ one.calls in
    let seen = same_seen p w (takes w.world B) u.there in
    ledger.carries c
    (last_of (carried_at w) c (calls_made p w) (subst (λ (l : List RawCall). Begins l (calls_made p w)) carried (faces p (feeds_session w B) g after).once))
    (same_ledger p w (takes w.world B) (carried_at w ++ c ∷ []) seen carried ∙ grown_ledger p w (seen_at p w) (carried_at w) c)

server_feeds : {S : Type 0} (p : Parties S) (w : CallWorld) (x : Item) → PartiesLaws p → CallsHold p w → take_answer w.world.b ≡ Some x → EntryTo p w (feeds_session w B)
server_feeds p w x g h is =
    let u = g.answering.network.items.take w.world B x h.holds is in
    let v : World = takes w.world B in
    let after = feeds_hold p w B x g h is in
    let items = begun_items (handed_at v B) (sent_at v A) (g.world.order v B after.holds) (after.holds.ends A).fits.items in
    server_brings p w x g h after u (g.brings (handed_at w.world B) x (subst (λ (l : List Item). All IsItem l) u.here items))

feeds_entry : {S : Type 0} (p : Parties S) (w : CallWorld) (side : Side) (x : Item) → PartiesLaws p → CallsHold p w → take_answer (end_at w.world side) ≡ Some x → EntryTo p w (feeds_session w side)
feeds_entry p w A x g h is = caller_feeds p w x g h is
feeds_entry p w B x g h is = server_feeds p w x g h is

-- ---- an outcome is listed, a call is made

lists_entry : {S : Type 0} (p : Parties S) (w : CallWorld) → PartiesLaws p → CallsHold p w → has_outcome p w ≡ true → EntryTo p w (lists_outcome w)
unfolding ledger_as
lists_entry p w g h is =
    let read = outcomes_read p w in
    let answered = outcomes p.serving p.service (carried_at w) in
    let e = element read w.listed (ltb-true w.listed (length read) is) in
    let more = one_more read w.listed e.0 e.1 in
    let front : Begins (take (w.listed + 1) read) answered = begins_then (take (w.listed + 1) read) read answered (front_begins (w.listed + 1) read) (read_begins p w g h) in
    ledger.sees e.0
    (last_of (seen_at p w) e.0 answered (subst (λ (l : List SeenModel). Begins l answered) more front))
    (ap (λ (l : List SeenModel). ledger_as p w l (carried_at w)) more)

makes_entry : {S : Type 0} (p : Parties S) (w : CallWorld) → PartiesLaws p → CallsHold p w → may_call p w ≡ true → EntryTo p w (makes w)
makes_entry p w g h is =
    let c = calls p w g h is in
    ledger.makes c.call
    (ap (λ (cs : List RawCall). record (ledger_of p (makes w)) { made = cs }) c.more
    ∙ ap (λ (rs : List SeenModel). record (ledger_of p w) { made = calls_made p w ++ c.call ∷ []; seen = take w.listed rs }) c.same)

-- ---- one step

acting_entry : {S : Type 0} (p : Parties S) (w : CallWorld) (side : Side) → PartiesLaws p → CallsHold p w → EntryTo p w (onward w (step p side w))
acting_entry p w side g h = by_step p w (λ t o. EntryTo p w (onward w o)) (record {
  sent = λ t x is full. handed_entry p w (sends w.world t x) (g.answering.network.items.send w.world t x (not_refused g.answering.ends (end_at w.world t) x (next_piece p w t x g h is) full)).handed;
  fed = λ t is. let e = waiting_item g.answering.ends (end_at w.world t) is in feeds_entry p w t e.0 g h e.1;
  listed = lists_entry p w g h;
  made = makes_entry p w g h;
  rests = λ is. ledger.quiet refl;
  stays = ledger.quiet refl;
}) side

pub step_entry : {S : Type 0} (p : Parties S) (w : CallWorld) (s : CallStep) → PartiesLaws p → CallsHold p w → EntryTo p w (call_stepped p w s)
step_entry p w (arrival k) g h = other_entry p w (events.arrival k) tt g h
step_entry p w (noise side bytes) g h = other_entry p w (events.noise side bytes) tt g h
step_entry p w (ticking side) g h = other_entry p w (events.ticking side) tt g h
step_entry p w (acting side) g h = acting_entry p w side g h
step_entry p w (flushing side) g h = other_entry p w (events.flushing side) tt g h
step_entry p w (resending side) g h = other_entry p w (events.resending side) tt g h
step_entry p w (telling side asks) g h = other_entry p w (events.telling side asks) tt g h

-- ---- steps are a history

entries_on : {S : Type 0} (p : Parties S) (w : CallWorld) (ss : List CallStep) (n : ℕ) → PartiesLaws p → CallsHold p w → EntryTo p (all_call_stepped p w (take n ss)) (all_call_stepped p w (take (suc n) ss))
entries_on p w [] zero g h = ledger.quiet refl
entries_on p w [] (suc n) g h = ledger.quiet refl
entries_on p w (s ∷ ss) zero g h = step_entry p w s g h
entries_on p w (s ∷ ss) (suc n) g h = entries_on p (call_stepped p w s) ss n g (step_holds p w s g h)

begins_none : {X : Type 0} (xs : List X) → Begins xs [] → xs ≡ []
begins_none [] b = refl
begins_none (x ∷ xs) b = absurd (cc)

first_ledger : {S : Type 0} (p : Parties S) (setup : Setup) → PartiesLaws p → CallsHold p (call_start setup) → ledger_of p (call_start setup) ≡ record { made = []; carried = []; answered = []; seen = []; state = p.service }
unfolding ledger_as outcomes last_state
first_ledger p setup g h =
    let w = call_start setup in
    ap (λ (cs : List RawCall). ledger_as p w [] cs) (begins_none (carried_at w) (faces p w g h).once)

pub history : {S : Type 0} (p : Parties S) (setup : Setup) (steps : List CallStep) → PartiesLaws p → CallsHold p (call_start setup) → IsHistory (decides p.serving) p.service (λ n. ledger_of p (all_call_stepped p (call_start setup) (take n steps)))
history p setup steps g h = record { first = first_ledger p setup g h; entries = λ n. entries_on p (call_start setup) steps n g h }
