-- What a caller's end stands for after each step.
use Rattle.std.proofs.Common.{◌≡◌, ℕ, ◌+◌, ◌<◌, ◌≤◌, Bool, true, false, List, [], ◌∷◌, ◌++◌, length, map, take, Option, Some, None, refl, sym, ◌∙◌, ap, subst, arith, length-append}
use Rattle.std.specs.Prelude.{slice_get, ◌≢◌, nat_lt, ◌==◌, ◌&&◌, if◌then◌else◌, is_some, option_map}
use Rattle.std.specs.Option.{option_to_list}
use Rattle.std.proofs.lemmas.Option.{slice_get-map}
use Rattle.std.proofs.lemmas.Bool.{and_right, le-ltb, lt-ltb, ltb-false, eq-eqb, ne_eqb}
use Rattle.std.proofs.lemmas.List.{take_all, length-take-le, map-append, length-map}
use Rattle.courier_messages.specs.RawCalls.{RawCall}
use Rattle.courier_calls.specs.Calls.{SeenModel, seen_model, raw_call}
use Rattle.courier_calls.specs.Caller as caller
use Rattle.courier_calls.specs.Caller.{answers}
use Rattle.courier_calls.specs.declared.call.Call.{Call}
use Rattle.courier_calls.specs.declared.call.Seen.{Seen}
use Rattle.xns_spp.specs.Held.{Held, StandsFor}
use Rattle.xns_spp.specs.Sending.{is_full, waiting_count, after_send, take_answer, after_take}
use Rattle.xns_spp.specs.State.{State}
use Rattle.xns_spp.specs.declared.item.Item.{Item}
use Rattle.xns_world.proofs.CallCarries.{next_piece, calls, read_more, not_refused, front_stays}
use Rattle.xns_spp.specs.Fronts.{one_more}
use Rattle.xns_world.specs.declared.calling.CallingEnd.{CallingEnd}
use Rattle.item_world.specs.declared.side.Side.TheVariants.{A}
use Rattle.xns_world.specs.CallLaws.{PartiesLaws}
use Rattle.xns_world.specs.CallOrder.{CallsHold}
use Rattle.xns_world.specs.CallPlay.{IsCalling, caller_history}
use Rattle.xns_world.specs.CallWorld.{Parties, CallWorld, or_caller, calls_made, next_out, outcomes_read, sends_next, feeds_session, lists_outcome, makes, has_outcome, may_call, caller_step, step_with, step, seen_at}
use Rattle.xns_world.specs.Settling.{Stepped}
use Rattle.item_world.specs.World.{World, sends, takes, sent_at, handed_at}
use Rattle.item_world.specs.EndLaws.{EndLaws}

-- ---- what is out

pub out_first : (xs ys : List Item) → slice_get (xs ++ ys) (length xs) ≡ slice_get ys 0
out_first [] ys = refl
out_first (x ∷ xs) ys = out_first xs ys

pub calling_next : {S : Type 0} (p : Parties S) (e : CallingEnd) (w : CallWorld) → IsCalling p e w → next_out p w A ≡ slice_get e.caller.out 0
calling_next p e w h =
    ap (λ (l : List Item). slice_get l (length (sent_at w.world A))) (sym h.session.items)
    ∙ out_first (sent_at w.world A) e.caller.out

-- ---- an outcome is listed

record Listed {S : Type 0} (p : Parties S) (w : CallWorld) (r : SeenModel) : Type 0 where
  there : has_outcome p w ≡ true
  more : seen_at p (lists_outcome w) ≡ seen_at p w ++ r ∷ []

some_lists : {S : Type 0} (p : Parties S) (w : CallWorld) (o : Option SeenModel) (r : SeenModel) → w.listed ≤ length (outcomes_read p w) → seen_at p w ++ option_to_list o ≡ outcomes_read p w → Some r ≡ o → Listed p w r
some_lists p w o r within all is =
    let same : seen_at p w ++ r ∷ [] ≡ outcomes_read p w = ap (λ (q : Option SeenModel). seen_at p w ++ option_to_list q) is ∙ all in
    let count : length (outcomes_read p w) ≡ w.listed + 1 = omega (arith, ap (length {A = SeenModel}) same, length-append (seen_at p w) (r ∷ []), length-take-le w.listed (outcomes_read p w) within) in
    record {
      there = lt-ltb w.listed (length (outcomes_read p w)) (omega arith);
      more = take_all (w.listed + 1) (outcomes_read p w) (omega arith) ∙ sym same;
    }

pub list_some : {S : Type 0} (p : Parties S) (e f : CallingEnd) (w : CallWorld) (x : Seen) → CallsHold p w → IsCalling p e w → Some x ≡ e.caller.outcome
    → f.endpoint ≡ e.endpoint → f.made ≡ e.made → f.seen.items ≡ e.seen.items ++ x ∷ []
    → caller.CallerStandsFor p.serving.table f.caller (record (caller_history p w) { handed = seen_at p w ++ seen_model x ∷ [] })
    → (true ≡ has_outcome p w) × IsCalling p f (lists_outcome w)
list_some p e f w x holds h is endpoint made seen session =
    let l = some_lists p w (option_map seen_model e.caller.outcome) (seen_model x) holds.listed h.session.outcomes (ap (option_map seen_model) is) in (
      sym l.there,
      record {
        stands = subst (λ (v : Held). StandsFor v w.world.a) (sym endpoint) h.stands;
        session = subst (λ (rs : List SeenModel). caller.CallerStandsFor p.serving.table f.caller (record (caller_history p w) { handed = rs })) (sym l.more) session;
        made = made ∙ h.made;
        seen = ap (map seen_model) seen ∙ (map-append seen_model e.seen.items (x ∷ []) ∙ (ap (λ (rs : List SeenModel). rs ++ seen_model x ∷ []) h.seen ∙ sym l.more));
      },
    )

-- ---- an item is sent

pub calling_sends : {S : Type 0} (p : Parties S) (e : CallingEnd) (w : CallWorld) (x : Item) (endpoint : Held) (new : caller.CallerState) → PartiesLaws p → CallsHold p w → IsCalling p e w → next_out p w A ≡ Some x → is_full w.world.a ≡ false
    → StandsFor endpoint (after_send w.world.a x)
    → caller.CallerStandsFor p.serving.table new (record (caller_history p w) { fetched = sent_at w.world A ++ x ∷ [] })
    → IsCalling p (record e { endpoint = endpoint; caller = new }) (sends_next w A x)
calling_sends p e w x endpoint new g holds h is full stands session =
    let a = g.answering.network.items.send w.world A x (not_refused g.answering.ends w.world.a x (next_piece p w A x g holds is) full) in
    let v : World = sends w.world A x in
    let here : caller.CallerStandsFor p.serving.table new (record (caller_history p w) { fetched = sent_at v A }) =
    subst (λ (l : List Item). caller.CallerStandsFor p.serving.table new (record (caller_history p w) { fetched = l })) (sym a.here) session in
    record {
      stands = stands;
      session = subst (λ (l : List Item). caller.CallerStandsFor p.serving.table new (record { made = calls_made p w; fed = l; fetched = sent_at v A; handed = take w.listed (answers p.serving.table (calls_made p w) l) })) (sym (a.handed A)) here;
      made = h.made;
      seen = h.seen ∙ ap (λ (l : List Item). take w.listed (answers p.serving.table (calls_made p w) l)) (sym (a.handed A));
    }

-- ---- an item is fed

pub waits : EndLaws → (s : State) (o : Option Item) → o ≡ take_answer s → nat_lt 0 (waiting_count s) ≡ is_some o
waits laws s o is = laws.hands_up.waits s ∙ ap is_some (sym is)

pub calling_none : {S : Type 0} (p : Parties S) (e : CallingEnd) (w : CallWorld) (endpoint : Held) → PartiesLaws p → IsCalling p e w → None ≡ take_answer w.world.a → StandsFor endpoint (after_take w.world.a)
    → (false ≡ nat_lt 0 (waiting_count w.world.a)) × IsCalling p (record e { endpoint = endpoint }) w
calling_none p e w endpoint g h is stands =
    (sym (waits g.answering.ends w.world.a None is), record { stands = subst (λ (s : State). StandsFor endpoint s) (g.answering.ends.hands_up.none w.world.a (sym is)) stands; session = h.session; made = h.made; seen = h.seen })

pub calling_feeds : {S : Type 0} (p : Parties S) (e : CallingEnd) (w : CallWorld) (x : Item) (endpoint : Held) (new : caller.CallerState) → PartiesLaws p → CallsHold p w → IsCalling p e w → Some x ≡ take_answer w.world.a
    → StandsFor endpoint (after_take w.world.a)
    → caller.CallerStandsFor p.serving.table new (caller.caller_with_item (caller_history p w) x)
    → (true ≡ nat_lt 0 (waiting_count w.world.a)) × IsCalling p (record e { endpoint = endpoint; caller = new }) (feeds_session w A)
calling_feeds p e w x endpoint new g holds h is stands session =
    let u = g.answering.network.items.take w.world A x holds.holds (sym is) in
    let v : World = takes w.world A in
    let same : seen_at p (feeds_session w A) ≡ seen_at p w = front_stays w.listed (outcomes_read p w) (outcomes_read p (feeds_session w A)) (read_more p w A x g u) holds.listed in
    let fed : caller.CallerStandsFor p.serving.table new (record (caller_history p w) { fed = handed_at v A }) =
    subst (λ (l : List Item). caller.CallerStandsFor p.serving.table new (record (caller_history p w) { fed = l })) (sym u.here) session in
    let put : caller.CallerStandsFor p.serving.table new (record (caller_history p w) { fed = handed_at v A; fetched = sent_at v A }) =
    subst (λ (l : List Item). caller.CallerStandsFor p.serving.table new (record (caller_history p w) { fed = handed_at v A; fetched = l })) (sym (u.accepted A)) fed in (
      sym (waits g.answering.ends w.world.a (Some x) is),
      record {
        stands = stands;
        session = subst (λ (l : List SeenModel). caller.CallerStandsFor p.serving.table new (record { made = calls_made p w; fed = handed_at v A; fetched = sent_at v A; handed = l })) (sym same) put;
        made = h.made;
        seen = h.seen ∙ sym same;
      },
    )

-- ---- a call is made

-- where no outcome is there, all that were read are listed
all_seen : {S : Type 0} (p : Parties S) (e : CallingEnd) (w : CallWorld) → CallsHold p w → IsCalling p e w → has_outcome p w ≡ false → length (outcomes_read p w) ≡ length e.seen.items
all_seen p e w holds h none =
    let most = ltb-false w.listed (length (outcomes_read p w)) none in
    omega (arith, most, holds.listed, ap (length {A = SeenModel}) h.seen, length-map e.seen.items seen_model, length-take-le w.listed (outcomes_read p w) holds.listed)

pub not_answered : {S : Type 0} (p : Parties S) (e : CallingEnd) (w : CallWorld) → CallsHold p w → IsCalling p e w → has_outcome p w ≡ false → (length e.seen.items ≡ e.made → ⊥) → may_call p w ≡ false
not_answered p e w holds h none apart =
    let n : ℕ = length (outcomes_read p w) in
    ap (λ (b : Bool). b && nat_lt w.made (length p.calls)) (ne_eqb n w.made (λ i. apart (omega (arith, i, all_seen p e w holds h none, h.made))))

pub none_remain : {S : Type 0} (p : Parties S) (e : CallingEnd) (w : CallWorld) (cs : List Call) → IsCalling p e w → p.calls ≡ map raw_call cs → length cs ≤ e.made → may_call p w ≡ false
none_remain p e w cs h is most =
    and_right (length (outcomes_read p w) == w.made) (nat_lt w.made (length p.calls))
    (le-ltb w.made (length p.calls) (omega (arith, most, h.made, ap (length {A = RawCall}) is, length-map cs raw_call)))

pub calling_makes : {S : Type 0} (p : Parties S) (e f : CallingEnd) (w : CallWorld) (cs : List Call) (call : Call) → PartiesLaws p → CallsHold p w → IsCalling p e w → p.calls ≡ map raw_call cs → has_outcome p w ≡ false
    → length e.seen.items ≡ e.made → e.made < length cs → slice_get cs e.made ≡ Some call
    → f.endpoint ≡ e.endpoint → f.made ≡ e.made + 1 → f.seen ≡ e.seen
    → caller.CallerStandsFor p.serving.table f.caller (record (caller_history p w) { made = calls_made p w ++ raw_call call ∷ [] })
    → (true ≡ may_call p w) × IsCalling p f (makes w)
calling_makes p e f w cs call g holds h are none all less there endpoint made seen session =
    let n : ℕ = length (outcomes_read p w) in
    let may : may_call p w ≡ true =
    ap (λ (b : Bool). b && nat_lt w.made (length p.calls)) (eq-eqb n w.made (omega (arith, all_seen p e w holds h none, all, h.made)))
    ∙ (lt-ltb w.made (length p.calls) (omega (arith, less, h.made, ap (length {A = RawCall}) are, length-map cs raw_call))) in
    let c = calls p w g holds may in
    let at : slice_get p.calls w.made ≡ Some (raw_call call) = ap (λ (k : ℕ). slice_get p.calls k) (sym h.made) ∙ (ap (λ (l : List RawCall). slice_get l e.made) are ∙ (slice_get-map raw_call cs e.made ∙ ap (option_map raw_call) there)) in
    let more : calls_made p (makes w) ≡ calls_made p w ++ raw_call call ∷ [] = one_more p.calls w.made (raw_call call) at in
    let same : seen_at p (makes w) ≡ seen_at p w = ap (take w.listed) c.same in
    let made_now : caller.CallerStandsFor p.serving.table f.caller (record (caller_history p w) { made = calls_made p (makes w) }) =
    subst (λ (l : List RawCall). caller.CallerStandsFor p.serving.table f.caller (record (caller_history p w) { made = l })) (sym more) session in (
      sym may,
      record {
        stands = subst (λ (v : Held). StandsFor v w.world.a) (sym endpoint) h.stands;
        session = subst (λ (l : List SeenModel). caller.CallerStandsFor p.serving.table f.caller (record (caller_history p w) { made = calls_made p (makes w); handed = l })) (sym same) made_now;
        made = omega (arith, made, h.made);
        seen = ap (λ (l : List Seen). map seen_model l) (ap (λ v. v.items) seen) ∙ (h.seen ∙ sym same);
      },
    )

-- ---- the step that applies

fed_or_not : {S : Type 0} (p : Parties S) (w : CallWorld) (b c : Bool) (P : CallWorld → Type 0) → Stepped b w (if c then Some (feeds_session w A) else caller_step p w A) P → Stepped b w (or_caller p w A (if c then Some (after_take w.world.a) else None)) P
fed_or_not p w b true P h = h
fed_or_not p w b false P h = h

pub stepped_if : {X : Type 0} (x y : X) (o : Option X) (b c : Bool) (P : X → Type 0) → b ≡ true → (b ≡ c) × P (if b then y else x) → Stepped true x (if c then Some y else o) P
stepped_if {X} x y o b c P is h = subst (λ (d : Bool). Stepped true x (if d then Some y else o) P) (sym is ∙ h.0) (subst (λ (d : Bool). P (if d then y else x)) is h.1)

pub stepped_none : {S : Type 0} (p : Parties S) (w : CallWorld) (b : Bool) (P : CallWorld → Type 0) → next_out p w A ≡ None
    → Stepped b w (if nat_lt 0 (waiting_count w.world.a) then Some (feeds_session w A) else caller_step p w A) P → Stepped b w (step p A w) P
stepped_none p w b P is h = subst (λ (o : Option Item). Stepped b w (step_with p w A o) P) (sym is) (fed_or_not p w b (nat_lt 0 (waiting_count w.world.a)) P h)

pub stepped_full : {S : Type 0} (p : Parties S) (w : CallWorld) (x : Item) (b : Bool) (P : CallWorld → Type 0) → next_out p w A ≡ Some x → is_full w.world.a ≡ true → Stepped b w (caller_step p w A) P → Stepped b w (step p A w) P
stepped_full p w x b P is full h =
    subst (λ (o : Option Item). Stepped b w (step_with p w A o) P) (sym is)
    (subst (λ (f : Bool). Stepped b w (or_caller p w A (if f then None else Some (after_send w.world.a x))) P) (sym full) h)

pub stepped_send : {S : Type 0} (p : Parties S) (w : CallWorld) (x : Item) (P : CallWorld → Type 0) → next_out p w A ≡ Some x → is_full w.world.a ≡ false → P (sends_next w A x) → Stepped true w (step p A w) P
stepped_send p w x P is full h =
    subst (λ (o : Option Item). Stepped true w (step_with p w A o) P) (sym is)
    (subst (λ (f : Bool). Stepped true w (or_caller p w A (if f then None else Some (after_send w.world.a x))) P) (sym full) h)

pub something_out : (out : List Item) → out ≢ [] → (x : Item) × (slice_get out 0 ≡ Some x)
something_out [] h = absurd (h refl)
something_out (x ∷ out) h = (x, refl)
