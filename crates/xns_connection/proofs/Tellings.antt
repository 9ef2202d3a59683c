-- What steps do to what a connection has done.
use Rattle.std.proofs.Common.{◌≡◌, ◌∙◌, ap, sym, refl, subst, ℕ, ◌≤◌, List, [], ◌∷◌, ◌++◌, append-nil, take, drop, map, ◌-◌, length, Bool, true, false, Option, Some, None, Result, Ok, Err, IfErr, OnOk, arith}
use Rattle.std.specs.Prelude.{not, ◌&&◌, ◌||◌, ◌==◌, if◌then◌else◌}
use Rattle.std.proofs.Math.Bool.{or-false, or-true}
use Rattle.std.proofs.lemmas.Bool.{eqb-true, or_parts}
use Rattle.std.proofs.lemmas.List.{drop-append-le, take-append-le}
use Rattle.std.proofs.lemmas.List.Folds.{list_any-append}
use Rattle.courier_sessions.specs.declared.program.Program.{Program}
use Rattle.xns_spp.specs.Fronts.{begins_length, begins_then}
use Rattle.xns_spp.specs.Growth.{Begins}
use Rattle.xns_spp.specs.Ends.{is_open}
use Rattle.xns_spp.specs.Held.{Held, StandsFor}
use Rattle.xns_spp.specs.Outgoing.{data_packets_at}
use Rattle.xns_spp.specs.Packet.{spp_packet_spelling}
use Rattle.xns_spp.specs.Laws.{TheNextItemIsHandedUp}
use Rattle.xns_spp.specs.Sending.{take_answer, after_take, flush_answer, after_flush}
use Rattle.xns_spp.specs.State.{State, numbers_of, send_limit}
use Rattle.xns_spp.specs.declared.item.Item.{Item}
use Rattle.xns_connection.specs.Story.{Story, SideHas, Runs, start, is_called, is_stopped, new_story}
use Rattle.xns_spp.specs.Datastreams.{end_reply_stream, end_stream}
use Rattle.xns_connection.specs.Closing.{drains, closing_items, put_if, after_end_words, asks_end, replies_end, Knows}
use Rattle.xns_connection.specs.Telling.{EndsLast, Tells, Goes, Rested, owes_end}
use Rattle.xns_connection.specs.declared.closing.Closing.{Closing}
use Rattle.xns_connection.specs.declared.closing.TheConstants.Closing.{NONE}
use Rattle.xns_connection.specs.declared.side.Side.{Side}
use Rattle.xns_connection.specs.declared.side.Side.TheVariants.{Calls, Answers}
use Rattle.xns_connection.specs.declared.conversation.Conversation.{Conversation}
use Rattle.xns_connection.proofs.Leading.{same_messages, goes_on}

-- ---- the end moves, and the side stays

pub has_at : (s : State) (h : Story) (side : Side) → SideHas h side → SideHas (record h { state = s }) side
has_at s h (Calls t) c = record { phase = c.phase; done = c.done; going = c.going; table = c.table }
has_at s h (Answers a) c = record { phase = c.phase; done = c.done; going = c.going; table = c.table; rejected = c.rejected }

-- what an end's step does for a side that stays
pub record Carries (t u : Conversation) (s v : State) : Type 0 where
  pub stands : StandsFor u.endpoint v
  pub fed : Begins (take s.handed s.taken) (take v.handed v.taken)
  pub all : drains u.side u.closing ≡ false → take v.handed v.taken ≡ take s.handed s.taken
  pub given : (g : List Item) → g ++ closing_items t.closing ≡ s.accepted → g ++ closing_items u.closing ≡ v.accepted
  pub last : EndsLast t.side t.closing → EndsLast u.side u.closing
  pub knows : (fed : List Item) → Begins fed (take s.handed s.taken) → Knows t.closing (drop (length fed) (take s.handed s.taken))
      → Knows u.closing (drop (length fed) (take v.handed v.taken))

-- what is known of the one is known of the other
abbrev pub KnowsToo : (e f : Closing) → Type 0
KnowsToo e f = (items : List Item) → Knows e items → Knows f items

pub knows_same : (e f : Closing) → f ≡ e → KnowsToo e f
knows_same e f same items k = subst (λ (g : Closing). Knows g items) (sym same) k

-- the items that were handed up are the same
pub knows_still : (e f : Closing) (s v : State) → KnowsToo e f → take v.handed v.taken ≡ take s.handed s.taken → (fed : List Item)
    → Knows e (drop (length fed) (take s.handed s.taken)) → Knows f (drop (length fed) (take v.handed v.taken))
knows_still e f s v too front fed k = subst (λ (xs : List Item). Knows f (drop (length fed) xs)) (sym front) (too (drop (length fed) (take s.handed s.taken)) k)

pub carried : (t u : Conversation) (h : Story) (v : State) → u.side ≡ t.side → (drains u.side u.closing ≡ false → drains t.side t.closing ≡ false) → Carries t u h.state v → Tells t h → Tells u (record h { state = v })
carried t u h v same drain c tells = record {
  stands = c.stands;
  has = subst (λ (x : Side). SideHas (record h { state = v }) x) (sym same) (has_at v h t.side tells.has);
  fed = begins_then h.fed (take h.state.handed h.state.taken) (take v.handed v.taken) tells.fed c.fed;
  all = λ z. tells.all (drain z) ∙ sym (c.all z);
  given = c.given h.given tells.given;
  last = c.last tells.last;
  knows = c.knows h.fed tells.fed tells.knows;
}

-- what was wanted is wanted, where the closing stays but for what was put out
pub still_wanted : {f g : Closing} → f ≡ g → g.wanted ≡ true → f.wanted ≡ true
still_wanted same z = ap (λ (x : Closing). x.wanted) same ∙ z

pub goes_by : (t u : Conversation) → u.side ≡ t.side → (drains u.side u.closing ≡ false → drains t.side t.closing ≡ false) → (t.closing.wanted ≡ true → u.closing.wanted ≡ true)
    → ((s : State) → StandsFor t.endpoint s → (v : State) × Carries t u s v × Runs s v) → Goes t u
goes_by t u same drain wanted step = record {
  still = drain;
  wanted = wanted;
  on = λ h tells. let k = step h.state tells.stands in
      (record h { state = k.0 }, carried t u h k.0 same drain k.1 tells, same_messages h (record h { state = k.0 }) k.2 refl refl refl refl refl);
}

-- ---- an item is taken

pub after_taken : TheNextItemIsHandedUp → (s : State) (o : Option Item) → take_answer s ≡ o → ((after_take s).accepted ≡ s.accepted) × Begins (take s.handed s.taken) (take (after_take s).handed (after_take s).taken)
after_taken next s None is = let e = next.none s is in (ap (λ (v : State). v.accepted) e, subst (λ (v : State). Begins (take s.handed s.taken) (take v.handed v.taken)) (sym e) ([], append-nil (take s.handed s.taken)))
after_taken next s (Some x) is = let e = next.some s x is in
    (ap (λ (v : State). v.accepted) e, subst (λ (v : State). Begins (take s.handed s.taken) (take v.handed v.taken)) (sym e) (x ∷ [], sym (next.more s x is)))

-- what is known after an item was taken, if one was
abbrev pub NotesNext : Option Item → (e f : Closing) → Type 0
NotesNext None e f = f ≡ e
NotesNext (Some x) e f = f ≡ after_end_words e x.stream

record IsNoted (e f : Closing) (a b : Bool) : Type 0 where
  pub wanted : f.reply_wanted ≡ (e.reply_wanted || (a || b))
  pub heard : f.reply_heard ≡ (e.reply_heard || b)

-- one stream is not both
is_noted : (e : Closing) (a b : Bool) → (a ≡ true → b ≡ false) → IsNoted e (if a then record e { reply_wanted = true } else if b then record e { reply_wanted = true; reply_heard = true } else e) a b
is_noted e true true one = let z = one refl in absurd (cc)
is_noted e true false one = record { wanted = sym (or-true e.reply_wanted); heard = sym (or-false e.reply_heard) }
is_noted e false true one = record { wanted = sym (or-true e.reply_wanted); heard = sym (or-true e.reply_heard) }
is_noted e false false one = record { wanted = sym (or-false e.reply_wanted); heard = sym (or-false e.reply_heard) }

not_both : (n : ℕ) → (n == end_stream) ≡ true → (n == end_reply_stream) ≡ false
not_both n is = ap (λ (k : ℕ). k == end_reply_stream) (eqb-true n end_stream is)

pub knows_more : (e : Closing) (items : List Item) (x : Item) → Knows e items → Knows (after_end_words e x.stream) (items ++ x ∷ [])
knows_more e items x k =
    let a : Bool = x.stream == end_stream in
    let b : Bool = x.stream == end_reply_stream in
    let n = is_noted e a b (not_both x.stream) in
    record {
      wanted = n.wanted ∙ ap (λ (c : Bool). c || (a || b)) k.wanted ∙ ap (λ (c : Bool). asks_end items || c) (sym (or-false (a || b))) ∙ sym (list_any-append _ items (x ∷ []));
      heard = n.heard ∙ ap (λ (c : Bool). c || b) k.heard ∙ ap (λ (c : Bool). replies_end items || c) (sym (or-false b)) ∙ sym (list_any-append _ items (x ∷ []));
    }

pub knows_taken : TheNextItemIsHandedUp → (s : State) (o : Option Item) (e f : Closing) → take_answer s ≡ o → NotesNext o e f → (fed : List Item) → Begins fed (take s.handed s.taken) → Knows e (drop (length fed) (take s.handed s.taken))
    → Knows f (drop (length fed) (take (after_take s).handed (after_take s).taken))
knows_taken next s None e f is notes fed begins k = subst (λ (v : State). Knows f (drop (length fed) (take v.handed v.taken))) (sym (next.none s is)) (knows_same e f notes (drop (length fed) (take s.handed s.taken)) k)
knows_taken next s (Some x) e f is notes fed begins k =
    let xs : List Item = take s.handed s.taken in
    let few = begins_length fed xs begins in
    let more : Knows f (drop (length fed) xs ++ x ∷ []) = subst (λ (g : Closing). Knows g (drop (length fed) xs ++ x ∷ [])) (sym notes) (knows_more e (drop (length fed) xs) x k) in
    let there : Knows f (drop (length fed) (xs ++ x ∷ [])) = subst (Knows f) (sym (drop-append-le (length fed) xs (x ∷ []) few)) more in
    subst (λ (v : State). Knows f (drop (length fed) (take v.handed v.taken))) (sym (next.some s x is)) (subst (λ (ys : List Item). Knows f (drop (length fed) ys)) (sym (next.more s x is)) there)

-- ---- an end's step with the same items

same_said : (t u : Conversation) (s v : State) → (EndsLast t.side t.closing → EndsLast u.side u.closing) → closing_items u.closing ≡ closing_items t.closing → KnowsToo t.closing u.closing → v.accepted ≡ s.accepted → v.handed ≡ s.handed → v.taken ≡ s.taken → StandsFor u.endpoint v → Carries t u s v
same_said t u s v last closing too accepted handed taken stands =
    let front : take v.handed v.taken ≡ take s.handed s.taken = ap (λ (n : ℕ). take n v.taken) handed ∙ ap (λ (xs : List Item). take s.handed xs) taken in
    record {
      stands = stands;
      fed = ([], append-nil (take s.handed s.taken) ∙ sym front);
      all = λ z. front;
      given = λ g e. ap (λ (xs : List Item). g ++ xs) closing ∙ e ∙ sym accepted;
      last = last;
      knows = λ fed begins k. knows_still t.closing u.closing s v too front fed k;
    }

pub same_last : (side other : Side) (e f : Closing) → other ≡ side → f ≡ e → EndsLast side e → EndsLast other f
same_last side other e f same closing last = subst (λ (g : Closing). EndsLast other g) (sym closing) (subst (λ (x : Side). EndsLast x e) (sym same) last)

pub same_items : (t u : Conversation) (s v : State) → u.side ≡ t.side → u.closing ≡ t.closing → v.accepted ≡ s.accepted → v.handed ≡ s.handed → v.taken ≡ s.taken → StandsFor u.endpoint v → Carries t u s v
same_items t u s v same closing = same_said t u s v (same_last t.side u.side t.closing u.closing same closing) (ap closing_items closing) (knows_same t.closing u.closing closing)

-- ---- a packet comes

pub same_front : (n : ℕ) (xs ys : List Item) → n ≤ length xs → Begins xs ys → take n ys ≡ take n xs
same_front n xs ys le p = ap (λ (zs : List Item). take n zs) (sym p.1) ∙ take-append-le n xs p.0 le

-- ---- items move

-- what a connection is that reads on
pub record ReadsOn (side : Side) (e : Closing) : Type 0 where
  pub going : is_stopped side ≡ false
  pub end : (e.end_sent && is_called side) ≡ false
  pub reply : e.reply_sent ≡ false
  pub heard : e.deaf ≡ false

pub reads_on : (side : Side) (e : Closing) → drains side e ≡ false → ReadsOn side e
reads_on side e d = by (is_stopped side) (e.end_sent && is_called side) e.reply_sent e.deaf refl refl refl refl d where
  by : (a b c f : Bool) → is_stopped side ≡ a → (e.end_sent && is_called side) ≡ b → e.reply_sent ≡ c → e.deaf ≡ f → (a || (b || (c || f))) ≡ false
      → ReadsOn side e
  by true b c f p q r s z = absurd (cc)
  by false true c f p q r s z = absurd (cc)
  by false false true f p q r s z = absurd (cc)
  by false false false true p q r s z = absurd (cc)
  by false false false false p q r s z = record { going = p; end = q; reply = r; heard = s }

-- what was read is read on by another side that has not stopped
pub reads_by : (side other : Side) (e : Closing) → is_called other ≡ is_called side → drains side e ≡ false → is_stopped other ≡ false → drains other e ≡ false
reads_by side other e called d still =
    let rest : Bool = (e.end_sent && is_called side) || (e.reply_sent || e.deaf) in
    ap (λ (b : Bool). b || ((e.end_sent && is_called other) || (e.reply_sent || e.deaf))) still
    ∙ ap (λ (b : Bool). (e.end_sent && b) || (e.reply_sent || e.deaf)) called ∙ (or_parts (is_stopped side) rest d).1

pub unsaid : (a b : Bool) → put_if a end_stream ++ put_if b end_reply_stream ≡ [] → (a ≡ false) × (b ≡ false)
unsaid true b z = absurd (cc)
unsaid false true z = absurd (cc)
unsaid false false z = (refl, refl)

-- ---- flags that say nothing of what was put out

pub same_closing : (e f : Closing) → f.end_sent ≡ e.end_sent → f.reply_sent ≡ e.reply_sent → closing_items f ≡ closing_items e
same_closing e f end reply =
    ap (λ (x : Bool). put_if x end_stream ++ put_if f.reply_sent end_reply_stream) end
    ∙ ap (λ (x : Bool). put_if e.end_sent end_stream ++ put_if x end_reply_stream) reply

pub same_drains : (s : Side) (e f : Closing) → f.end_sent ≡ e.end_sent → f.reply_sent ≡ e.reply_sent → f.deaf ≡ e.deaf → drains s f ≡ drains s e
same_drains s e f end reply deaf =
    ap (λ (x : Bool). is_stopped s || ((x && is_called s) || (f.reply_sent || f.deaf))) end
    ∙ ap (λ (x : Bool). is_stopped s || ((e.end_sent && is_called s) || (x || f.deaf))) reply
    ∙ ap (λ (x : Bool). is_stopped s || ((e.end_sent && is_called s) || (e.reply_sent || x))) deaf

-- what was put out, and whether it is deaf, does not depend on what came
pub record Beside (e f : Closing) : Type 0 where
  pub end : f.end_sent ≡ e.end_sent
  pub reply : f.reply_sent ≡ e.reply_sent
  pub deaf : f.deaf ≡ e.deaf
  pub wanted : f.wanted ≡ e.wanted

beside_by : (e : Closing) (a b : Bool) → Beside e (if a then record e { reply_wanted = true } else if b then record e { reply_wanted = true; reply_heard = true } else e)
beside_by e true b = record { end = refl; reply = refl; deaf = refl; wanted = refl }
beside_by e false true = record { end = refl; reply = refl; deaf = refl; wanted = refl }
beside_by e false false = record { end = refl; reply = refl; deaf = refl; wanted = refl }

pub beside : (e f : Closing) (stream : ℕ) → f ≡ after_end_words e stream → Beside e f
beside e f stream is = subst (λ (g : Closing). Beside e g) (sym is) (beside_by e _ _)

-- ---- packets out

-- a conversation is told as before where its end, its side and what was put out are as they were
pub marks : (t u : Conversation) → u.side ≡ t.side → (EndsLast t.side t.closing → EndsLast u.side u.closing) → closing_items u.closing ≡ closing_items t.closing → KnowsToo t.closing u.closing → (drains u.side u.closing ≡ false → drains t.side t.closing ≡ false) → (t.closing.wanted ≡ true → u.closing.wanted ≡ true) → u.endpoint ≡ t.endpoint → Goes t u
marks t u same last closing too still wanted stay = goes_by t u same still wanted (λ s stands.
    (s, same_said t u s s last closing too refl refl refl (subst (λ (e : Held). StandsFor e s) (sym stay) stands), start))

pub on_ok : {X Y : Type 0} (P Q : Type 0) (r : Result X Y) → (P → Q) → OnOk r P → OnOk r Q
on_ok P Q (Ok x) f h = f h
on_ok P Q (Err e) f h = h

pub if_err : {X E : Type 0} (P Q : E → Type 0) (r : Result X E) → ((e : E) → P e → Q e) → IfErr r P → IfErr r Q
if_err P Q (Ok x) f h = h
if_err P Q (Err e) f h = f e h

-- ---- why something is put out

pub undrained : (t : Conversation) → owes_end t ≡ true → drains t.side t.closing ≡ false
undrained t owes = by t.closing.wanted (drains t.side t.closing) _ owes where
  by : (a b c : Bool) → (a && (not b && c)) ≡ true → b ≡ false
  by true true c e = absurd (cc)
  by true false c e = refl
  by false b c e = absurd (cc)

-- ---- a message is handed

pub record Kept (h m : Story) : Type 0 where
  pub state : m.state ≡ h.state
  pub fed : m.fed ≡ h.fed
  pub given : m.given ≡ h.given

-- ---- nothing is left to go out for the first time

pub flushed_out : (s : State) → flush_answer (after_flush s) ≡ []
flushed_out s = by (is_open s.ends) refl where
  none : (n : ℕ) (xs : List Item) → take (n - n) xs ≡ []
  none n xs = let z : n - n ≡ 0 = omega arith in ap (λ (k : ℕ). take k xs) z

  by : (b : Bool) → is_open s.ends ≡ b → flush_answer (if b then record s { sent = send_limit s } else s) ≡ []
  by true e = rw e (ap (λ (xs : List Item). map spp_packet_spelling (data_packets_at s.ends (numbers_of (record s { sent = send_limit s })) (send_limit s) xs)) (none (send_limit s) (drop (send_limit s) s.accepted)))
  by false e = rw e refl

pub rested_then : {s t u : Conversation} → Goes s t → Rested t u → Rested s u
rested_then p q = record { on = λ h f. let x = p.on h f in let y = q.on x.0 x.1 in (y.0, y.1, goes_on h x.0 y.0 x.2 y.2, y.3) }

pub deafened : (a b c : Bool) → (a || (b || (c || true))) ≡ false → ⊥
deafened true b c z = cc
deafened false true c z = cc
deafened false false true z = cc
deafened false false false z = cc

-- ---- a new connection

pub new_tells : (t : Conversation) (programs : Option (List Program)) (s : State) (e : Held) (side : Side) → t.endpoint ≡ e → t.side ≡ side → t.closing ≡ NONE → StandsFor e s → SideHas (new_story programs s) side → take s.handed s.taken ≡ [] → s.accepted ≡ []
    → Tells t (new_story programs s)
new_tells t programs s e side endpoint same closing stands has none empty = record {
  stands = subst (λ (f : Held). StandsFor f s) (sym endpoint) stands;
  has = subst (λ (x : Side). SideHas (new_story programs s) x) (sym same) has;
  fed = (take s.handed s.taken, refl);
  all = λ z. sym none;
  given = ap closing_items closing ∙ sym empty;
  last = λ sent. absurd (let never = sym (ap (λ (c : Closing). c.end_sent) closing) ∙ sent in cc);
  knows = knows_same NONE t.closing closing (take s.handed s.taken) (subst (Knows NONE) (sym none) (record { wanted = refl; heard = refl }));
}
