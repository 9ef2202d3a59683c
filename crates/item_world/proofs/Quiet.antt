-- What the steps of an end, and of a world, do to the items accepted and handed up.
use Rattle.std.proofs.Common.{◌≡◌, ℕ, ◌+◌, ◌≤◌, true, false, List, [], ◌∷◌, ◌++◌, length, take, Some, None, Result, Ok, Err, refl, sym, ◌∙◌, ap, subst, arith, length-append, zero, suc, Bool, Option}
use Rattle.std.proofs.lemmas.List.{take-append-le}
use Rattle.std.specs.Prelude.{is_ok, OnOk, All}
use Rattle.xns_spp.specs.Growth.{Stays, HearsNothing, Begins}
use Rattle.xns_spp.specs.Held.{Held, StandsFor}
use Rattle.xns_spp.specs.Receiving.{receive_answer, after_receive}
use Rattle.xns_spp.specs.Sending.{send_answer, after_send, take_answer, after_take, after_flush, after_tick, flush_answer, tick_answer}
use Rattle.xns_spp.specs.State.{State}
use Rattle.xns_spp.specs.Telling.{after_resend, told_answer, resend_answer}
use Rattle.xns_spp.specs.declared.item.Item.{Item}
use Rattle.xns_spp.specs.declared.send_fault.SendFault.{SendFault}
use Rattle.item_world.specs.EndLaws.{EndLaws}
use Rattle.item_world.specs.Later.{Continues}
use Rattle.item_world.specs.declared.participant.Participant.{Participant}
use Rattle.xns_spp.specs.Fronts.{begins_itself, last_of}
use Rattle.item_world.proofs.Fronts.{begins_same}
use Rattle.item_world.specs.Play.{IsParticipant}
use Rattle.std.specs.Option.{option_to_list}
use Rattle.std.proofs.lemmas.List.Elements.{All-head, All-tail}
use Rattle.item_world.proofs.Sides.{same_end, same_other, same_marked, each_end, has_landed, noise_changes_nothing}
use Rattle.item_world.specs.Channel.{IsQuiet, Accepts, HandsUp, Move, quiet, accepts, hands_up, IsHistory}
use Rattle.item_world.specs.Events.{SmallStep, IsStep, IsOther, arrival, noise, sending, taking, flushing, ticking, resending, telling, stepped, all_stepped}
use Rattle.item_world.specs.Invariant.{Holds}
use Rattle.item_world.specs.Landing.{with_arrival, landing, world_reached}
use Rattle.item_world.specs.Laws.{EachStepKeepsTheOrder}
use Rattle.item_world.specs.Setup.{IsSetup, IsGood}
use Rattle.item_world.specs.Side.{other}
use Rattle.item_world.specs.World.{World, start, end_at, moved, sends, takes, marked_delivered, sent_at, handed_at, channel_of}
use Rattle.item_world.specs.declared.emitted.Emitted.{Emitted}
use Rattle.item_world.specs.declared.setup.Setup.{Setup}
use Rattle.item_world.specs.declared.side.Side.{Side}
use Rattle.item_world.specs.declared.side.Side.TheVariants.{A, B}

pub continues_itself : (s : State) → Continues s s
continues_itself s = record { accepted = refl; handed = refl; taken = begins_itself s.taken }

hearing_nothing : (s t : State) → Stays s t → HearsNothing s t → Continues s t
hearing_nothing s t stays hears = record { accepted = stays.accepted; handed = stays.handed; taken = begins_same s.taken t.taken hears.taken }

pub flush_continues : EndLaws → (s : State) → Continues s (after_flush s)
flush_continues laws s = hearing_nothing s (after_flush s) (laws.stays.flush s) (laws.hears.flush s)

pub tick_continues : EndLaws → (s : State) → Continues s (after_tick s)
tick_continues laws s = hearing_nothing s (after_tick s) (laws.stays.tick s) (laws.hears.tick s)

pub resend_continues : EndLaws → (s : State) → Continues s (after_resend s)
resend_continues laws s = hearing_nothing s (after_resend s) (laws.stays.resend s) (laws.hears.resend s)

pub receive_continues : EndLaws → (s : State) (b : List ℕ) → Continues s (after_receive s b)
receive_continues laws s b =
    let stays = laws.stays.receive s b in
    record { accepted = stays.accepted; handed = stays.handed; taken = (laws.grows.receive s b).taken }

-- what an end took from a packet
pub receive_took : EndLaws → (s : State) (b : List ℕ) → length s.taken + (receive_answer s b).took ≡ length (after_receive s b).taken
receive_took laws s b = let t = laws.comes_in.taken s b in omega (arith, t.count, ap length t.taken, length-append s.taken t.items)

-- the items that are handed up stay
pub handed_same : (s t : State) → Continues s t → s.handed ≤ length s.taken → take t.handed t.taken ≡ take s.handed s.taken
handed_same s t c h = ap (λ (n : ℕ). take n t.taken) c.handed ∙ (ap (take s.handed) (sym c.taken.1) ∙ take-append-le s.handed s.taken c.taken.0 h)

-- a participant whose end alone went on
pub went_on : (p : Participant) (s t : State) (e : Held) → IsParticipant p s → Continues s t → StandsFor e t → IsParticipant (record p { endpoint = e }) t
went_on p s t e h c stands =
    record { stands = stands; sent = h.sent ∙ sym c.accepted; handed = h.handed ∙ sym (handed_same s t c h.stands.fits.bounds.handed_taken) }

-- an item that is refused leaves the end as it was
pub refused_continues : EndLaws → (s : State) (x y : Item) (r : Result (Unit {0}) (SendFault × Item)) → r ≡ send_answer s y → y ≡ x → is_ok r ≡ false → Continues s (after_send s x)
refused_continues laws s x y r answer is h =
    let here : is_ok (send_answer s y) ≡ false = ap is_ok (sym answer) ∙ h in
    subst (λ (z : Item). Continues s (after_send s z)) is (subst (λ (t : State). Continues s t) (sym (laws.accepts.refused s y here)) (continues_itself s))

-- a participant whose end accepted an item
pub accepted_it : EndLaws → (p : Participant) (s : State) (x y z : Item) (r : Result (Unit {0}) (SendFault × Item)) (e : Held) (sent : List Item) → IsParticipant p s → r ≡ send_answer s y → y ≡ x → z ≡ x → is_ok r ≡ true → StandsFor e (after_send s y)
    → sent ≡ p.sent ++ z ∷ [] → IsParticipant (record p { endpoint = e; sent = sent }) (after_send s x)
accepted_it laws p s x y z r e sent h answer is same ok stands more =
    let here : is_ok (send_answer s x) ≡ true = ap (λ (w : Item). is_ok (send_answer s w)) (sym is) ∙ (ap is_ok (sym answer) ∙ ok) in
    let after = laws.accepts.accepted s x here in
    let q : Participant = record p { endpoint = e; sent = sent } in
    let there : IsParticipant q (record s { accepted = s.accepted ++ x ∷ [] }) = record {
      stands = subst (λ (t : State). StandsFor e t) after (subst (λ (w : Item). StandsFor e (after_send s w)) is stands);
      sent = more ∙ (ap (λ (w : Item). p.sent ++ w ∷ []) same ∙ ap (λ (l : List Item). l ++ x ∷ []) h.sent);
      handed = h.handed;
    } in
    subst (λ (t : State). IsParticipant q t) (sym after) there

-- a participant that handed up an item
pub took_one : EndLaws → (p : Participant) (s : State) (x : Item) (e : Held) (handed : List Item) → IsParticipant p s → Some x ≡ take_answer s → StandsFor e (after_take s) → handed ≡ p.handed ++ x ∷ []
    → IsParticipant (record p { endpoint = e; handed = handed }) (after_take s)
took_one laws p s x e handed h is stands more =
    let after = laws.hands_up.some s x (sym is) in
    let q : Participant = record p { endpoint = e; handed = handed } in
    let here : IsParticipant q (record s { handed = s.handed + 1 }) = record {
      stands = subst (λ (t : State). StandsFor e t) after stands;
      sent = h.sent;
      handed = more ∙ (ap (λ (l : List Item). l ++ x ∷ []) h.handed ∙ sym (laws.hands_up.more s x (sym is)));
    } in
    subst (λ (t : State). IsParticipant q t) (sym after) here

-- a participant that had none to hand up
pub took_none : EndLaws → (p : Participant) (s : State) (e : Held) → IsParticipant p s → None ≡ take_answer s → StandsFor e (after_take s) → IsParticipant (record p { endpoint = e }) (after_take s)
took_none laws p s e h is stands = went_on p s (after_take s) e h (subst (λ (t : State). Continues s t) (sym (laws.hands_up.none s (sym is))) (continues_itself s)) stands

-- ---- what a call's clauses leave

pub ok_then : {T E : Type 0} {P Q : Type 0} (r : Result T E) → OnOk r P → (P → Q) → OnOk r Q
ok_then (Ok x) h f = f h
ok_then (Err e) h f = h

pub ok_always : {T E P : Type 0} (r : Result T E) → P → OnOk r P
ok_always (Ok x) p = p
ok_always (Err e) p = tt

-- w goes on as v, and no item is accepted or handed up
abbrev Quiet : World → World → Type 0
Quiet w v = IsQuiet (channel_of w) (channel_of v)

-- ---- an end that accepts and hands up nothing

quiet_then : (u v w : World) → Quiet u v → Quiet v w → Quiet u w
quiet_then u v w p q = record { accepted = λ side. q.accepted side ∙ p.accepted side; handed = λ side. q.handed side ∙ p.handed side }

moved_quiet : (w : World) (side : Side) (t : State) (bs : List (List ℕ)) → Continues (end_at w side) t → (end_at w side).handed ≤ length (end_at w side).taken → Quiet w (moved w side t bs)
moved_quiet w side t bs c h = record {
  accepted = λ u. each_end w side t bs (λ v s. s.accepted ≡ sent_at w v) c.accepted u refl;
  handed = λ u. each_end w side t bs (λ v s. take s.handed s.taken ≡ handed_at w v) (handed_same (end_at w side) t c h) u refl;
}

held_quiet : (w : World) (side : Side) (t : State) (bs : List (List ℕ)) → Holds w → Continues (end_at w side) t → Quiet w (moved w side t bs)
held_quiet w side t bs h c = moved_quiet w side t bs c (h.ends side).fits.bounds.handed_taken

marked_quiet : (w : World) (k : ℕ) (x : Emitted) → Quiet w (marked_delivered w k x)
marked_quiet w k x = record {
  accepted = λ side. ap (λ (s : State). s.accepted) (same_marked w k x side);
  handed = λ side. ap (λ (s : State). take s.handed s.taken) (same_marked w k x side);
}

pub land_quiet : EndLaws → (w : World) (k : ℕ) (l : Side × World) → Holds w → landing w k ≡ Some l → Quiet w l.1
land_quiet laws w k l h e =
    let i = has_landed w k l e in
    let x : Emitted = i.packet in
    let side : Side = other x.side in
    let v : World = marked_delivered w k x in
    let within : (end_at v side).handed ≤ length (end_at v side).taken = subst (λ (s : State). s.handed ≤ length s.taken) (sym (same_marked w k x side)) (h.ends side).fits.bounds.handed_taken in
    let on = moved_quiet v side (after_receive (end_at v side) x.bytes) (option_to_list (receive_answer (end_at v side) x.bytes).reply) (receive_continues laws (end_at v side) x.bytes) within in
    subst (λ (m : Side × World). Quiet w m.1) i.leads (quiet_then w v (with_arrival w k x) (marked_quiet w k x) on)

-- ---- the channel at first, and as no step changes it

quiet_itself : (w : World) → Quiet w w
quiet_itself w = record { accepted = λ side. refl; handed = λ side. refl }

reached_quiet : EndLaws → (w : World) (k : ℕ) (o : Option (Side × World)) → landing w k ≡ o → Holds w → Quiet w (world_reached w o)
reached_quiet laws w k None e h = quiet_itself w
reached_quiet laws w k (Some l) e h = land_quiet laws w k l h e

pub other_quiet : EndLaws → (w : World) (s : SmallStep) → IsOther s → Holds w → Quiet w (stepped w s)
other_quiet laws w (arrival k) i h = reached_quiet laws w k (landing w k) refl h
other_quiet laws w (noise side bytes) i h = subst (λ (v : World). Quiet w v) (sym (noise_changes_nothing laws w side bytes)) (quiet_itself w)
other_quiet laws w (sending side x) i h = absurd i
other_quiet laws w (taking side) i h = absurd i
other_quiet laws w (flushing side) i h = held_quiet w side _ (flush_answer (end_at w side)) h (flush_continues laws (end_at w side))
other_quiet laws w (ticking side) i h = held_quiet w side _ (tick_answer (end_at w side)) h (tick_continues laws (end_at w side))
other_quiet laws w (resending side) i h = held_quiet w side _ (option_to_list (resend_answer (end_at w side))) h (resend_continues laws (end_at w side))
other_quiet laws w (telling side asks) i h = held_quiet w side _ (option_to_list (told_answer (end_at w side) asks)) h (continues_itself (end_at w side))

-- ---- an item is accepted, and one is handed up

pub send_accepts : EndLaws → (w : World) (side : Side) (x : Item) → is_ok (send_answer (end_at w side) x) ≡ true → Accepts (channel_of w) (channel_of (sends w side x)) side x
send_accepts laws w side x h =
    let t : State = after_send (end_at w side) x in
    let is = laws.accepts.accepted (end_at w side) x h in
    record {
      here = ap (λ (s : State). s.accepted) (same_end w side t [] ∙ is);
      there = ap (λ (s : State). s.accepted) (same_other w side t []);
      handed = λ u. each_end w side t [] (λ v s. take s.handed s.taken ≡ handed_at w v) (ap (λ (s : State). take s.handed s.taken) is) u refl;
    }

-- what is handed up begins what the other accepted, before and after
pub take_hands_up : EndLaws → EachStepKeepsTheOrder → (w : World) (side : Side) (x : Item) → Holds w → take_answer (end_at w side) ≡ Some x → HandsUp (channel_of w) (channel_of (takes w side)) side x
take_hands_up laws keeps w side x holds h =
    let t : State = after_take (end_at w side) in
    let is = laws.hands_up.some (end_at w side) x h in
    let accepted : (u : Side) → sent_at (takes w side) u ≡ sent_at w u = λ u. each_end w side t [] (λ v s. s.accepted ≡ sent_at w v) (ap (λ (s : State). s.accepted) is) u refl in
    let here : handed_at (takes w side) side ≡ handed_at w side ++ x ∷ [] = ap (λ (s : State). take s.handed s.taken) (same_end w side t [] ∙ is) ∙ laws.hands_up.more (end_at w side) x h in
    let after : Begins (handed_at (takes w side) side) (sent_at (takes w side) (other side)) = keeps.order (takes w side) side (keeps.each w (taking side) tt holds) in
    record {
      next = last_of (handed_at w side) x (sent_at w (other side))
          (subst (λ (l : List Item). Begins (handed_at w side ++ x ∷ []) l) (accepted (other side)) (subst (λ (l : List Item). Begins l (sent_at (takes w side) (other side))) here after));
      accepted = accepted;
      here = here;
      there = ap (λ (s : State). take s.handed s.taken) (same_other w side t []);
    }

-- ---- each step is a move

send_moves : EndLaws → (w : World) (side : Side) (x : Item) (b : Bool) → is_ok (send_answer (end_at w side) x) ≡ b → Holds w → Move (channel_of w) (channel_of (sends w side x))
send_moves laws w side x true ok h = accepts side x (send_accepts laws w side x ok)
send_moves laws w side x false refused h =
    quiet (held_quiet w side _ [] h (subst (λ (t : State). Continues (end_at w side) t) (sym (laws.accepts.refused (end_at w side) x refused)) (continues_itself (end_at w side))))

take_moves : EndLaws → EachStepKeepsTheOrder → (w : World) (side : Side) (o : Option Item) → take_answer (end_at w side) ≡ o → Holds w → Move (channel_of w) (channel_of (takes w side))
take_moves laws keeps w side (Some x) is h = hands_up side x (take_hands_up laws keeps w side x h is)
take_moves laws keeps w side None is h =
    quiet (held_quiet w side _ [] h (subst (λ (t : State). Continues (end_at w side) t) (sym (laws.hands_up.none (end_at w side) is)) (continues_itself (end_at w side))))

pub step_moves : EndLaws → EachStepKeepsTheOrder → (w : World) (s : SmallStep) → Holds w → Move (channel_of w) (channel_of (stepped w s))
step_moves laws keeps w (sending side x) h = send_moves laws w side x (is_ok (send_answer (end_at w side) x)) refl h
step_moves laws keeps w (taking side) h = take_moves laws keeps w side (take_answer (end_at w side)) refl h
step_moves laws keeps w (arrival k) h = quiet (other_quiet laws w (arrival k) tt h)
step_moves laws keeps w (noise side bytes) h = quiet (other_quiet laws w (noise side bytes) tt h)
step_moves laws keeps w (flushing side) h = quiet (other_quiet laws w (flushing side) tt h)
step_moves laws keeps w (ticking side) h = quiet (other_quiet laws w (ticking side) tt h)
step_moves laws keeps w (resending side) h = quiet (other_quiet laws w (resending side) tt h)
step_moves laws keeps w (telling side asks) h = quiet (other_quiet laws w (telling side asks) tt h)

-- ---- steps are a history

moves_on : EndLaws → EachStepKeepsTheOrder → (w : World) (ss : List SmallStep) (n : ℕ) → All IsStep ss → Holds w → Move (channel_of (all_stepped w (take n ss))) (channel_of (all_stepped w (take (suc n) ss)))
moves_on laws keeps w [] zero fits h = quiet (quiet_itself w)
moves_on laws keeps w [] (suc n) fits h = quiet (quiet_itself w)
moves_on laws keeps w (s ∷ ss) zero fits h = step_moves laws keeps w s h
moves_on laws keeps w (s ∷ ss) (suc n) fits h = moves_on laws keeps (stepped w s) ss n (All-tail IsStep s ss fits) (keeps.each w s (All-head IsStep s ss fits) h)

pub history : EndLaws → EachStepKeepsTheOrder → (setup : Setup) (steps : List SmallStep) → IsSetup setup → IsGood setup → All IsStep steps → IsHistory (λ n. channel_of (all_stepped (start setup) (take n steps)))
history laws keeps setup steps fits good given = record {
  accepted = λ side. elim side as (λ t. sent_at (start setup) t ≡ []) [ A ↦ refl | B ↦ refl ];
  handed = λ side. elim side as (λ t. handed_at (start setup) t ≡ []) [ A ↦ refl | B ↦ refl ];
  moves = λ n. moves_on laws keeps (start setup) steps n given (keeps.start setup fits good);
}
