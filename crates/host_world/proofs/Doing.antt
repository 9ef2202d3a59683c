-- By which steps what is done at a connection changes what a program sees of it.
use Rattle.std.proofs.Common.{◌≡◌, ◌∙◌, ap, refl, sym, ℕ, ◌+◌, Bool, true, false, List, [], ◌∷◌, ◌++◌, length, Option, Some, None, Result}
use Rattle.std.specs.Prelude.{◌||◌, if◌then◌else◌}
use Rattle.std.proofs.lemmas.Bool.{false_from_ne_true, or_parts}
use Rattle.courier_messages.specs.RawCalls.{RawCall, call_message, transaction_of}
use Rattle.courier_sessions.specs.Answering.{answer_message, transaction_in}
use Rattle.courier_sessions.specs.declared.answer.Answer.{Answer}
use Rattle.xns_connection.specs.Closing.{drains}
use Rattle.xns_connection.specs.Deeds as deeds
use Rattle.xns_connection.specs.Ends.{AConnectionKeepsItsEnd}
use Rattle.xns_connection.specs.Deeds.{side_answered, side_called}
use Rattle.xns_connection.specs.Refusing.{side_answer_fault, side_call_fault}
use Rattle.xns_host.specs.Went.{GuestActs, GuestGives, GuestHears, GuestStep, GuestUnserved, hears, lost}
use Rattle.xns_connection.specs.declared.connection.Connection.{Connection}
use Rattle.xns_host.specs.declared.guest.Guest.{Guest}
use Rattle.xns_connection.specs.declared.refusal.Refusal.{Refusal}
use Rattle.xns_connection.specs.declared.refusal.Refusal.TheVariants.{Closing}
use Rattle.xns_host.specs.declared.host_fault.HostFault.{HostFault}
use Rattle.xns_host.specs.declared.outgoing.Outgoing.{Outgoing}
use Rattle.xns_connection.specs.declared.why.Why.{Why}
use Rattle.host_world.specs.Dialogue.{Dialogue, held, calls, answers, asks}
use Rattle.host_world.specs.Dialogue.{calling, answering, asking}
use Rattle.host_world.proofs.Deeds.{makes, gives}
use Rattle.host_world.proofs.Stepping.{acts, gives as gives_packet, not_served, steps}
use Rattle.host_world.proofs.Happens.{closed_between}
use Rattle.host_world.proofs.Shown.{Alone, Nearly, Passes, Shows, by_itself, first, nearly, nearly_by, settled, some_not, unmoved}

-- ---- the program closes a connection

pub after_close : AConnectionKeepsItsEnd → (now : ℕ) (d : Dialogue) (g h : Guest) → Shows d g → GuestStep now deeds.asked g h → Passes (asks ∷ closed_between g h) (held d) (Some (Some h))
after_close ends now d g h s step =
    let e : Dialogue = record d { asked = true } in
    let c = steps now deeds.asked g.connection h.connection s.state g.connection.conversation.side true s.stands step.step refl refl refl in
    first (held d) (held e) asks (closed_between g h) (Some (Some h)) (asking d)
    (settled e g h s.closed (nearly_by d g h true true s (ends.steps now deeds.asked g.connection h.connection step.step).opener (ap (λ (k : Guest). k.heard_of) step.same) (ap (λ (k : Guest). k.opening_untold) step.same) c (λ z. refl)))

-- ---- the program makes a call, or answers one

unfaulted : (b : Bool) (o : Option Refusal) → (if b then Some Closing else o) ≡ None → (b ≡ false) × (o ≡ None)
unfaulted true o e = absurd (cc)
unfaulted false o e = (refl, e)

-- a connection that is read is not closed, and the program was not told that it is
unclosed : (c : Connection) → drains c.conversation.side c.conversation.closing ≡ false → (o : Option Why) → c.closed ≡ o → o ≡ None
unclosed c reads None is = refl
unclosed c reads (Some why) is = let drained = c.fits.deaf (λ none. absurd (cc)) in absurd (cc)

untold : (d : Dialogue) (g : Guest) → Shows d g → d.closed ≡ None → d.told ≡ true → ⊥
untold d g s none z = some_not d.closed (s.over z).0 none

pub after_call : AConnectionKeepsItsEnd → (now : ℕ) (d : Dialogue) (g h : Guest) (c : RawCall) → Shows d g → GuestStep now (deeds.made c) g h → Passes (calls c ∷ closed_between g h) (held d) (Some (Some h))
after_call ends now d g h c s step =
    let t = g.connection.conversation in
    let may = unfaulted (drains t.side t.closing || t.closing.wanted) (side_call_fault t.side c) step.step.may in
    let both = or_parts (drains t.side t.closing) t.closing.wanted may.0 in
    let k = makes d.ours d.calls d.answers t.side c may.1 s.side in
    let none : d.closed ≡ None = sym s.closed ∙ unclosed g.connection both.0 g.connection.closed refl in
    let e : Dialogue = record d { calls = d.calls ++ call_message (transaction_of (length d.calls + 1)) c ∷ [] } in
    let ch = steps now (deeds.made c) g.connection h.connection s.state (side_called t.side c) t.closing.wanted s.stands step.step refl refl refl in
    let near : Nearly e h
    = nearly d e g h (side_called t.side c) t.closing.wanted s ch (ends.steps now (deeds.made c) g.connection h.connection step.step).opener refl refl refl k.has s.asked
    (λ z. absurd (untold d g s none z)) (λ z theirs. let our = k.is_ours in absurd (cc)) (λ z. s.newly (sym (ap (λ (x : Guest). x.opening_untold) step.same) ∙ z)) in
    first (held d) (held e) (calls c) (closed_between g h) (Some (Some h))
    (calling d c k.is_ours k.even (false_from_ne_true d.asked (λ z. let wanted = s.asked z in let unwanted = both.1 in cc)) none) (settled e g h s.closed near)

pub after_answer : AConnectionKeepsItsEnd → (now : ℕ) (d : Dialogue) (g h : Guest) (kind : Answer) (words : List ℕ) → Shows d g → GuestStep now (deeds.gave kind words) g h
    → Passes (answers kind words ∷ closed_between g h) (held d) (Some (Some h))
after_answer ends now d g h kind words s step =
    let t = g.connection.conversation in
    let may = unfaulted (drains t.side t.closing) (side_answer_fault t.side kind words) step.step.may in
    let k = gives d.ours d.calls d.answers t.side kind words may.1 s.side in
    let none : d.closed ≡ None = sym s.closed ∙ unclosed g.connection may.0 g.connection.closed refl in
    let e : Dialogue = record d { answers = d.answers ++ answer_message kind (transaction_in k.call) words ∷ [] } in
    let ch = steps now (deeds.gave kind words) g.connection h.connection s.state (side_answered t.side kind words) t.closing.wanted s.stands step.step refl refl refl in
    let near : Nearly e h
    = nearly d e g h (side_answered t.side kind words) t.closing.wanted s ch (ends.steps now (deeds.gave kind words) g.connection h.connection step.step).opener refl refl refl k.has s.asked
    (λ z. absurd (untold d g s none z)) (λ z. s.unheard (sym (ap (λ (x : Guest). x.heard_of) step.same) ∙ z))
    (λ z. let ours : d.ours ≡ true = (s.newly (sym (ap (λ (x : Guest). x.opening_untold) step.same) ∙ z)).0 in let theirs = k.is_theirs in absurd (cc)) in
    first (held d) (held e) (answers kind words) (closed_between g h) (Some (Some h)) (answering d k.call kind words k.is_theirs k.is_open_call none) (settled e g h s.closed near)

-- ---- by itself, in each way

pub hearing : AConnectionKeepsItsEnd → (now : ℕ) (bytes : List ℕ) (confirming : Bool) (d : Dialogue) (g h : Guest) → Shows d g → GuestHears now bytes confirming g h → Alone d g h
hearing ends now bytes confirming d g h s (hears step) =
    by_itself d g h s (ends.steps now (deeds.heard bytes) g.connection h.connection step.step) (ap (λ (k : Guest). k.heard_of) step.same) (ap (λ (k : Guest). k.opening_untold) step.same)
    (steps now (deeds.heard bytes) g.connection h.connection s.state g.connection.conversation.side g.connection.conversation.closing.wanted s.stands step.step refl refl refl)
hearing ends now bytes confirming d g h s (lost stores) = unmoved d g g s refl

pub unserving : AConnectionKeepsItsEnd → (now error : ℕ) (d : Dialogue) (g h : Guest) → Shows d g → GuestUnserved now error g h → Alone d g h
unserving ends now error d g h s u =
    by_itself d g h s (ends.refused error now g.connection h.connection u.parts) (ap (λ (k : Guest). k.heard_of) u.same) (ap (λ (k : Guest). k.opening_untold) u.same)
    (not_served now error g.connection h.connection s.state s.stands u.parts)

pub acting : AConnectionKeepsItsEnd → (now : ℕ) (d : Dialogue) (g h : Guest) → Shows d g → GuestActs now g h → Alone d g h
acting ends now d g h s a =
    by_itself d g h s (ends.acts now g.connection h.connection a.parts) (ap (λ (k : Guest). k.heard_of) a.same) (ap (λ (k : Guest). k.opening_untold) a.same) (acts now g.connection h.connection s.state s.stands a.parts)

pub giving_out : AConnectionKeepsItsEnd → (now : ℕ) (result : Result (Option Outgoing) HostFault) (d : Dialogue) (g h : Guest) → Shows d g → GuestGives now result g h → Alone d g h
giving_out ends now result d g h s a =
    by_itself d g h s (ends.gives now a.answer g.connection h.connection a.gave) (ap (λ (k : Guest). k.heard_of) a.same) (ap (λ (k : Guest). k.opening_untold) a.same) (gives_packet now a.answer g.connection h.connection s.state s.stands a.gave)
