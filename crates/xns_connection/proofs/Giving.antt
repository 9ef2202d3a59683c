-- The packets that a connection gives are those that waited and those that were made on the way.
use Rattle.std.proofs.Common.{[], ◌≡◌, ◌∙◌, ap, sym, refl, ℕ, List, ◌++◌, false, append-nil, append_assoc, Option, None, Result, Ok, Err, OnErr, IfOk}
use Rattle.std.specs.Option.{option_to_list}
use Rattle.xns_spp.specs.Held.{StandsFor}
use Rattle.xns_spp.specs.Sending.{flush_answer}
use Rattle.xns_spp.specs.State.{State}
use Rattle.xns_spp.specs.Telling.{resend_answer, told_answer}
use Rattle.xns_connection.specs.Story.{Story, Runs, start, sends, takes, flushes, resends, tells, made_on}
use Rattle.xns_connection.specs.Closing.{drains}
use Rattle.xns_connection.specs.Telling.{Goes, GivesNextPacket, MovesAndGives}
use Rattle.xns_connection.specs.declared.closing.Closing.{Closing}
use Rattle.xns_connection.specs.declared.conversation.Conversation.{Conversation}
use Rattle.xns_connection.specs.declared.side.Side.{Side}
use Rattle.xns_connection.proofs.Leading.{runs_on, same_messages}
use Rattle.xns_connection.proofs.Tellings.{Carries, carried}

abbrev pub Packets : Type 0
Packets = List (List ℕ)

pub made_then : {s t u : State} (p : Runs s t) (q : Runs t u) → made_on (runs_on p q) ≡ made_on p ++ made_on q
unfolding runs_on
made_then p start = sym (append-nil (made_on p))
made_then p (sends q x) = made_then p q
made_then p (takes q) = made_then p q
made_then p (flushes {v = v} q) = ap (λ (bs : Packets). bs ++ flush_answer v) (made_then p q) ∙ append_assoc (made_on p) (made_on q) (flush_answer v)
made_then p (resends {v = v} q) = ap (λ (bs : Packets). bs ++ option_to_list (resend_answer v)) (made_then p q) ∙ append_assoc (made_on p) (made_on q) (option_to_list (resend_answer v))
made_then p (tells {v = v} q asks) = ap (λ (bs : Packets). bs ++ option_to_list (told_answer v asks)) (made_then p q) ∙ append_assoc (made_on p) (made_on q) (option_to_list (told_answer v asks))

pub gives_by : (t u : Conversation) (o : Option (List ℕ)) → u.side ≡ t.side → u.closing ≡ t.closing
    → ((s : State) → StandsFor t.endpoint s → (v : State) × Carries t u s v × (p : Runs s v) × (option_to_list o ++ u.packets.items ≡ t.packets.items ++ made_on p)) → GivesNextPacket t u o
unfolding same_messages
gives_by t u o same closing step = record {
  on = λ h tells.
      let k = step h.state tells.stands in
      let m : Story = record h { state = k.0 } in
      let drain : drains u.side u.closing ≡ false → drains t.side t.closing ≡ false = λ z. ap (λ (e : Closing). drains t.side e) (sym closing) ∙ ap (λ (y : Side). drains y u.closing) (sym same) ∙ z in
      (m, carried t u h k.0 same drain k.1 tells, same_messages h m k.2 refl refl refl refl refl, k.3);
}

-- where none waited, what is made goes out
pub alone : (old new made : Packets) (o : Option (List ℕ)) → old ≡ [] → new ≡ [] → option_to_list o ≡ made → option_to_list o ++ new ≡ old ++ made
alone old new made o none after is = ap (λ (bs : Packets). option_to_list o ++ bs) after ∙ append-nil (option_to_list o) ∙ is ∙ ap (λ (bs : Packets). bs ++ made) (sym none)

-- ---- where memory may be refused

pub moves_and_gives : {E : Type 0} {s t : Conversation} (u : Conversation) (r : Result (Option (List ℕ)) E) → Goes s t → t.packets ≡ s.packets → IfOk r (λ o. GivesNextPacket t u o) → IfOk r (λ o. MovesAndGives s u o)
moves_and_gives {t = t} u (Ok o) goes same gives = (t, goes, same, gives)
moves_and_gives u (Err e) goes same gives = tt

pub moves_and_none : {X E : Type 0} {s t : Conversation} (u : Conversation) (r : Result X E) → Goes s t → t.packets ≡ s.packets → OnErr r (GivesNextPacket t u None) → OnErr r (MovesAndGives s u None)
moves_and_none u (Ok x) goes same gives = tt
moves_and_none {t = t} u (Err e) goes same gives = (t, goes, same, gives)
