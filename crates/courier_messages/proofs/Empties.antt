-- What is kept behind a mark.
use Rattle.std.proofs.Common.{◌≡◌, ◌∙◌, ap, sym, refl, ℕ, List, [], ◌∷◌, ◌++◌, map, Bool, true, false, Result, Ok, Err}
use Rattle.std.specs.Prelude.{◌==◌, if◌then◌else◌}
use Rattle.xns_spp.specs.declared.item.Item.{Item}
use Rattle.courier_messages.specs.declared.fault.SessionFault.{SessionFault}
use Rattle.courier_messages.specs.declared.fault.MessageFault.{MessageFault}
use Rattle.courier_messages.specs.declared.message.Message.{Message}
use Rattle.courier_messages.specs.Message.{message_of}
use Rattle.courier_messages.specs.Conversation.{Phase, opening, fresh, inside}
use Rattle.courier_messages.specs.Phases.{after_sign, closed, run, ◌then◌}
use Rattle.courier_messages.specs.Refusal.{KeepsNothing}
use Rattle.courier_messages.specs.Text.{Sign, byte, mark, foreign, signs, end_of}
use Rattle.courier_messages.proofs.Runs.{run_append, run_mark}

closed_keeps : (r : Result Message MessageFault) (q : Phase) → closed r ≡ Ok q → KeepsNothing q
closed_keeps (Ok m) q is = let e : inside [] ≡ q = cc in rw (← e) refl
closed_keeps (Err f) q is = absurd cc

-- nothing is kept behind a mark
marked : (p q : Phase) → after_sign p mark ≡ Ok q → KeepsNothing q
marked (opening bytes) q is = absurd cc
marked fresh q is = let e : inside [] ≡ q = cc in rw (← e) refl
marked (inside bytes) q is = closed_keeps (message_of bytes) q is

behind_mark : (r : Result Phase SessionFault) (q : Phase) → (r then λ p. run p (mark ∷ [])) ≡ Ok q → KeepsNothing q
behind_mark (Ok p) q is = marked p q (sym (run_mark p) ∙ is)
behind_mark (Err e) q is = absurd cc

abbrev signs_if : Item → Bool → List Sign
signs_if x plain = if plain then map byte x.body ++ end_of x.last else foreign x.stream ∷ []

other : (p q : Phase) (k : ℕ) → run p (foreign k ∷ []) ≡ Ok q → KeepsNothing q
unfolding run
other p q k is = absurd cc

by_stream : (p q : Phase) (x : Item) (plain : Bool) → x.last ≡ true → run p (signs_if x plain) ≡ Ok q → KeepsNothing q
by_stream p q x true last is =
    let e : map byte x.body ++ end_of x.last ≡ map byte x.body ++ mark ∷ [] = ap (λ (b : Bool). map byte x.body ++ end_of b) last in
    behind_mark (run p (map byte x.body)) q
    (sym (run_append p (map byte x.body) (mark ∷ [])) ∙ (sym (ap (λ (text : List Sign). run p text) e) ∙ is))
by_stream p q x false last is = other p q x.stream is

-- nothing is kept behind an item that has a mark
pub behind_last : (p q : Phase) (x : Item) → x.last ≡ true → run p (signs x) ≡ Ok q → KeepsNothing q
behind_last p q x last is = by_stream p q x (x.stream == 0) last is
