-- The messages of items whose bodies are bytes have numbers within their types' bounds.
use Rattle.std.proofs.Common.{◌≡◌, sym, subst, refl, ℕ, ◌^◌, ◌<◌, Bool, true, false, List, [], ◌∷◌, ◌++◌, length, map, Option, Some, None, ◌*◌, ◌+◌, Result, Ok, Err}
use Rattle.std.specs.Prelude.{if◌then◌else◌, ◌==◌}
use Rattle.std.specs.List.{AllByRecursion}
use Rattle.std.proofs.lemmas.List.Elements.{recursion_from_All}
use Rattle.xns_spp.specs.Fronts.{all_append}
use Rattle.xns_spp.specs.declared.item.Item.{Item}
use Rattle.xns_spp.specs.Item.{IsItem}
use Rattle.courier_types.specs.Spelling.{AreBytes}
use Rattle.courier_types.proofs.Joined.{bytes_words}
use Rattle.courier_types.proofs.Words.{none_below, cons_below, append_below}
use Rattle.courier_messages.specs.declared.fault.MessageFault.{MessageFault}
use Rattle.courier_messages.specs.declared.fault.MessageFault.TheVariants.{TooLong}
use Rattle.courier_messages.specs.declared.fault.SessionFault.{SessionFault}
use Rattle.courier_messages.specs.declared.fault.SessionFault.TheVariants.{BadMessage}
use Rattle.courier_messages.specs.declared.message.Message.{Message}
use Rattle.courier_messages.specs.Message.{message_of, IsMessage}
use Rattle.courier_messages.specs.Text.{Sign, byte, mark, foreign, end_of, signs, written}
use Rattle.courier_messages.specs.Conversation.{versions_fault, Phase, opening, fresh, inside, conversation}
use Rattle.courier_messages.specs.Phases.{fresh_unless, opened, closed, after_sign, ended, good, ◌then◌, onwards, said}
use Rattle.courier_messages.proofs.Signs.{conversation_is}
use Rattle.courier_messages.proofs.MessageWords.{read_is_spelled}

one_byte : (b : ℕ) → b < 2 ^ 8 → AreBytes (b ∷ [])
one_byte b h = cons_below (2 ^ 8) b [] h (none_below (2 ^ 8))

-- what is kept is bytes
abbrev HoldsBytes : Phase → Type 0
HoldsBytes (opening bytes) = Unit {0}
HoldsBytes fresh = Unit {0}
HoldsBytes (inside bytes) = AreBytes bytes

abbrev IfGoes : Result Phase SessionFault → Type 0
IfGoes (Ok p) = HoldsBytes p
IfGoes (Err e) = Unit {0}

abbrev IsByte : Sign → Type 0
IsByte (byte b) = b < 2 ^ 8
IsByte mark = Unit {0}
IsByte (foreign kind) = Unit {0}

after_mark : (r : Result Message MessageFault) → IfGoes (closed r)
after_mark (Ok m) = none_below (2 ^ 8)
after_mark (Err e) = tt

agreed_by : (f : Option SessionFault) → IfGoes (fresh_unless f)
agreed_by (Some e) = tt
agreed_by None = tt

opened_bytes : (bytes : List ℕ) → IfGoes (opened bytes)
opened_bytes [] = tt
opened_bytes (a ∷ []) = tt
opened_bytes (a ∷ b ∷ []) = tt
opened_bytes (a ∷ b ∷ c ∷ []) = tt
opened_bytes (a ∷ b ∷ c ∷ d ∷ bytes) = agreed_by (versions_fault (a * 256 + b) (c * 256 + d))

more_bytes : (bytes : List ℕ) (b : ℕ) (full : Bool) → AreBytes bytes → b < 2 ^ 8 → IfGoes (if full then Err (BadMessage TooLong) else Ok (inside (bytes ++ b ∷ [])))
more_bytes bytes b true h k = tt
more_bytes bytes b false h k = append_below (2 ^ 8) bytes (b ∷ []) h (one_byte b k)

step_bytes : (p : Phase) (s : Sign) → HoldsBytes p → IsByte s → IfGoes (after_sign p s)
step_bytes (opening bytes) (foreign kind) h k = tt
step_bytes fresh (foreign kind) h k = tt
step_bytes (inside bytes) (foreign kind) h k = tt
step_bytes (opening bytes) (byte b) h k = opened_bytes (bytes ++ b ∷ [])
step_bytes (opening bytes) mark h k = tt
step_bytes fresh (byte b) h k = one_byte b k
step_bytes fresh mark h k = none_below (2 ^ 8)
step_bytes (inside bytes) (byte b) h k = more_bytes bytes b (length bytes == 131072) h k
step_bytes (inside bytes) mark h k = after_mark (message_of bytes)

good_numbers : (bytes : List ℕ) (r : Result Message MessageFault) → AreBytes bytes → message_of bytes ≡ r → AllByRecursion IsMessage (good r)
good_numbers bytes (Ok m) h is = ((read_is_spelled bytes m (bytes_words bytes h) is).numbers, tt)
good_numbers bytes (Err e) h is = tt

ended_numbers : (p : Phase) (s : Sign) → HoldsBytes p → AllByRecursion IsMessage (ended p s)
ended_numbers (opening bytes) s h = tt
ended_numbers fresh s h = tt
ended_numbers (inside bytes) (byte b) h = tt
ended_numbers (inside bytes) mark h = good_numbers bytes (message_of bytes) h refl
ended_numbers (inside bytes) (foreign kind) h = tt

onwards_numbers : (r : Result Phase SessionFault) (f : Phase → List Message) → IfGoes r → ((p : Phase) → HoldsBytes p → AllByRecursion IsMessage (f p)) → AllByRecursion IsMessage (onwards r f)
onwards_numbers (Ok p) f h k = k p h
onwards_numbers (Err e) f h k = tt

said_numbers : (p : Phase) (text : List Sign) → HoldsBytes p → AllByRecursion IsByte text → AllByRecursion IsMessage (said p text)
unfolding said
said_numbers p [] h k = tt
said_numbers p (s ∷ text) h k =
    all_append IsMessage (ended p s) (onwards (after_sign p s) (λ q. said q text)) (ended_numbers p s h)
    (onwards_numbers (after_sign p s) (λ q. said q text) (step_bytes p s h k.0) (λ q w. said_numbers q text w k.1))

body_signs : (body : List ℕ) → AllByRecursion (λ b. b < 2 ^ 8) body → AllByRecursion IsByte (map byte body)
body_signs [] h = tt
body_signs (b ∷ body) h = (h.0, body_signs body h.1)

last_signs : (last : Bool) → AllByRecursion IsByte (end_of last)
last_signs true = (tt, tt)
last_signs false = tt

signs_by : (ours : Bool) (x : Item) → IsItem x → AllByRecursion IsByte (if ours then map byte x.body ++ end_of x.last else foreign x.stream ∷ [])
signs_by true x h = all_append IsByte (map byte x.body) (end_of x.last) (body_signs x.body (recursion_from_All (λ b. b < 2 ^ 8) x.body h.body)) (last_signs x.last)
signs_by false x h = (tt, tt)

written_signs : (items : List Item) → AllByRecursion IsItem items → AllByRecursion IsByte (written items)
written_signs [] h = tt
written_signs (x ∷ items) h = all_append IsByte (signs x) (written items) (signs_by (x.stream == 0) x h.0) (written_signs items h.1)

pub conversation_numbers : (items : List Item) → AllByRecursion IsItem items → AllByRecursion IsMessage (conversation items)
conversation_numbers items h = subst (AllByRecursion IsMessage) (sym (conversation_is items)) (said_numbers (opening []) (written items) tt (written_signs items h))
