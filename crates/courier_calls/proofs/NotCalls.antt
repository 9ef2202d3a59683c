-- A message whose head isn't a call's.
use Rattle.std.proofs.Common.{◌≡◌, ap, refl, ℕ, false, [], ◌∷◌}
use Rattle.courier_messages.specs.declared.message.Message.{Message}
use Rattle.courier_messages.specs.declared.head.Head.{Head}
use Rattle.courier_messages.specs.declared.head.Head.TheVariants as heads
use Rattle.courier_messages.specs.Head.{with_words, words_in}
use Rattle.courier_messages.specs.Called.{all_calls}

-- a head that isn't a call's
pub not_a_call : (m : Message) (head : Head) → m ≡ with_words head (words_in m) → ((t p v q : ℕ) → head ≡ heads.Call t p v q → ⊥) → all_calls (m ∷ []) ≡ false
unfolding all_calls
not_a_call m (heads.Call t p v q) e h = absurd (h t p v q refl)
not_a_call m (heads.Reject t r) e h = ap (λ (x : Message). all_calls (x ∷ [])) e
not_a_call m (heads.Return t) e h = ap (λ (x : Message). all_calls (x ∷ [])) e
not_a_call m (heads.Abort t r) e h = ap (λ (x : Message). all_calls (x ∷ [])) e
