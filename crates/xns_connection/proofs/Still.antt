-- Where nothing waits and nothing is out, nothing can move.
use Rattle.std.proofs.Common.{◌≡◌, ◌∙◌, ap, sym, refl, ℕ, List, [], ◌∷◌, false, Option, Some, None}
use Rattle.std.specs.Prelude.{nat_lt}
use Rattle.std.specs.Option.{is_some}
use Rattle.courier_messages.specs.declared.message.Message.{Message}
use Rattle.courier_sessions.specs.Answering.{has_items}
use Rattle.courier_sessions.specs.Pumping.{Side as PumpSide, feeds, moving, caller_side, server_side, one_step}
use Rattle.courier_sessions.proofs.Done.{none_there}
use Rattle.xns_spp.specs.Held.{StandsFor}
use Rattle.xns_spp.specs.Laws.{TheNextItemIsHandedUp}
use Rattle.xns_spp.specs.Sending.{take_answer, waiting_count}
use Rattle.xns_spp.specs.State.{State}
use Rattle.xns_spp.specs.declared.item.Item.{Item}
use Rattle.xns_connection.specs.Story.{IsMoved, IsListed, has_message, out_of}
use Rattle.xns_connection.specs.Telling.{Calm}
use Rattle.xns_connection.specs.declared.conversation.Conversation.{Conversation}
use Rattle.xns_connection.specs.declared.side.Side.{Side}
use Rattle.xns_connection.specs.declared.side.Side.TheVariants.{Calls, Answers}
use Rattle.xns_connection.proofs.Leading.{stays}

pub no_items : (xs : List Item) → has_items xs ≡ false → xs ≡ []
no_items [] none = refl
no_items (x ∷ xs) none = absurd (cc)

no_message : (o : Option Message) (m : Message) → is_some o ≡ false → o ≡ Some m → ⊥
no_message None m none is = cc
no_message (Some x) m none is = cc

no_step : {S : Type 0} (side : PumpSide S) → TheNextItemIsHandedUp → (t : S) (s : State) → side.out t ≡ [] → waiting_count s ≡ 0
    → one_step side (t, s) ≡ None
no_step side next t s out few =
    let none : is_some (take_answer s) ≡ false = sym (next.waits s) ∙ ap (λ (n : ℕ). nat_lt 0 n) few in
    ap (λ (xs : List Item). moving side t s xs) out ∙ ap (λ (o : Option Item). feeds side t s o) (none_there (take_answer s) none)

is_moved : TheNextItemIsHandedUp → (side : Side) (s : State) → has_items (out_of side) ≡ false → waiting_count s ≡ 0 → IsMoved side s
is_moved next (Calls t) s out few = no_step caller_side next t s (no_items t.out out) few
is_moved next (Answers a) s out few = no_step server_side next a s (no_items a.out out) few

is_listed : (side : Side) → has_message side ≡ false → IsListed side
is_listed (Calls t) none = tt
is_listed (Answers a) none = λ m is. absurd (no_message a.call m none is)

pub calm_still : TheNextItemIsHandedUp → (t : Conversation) → has_items (out_of t.side) ≡ false → has_message t.side ≡ false
    → ((s : State) → StandsFor t.endpoint s → waiting_count s ≡ 0) → Calm t t
calm_still next t out none few = record {
  on = λ h tells. (h, tells, stays h, is_moved next t.side h.state out (few h.state tells.stands), is_listed t.side none);
}
