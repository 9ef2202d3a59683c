use Rattle.std.proofs.Common.{◌≡◌, ◌∙◌, ap, subst, sym, ℕ, List, Bool, Result, Ok, Err, OnErr}
use Rattle.std.specs.declared.alloc.AllocError.{AllocError}
use Rattle.xns_spp.specs.Held.{StandsFor}
use Rattle.xns_spp.specs.Packet.{SppPacketModel, spp_packet_of}
use Rattle.xns_spp.specs.Receiving.{StoresBytes}
use Rattle.xns_spp.specs.State.{State}
use Rattle.xns_spp.specs.declared.dropped.Dropped.{Dropped}
use Rattle.xns_agenda.specs.Waiting.{HearsAt, no_word, still}
use Rattle.xns_connection.specs.Deeds.{heard}
use Rattle.xns_connection.specs.Step.{Step, is_ours_by}
use Rattle.xns_connection.specs.Telling.{HearsBytes}
use Rattle.xns_connection.specs.declared.connection.Connection.{Connection}
use Rattle.host_world.specs.Pairing.{connection_at}
use Rattle.host_world.proofs.Paired.{at_side, heard_there, hears_none, pair_heard, pair_stays, pair_takes_in, pair_unchanged, put_back}
use Rattle.host_world.proofs.pair.Pair.receive.Goals as goal

pub returns-clause-takes_in : goal.returns-clause-takes_in
returns-clause-takes_in c =
    pair_takes_in c.a_step_keeps_its_promises.ensures c.args.self.now c.at.result.now c.receive.new.self c.args.side c.args.now c.args.bytes.now c.in-Ok.packet c.receive.result
    c.at.ensures.value (sym c.in-Ok.ensures.value) c.receive.ensures.step c.receive.ensures.foreign

pub returns-clause-hears : goal.returns-clause-hears
returns-clause-hears c =
    pair_heard (λ (x y : Connection). HearsBytes x.conversation y.conversation c.args.bytes.now × HearsAt c.args.now x.wait y.wait) c.args.self.now c.at.result.now c.receive.new.self c.args.side
    c.args.now c.args.bytes.now c.in-Ok.packet c.receive.result c.at.ensures.value (sym c.in-Ok.ensures.value)
    (λ step. (heard_there c.a_step_keeps_its_promises.ensures c.args.now c.args.bytes.now c.at.result.now c.receive.new.self step, step.steps)) c.receive.ensures.step
    (λ none. subst (λ (y : Connection). HearsBytes c.at.result.now.conversation y.conversation c.args.bytes.now × HearsAt c.args.now c.at.result.now.wait y.wait) (sym (c.receive.ensures.foreign none)) (
      hears_none c.foreign_bytes_change_nothing.ensures c.at.result.now.conversation c.args.bytes.now c.in-Ok.packet (sym c.in-Ok.ensures.value)
          (λ s stands. c.receive.ensures.ours s stands ∙ ap is_ours_by none),
      no_word still,
    ))

pub returns-clause-step : goal.returns-clause-step
returns-clause-step c = λ ours.
    at_side (λ (x y : Connection). Step c.args.now (heard c.args.bytes.now) x y) c.args.self.now c.at.result.now c.receive.new.self c.args.side c.at.ensures.value
    (c.receive.ensures.step ours c.args.bytes.now (sym c.in-Ok.ensures.value))

-- bytes that are a packet are not dropped
is_read : (bytes : List ℕ) (p : SppPacketModel) (why : Dropped) → spp_packet_of bytes ≡ Ok p → spp_packet_of bytes ≡ Err why → ⊥
is_read bytes p why is none = let no : Ok p ≡ Err why = sym is ∙ none in absurd (cc)

pub returns-clause-foreign : goal.returns-clause-foreign
returns-clause-foreign c = (
  λ none. put_back c.args.self.now c.args.side c.receive.new.self (c.receive.ensures.foreign none ∙ c.at.ensures.value),
  λ why none. absurd (is_read c.args.bytes.now c.in-Ok.packet why (sym c.in-Ok.ensures.value) none),
)

-- where memory was refused, both stand
both : (X Y : Type 0) (r : Result Bool AllocError) → OnErr r X → OnErr r Y → OnErr r (X × Y)
both X Y (Ok b) x y = tt
both X Y (Err e) x y = (x, y)

stores : (r : Result Bool AllocError) (x y : Connection) (bytes : List ℕ) (p : SppPacketModel) → y ≡ x → spp_packet_of bytes ≡ Ok p
    → OnErr r ((s : State) (b : List ℕ) → StandsFor y.conversation.endpoint s → spp_packet_of b ≡ Ok p → StoresBytes s b)
    → OnErr r ((s : State) → StandsFor x.conversation.endpoint s → StoresBytes s bytes)
stores (Ok b) x y bytes p same is memory = tt
stores (Err e) x y bytes p same is memory = λ s stands. memory s bytes (subst (λ (k : Connection). StandsFor k.conversation.endpoint s) (sym same) stands) is

pub returns-clause-unchanged : goal.returns-clause-unchanged
returns-clause-unchanged c =
    both _ _ c.receive.result (pair_unchanged c.args.self.now c.at.result.now c.receive.new.self c.args.side c.receive.result c.at.ensures.value c.receive.ensures.unchanged)
    (stores c.receive.result (connection_at c.args.self.now c.args.side) c.at.result.now c.args.bytes.now c.in-Ok.packet c.at.ensures.value (sym c.in-Ok.ensures.value) c.receive.ensures.memory)

pub returns-in_default-clause-takes_in : goal.returns-in_default-clause-takes_in
returns-in_default-clause-takes_in c = pair_stays c.args.self.now c.args.side c.args.bytes.now
