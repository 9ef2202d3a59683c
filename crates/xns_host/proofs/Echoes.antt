-- Which packets ask a host for an Echo reply.
use Rattle.std.proofs.Common.{◌≡◌, ◌∙◌, sym, Bool, true, false}
use Rattle.std.specs.Prelude.{IsTrue, ◌↔◌}
use Rattle.xns_idp.specs.Packet.{PacketModel, broadcast}
use Rattle.xns_small.specs.Echo.{IsAnswered}
use Rattle.xns_host.specs.Hosting.{address_in}
use Rattle.xns_host.specs.Ours.{AsksEcho}
use Rattle.xns_host.specs.Strays.{echo_socket}
use Rattle.xns_host.specs.Whole.{Whole}

-- where the test says that an address is not the broadcast host's, it is not
pub not_every : (every : Bool) (P : Type 0) → every ≡ false → (IsTrue every ↔ P) → P → ⊥
not_every every P other test is = let same : every ≡ true = test.1 is in let bad : true ≡ false = sym same ∙ other in cc

pub asks_echo : (w : Whole) (p : PacketModel) (every : Bool) → w.settings.answers_echo ≡ true → every ≡ false
    → (IsTrue every ↔ (p.source.host ≡ broadcast)) → IsAnswered (address_in w.network w.host echo_socket) p → AsksEcho w p
asks_echo w p every answers other test asks =
    record { answers = answers; one_host = λ is. not_every every (p.source.host ≡ broadcast) other test is; request = asks }

pub quiet : (w : Whole) (p : PacketModel) → w.settings.answers_echo ≡ false → AsksEcho w p → ⊥
quiet w p silent asks = let bad : true ≡ false = sym asks.answers ∙ silent in cc

pub every_host : (w : Whole) (p : PacketModel) (every : Bool) → every ≡ true → (IsTrue every ↔ (p.source.host ≡ broadcast)) → AsksEcho w p → ⊥
every_host w p every is test asks = asks.one_host (test.0 is)

pub no_request : (w : Whole) (p : PacketModel) → (IsAnswered (address_in w.network w.host echo_socket) p → ⊥) → AsksEcho w p → ⊥
no_request w p never asks = never asks.request
