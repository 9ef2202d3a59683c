-- What an endpoint that C holds keeps, and what it stands for.
use Rattle.std.specs.Prelude.{◌≡◌, ◌≢◌, ◌<◌, ◌≤◌, ℕ, List, [], length, All, Option, Some, None}
use Rattle.xns_idp.specs.Packet.{most_packet}
use Rattle.xns_spp.specs.Held.{Held, StandsFor}
use Rattle.xns_spp.specs.Packet.{most_body}
use Rattle.xns_spp.specs.Sending.{send_answer, after_send}
use Rattle.xns_spp.specs.State.{State}
use Rattle.xns_spp.specs.declared.item.Item.{Item}
use Rattle.xns_c.specs.Results.{ok, no_memory, too_long, send_number}

-- the end, and the packets that wait to be fetched
pub record KeptEndpoint : Type 0 where
  pub endpoint : Held
  pub packets : List (List ℕ)

-- an endpoint is there, and it keeps what belongs to this history
abbrev pub KeepsEndpoint : Option KeptEndpoint → State → Type 0
KeepsEndpoint None s = ⊥
KeepsEndpoint (Some l) s = StandsFor l.endpoint s

-- the packets that wait
abbrev pub waiting_packets : Option KeptEndpoint → List (List ℕ)
waiting_packets None = []
waiting_packets (Some l) = l.packets

-- what is told of the endpoint that a handle has, or something else where the handle has none; the handle has the endpoint still
pub record TellsOfEndpoint {A : Type 0} (old new : Option KeptEndpoint) (about : State → A) (otherwise told : A) : Type 0 where
  pub answer : (s : State) → KeepsEndpoint old s → told ≡ about s
  pub none : old ≡ None → told ≡ otherwise
  pub same : new ≡ old

-- the item is accepted, or a number says why not; where it is too long, or memory is refused for its bytes, nothing changes
pub record Accepts (k n : KeptEndpoint) (x : Item) (number : ℕ) : Type 0 where
  pub told : (s : State) → StandsFor k.endpoint s → number ≢ no_memory → number ≡ send_number (send_answer s x)
  pub stands : (s : State) → StandsFor k.endpoint s → number ≢ no_memory → StandsFor n.endpoint (after_send s x)
  pub packets : n.packets ≡ k.packets
  pub long : most_body < length x.body → (number ≡ too_long) × (n ≡ k)
  pub memory : number ≡ no_memory → (0 < length x.body) × (n ≡ k)

-- packets are made, none longer than packets may be, and take the place of those that wait; where memory is refused for them nothing changes
pub record Makes (packets : State → List (List ℕ)) (after : State → State) (number : ℕ) (k n : KeptEndpoint) : Type 0 where
  pub stands : (s : State) → StandsFor k.endpoint s → number ≡ ok → StandsFor n.endpoint (after s)
  pub made : (s : State) → StandsFor k.endpoint s → number ≡ ok → n.packets ≡ packets s
  pub short : (s : State) → StandsFor k.endpoint s → number ≡ ok → All (λ p. length p ≤ most_packet) n.packets
  pub memory : (s : State) → StandsFor k.endpoint s → number ≢ ok → (number ≡ no_memory) × (0 < length (packets s))
  pub unchanged : number ≢ ok → n ≡ k
