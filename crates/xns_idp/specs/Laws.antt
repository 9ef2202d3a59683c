-- What the definitions imply: the statements of the laws, each under the name of its law.
use Rattle.std.specs.Prelude.{◌≡◌, ◌+◌, ◌^◌, ◌<◌, ◌≤◌, ◌↔◌, All, List, ℕ, ◌∷◌, ◌++◌, length, Ok, Err}
use Rattle.xns_idp.specs.Checksum.{cycle_checksum, added_and_rotated, zero_for_all_ones, AreAlike}
use Rattle.xns_idp.specs.Packet.{PacketModel, AreBytes, IsPacket, SpellsPacket, IsPacketAtFront, packet_spelling, most_data}
use Rattle.xns_idp.specs.Reading.{packet_of, made_even}
use Rattle.xns_idp.specs.declared.fault.IdpFault.{IdpFault}

abbrev pub ChecksumIsAddedAndRotated : Type 0
ChecksumIsAddedAndRotated = (ws : List ℕ) → All (λ w. w < 2 ^ 16) ws → cycle_checksum ws ≡ zero_for_all_ones (added_and_rotated 0 ws)

abbrev pub AnotherWordShows : Type 0
AnotherWordShows = (front back : List ℕ) (v w : ℕ) → v < 2 ^ 16 → w < 2 ^ 16 →
    (cycle_checksum (front ++ v ∷ back) ≡ cycle_checksum (front ++ w ∷ back)) ↔ AreAlike v w

abbrev pub AnExchangeShows : Type 0
AnExchangeShows = (front back : List ℕ) (v w : ℕ) → v < 2 ^ 16 → w < 2 ^ 16 →
    (cycle_checksum (front ++ v ∷ w ∷ back) ≡ cycle_checksum (front ++ w ∷ v ∷ back)) ↔ AreAlike v w

pub record WrittenPacketIsReadAgain : Type 0 where
  pub spells : (p : PacketModel) → length p.body ≤ most_data → SpellsPacket p (packet_spelling p)
  pub again : (p : PacketModel) (rest : List ℕ) → IsPacket p → length p.body ≤ most_data →
      packet_of (packet_spelling p ++ rest) ≡ Ok (p, length (packet_spelling p))
  pub size : (p : PacketModel) → IsPacket p → length (packet_spelling p) ≡ made_even (30 + length p.body)

pub record PacketAtFrontIsItsSpelling : Type 0 where
  pub found : (bytes : List ℕ) (p : PacketModel) (taken : ℕ) → AreBytes bytes → packet_of bytes ≡ Ok (p, taken) →
      IsPacketAtFront bytes p taken
  pub only : (bytes taken rest : List ℕ) (p : PacketModel) → IsPacket p → SpellsPacket p taken → bytes ≡ taken ++ rest →
      packet_of bytes ≡ Ok (p, length taken)
  pub none : (bytes : List ℕ) (f : IdpFault) → packet_of bytes ≡ Err f → (p : PacketModel) (taken : ℕ) → ¬ (IsPacketAtFront bytes p taken)
