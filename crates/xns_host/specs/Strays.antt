-- Packets of no connection that are to go out.
use Rattle.std.specs.Prelude.{◌≡◌, ◌⊎◌, ℕ, ◌≤◌, Bool, true, false, List, [], ◌∷◌, ◌++◌, length, nat_lt, if◌then◌else◌}
use Rattle.xns_idp.specs.declared.address.Address.{Address}
use Rattle.xns_small.specs.ErrorReport.{MayBeComplainedOf, complaint}
use Rattle.xns_host.specs.declared.outgoing.Outgoing.{Outgoing}

-- the packets that wait, the first one first, at most so many; and whether memory was refused for a packet that was to be answered here or to
-- open a connection, and none was put here since, with room for it or without
pub record StrayQueue : Type 0 where
  pub most : ℕ
  pub waiting : List Outgoing
  pub starved : Bool

pub record HasStrayRoom (most : ℕ) (waiting : List Outgoing) (count capacity : ℕ) : Type 0 where
  pub counted : count ≡ length waiting
  pub few : length waiting ≤ most
  pub room : most ≤ capacity

abbrev pub new_strays : ℕ → StrayQueue
new_strays most = record { most = most; waiting = []; starved = false }

abbrev pub stray_of : ℕ → List ℕ → Outgoing
stray_of via packet = record { via = via; packet = packet }

-- the packets with one more behind them; what is over is as if lost
abbrev pub with_stray : StrayQueue → Outgoing → StrayQueue
with_stray q s =
    record q { waiting = if nat_lt (length q.waiting) q.most then q.waiting ++ s ∷ [] else q.waiting; starved = false }

-- memory was refused for such a packet, which is as if lost
abbrev pub lost_stray : StrayQueue → StrayQueue
lost_stray q = record q { starved = true }

-- a packet is put behind the others, where there is room; or memory was refused for it
abbrev pub MayHaveStray : StrayQueue → StrayQueue → Outgoing → Type 0
MayHaveStray old new s = (new ≡ with_stray old s) ⊎ (new ≡ lost_stray old)

-- where one may complain of these bytes, an Error packet about them, by the way that they came, is behind the others, where there is room; or
-- memory was refused for it
pub data HasComplained (own : Address) (number via : ℕ) (bytes : List ℕ) (old : StrayQueue) : StrayQueue → Type 0 where
  complains : {new : StrayQueue} → MayBeComplainedOf bytes → MayHaveStray old new (stray_of via (complaint own number 0 bytes))
      → HasComplained own number via bytes old new
  forbears : (MayBeComplainedOf bytes → ⊥) → HasComplained own number via bytes old old

-- where Echo requests come (XSIS 028112, Echo Protocol)
abbrev pub echo_socket : ℕ
echo_socket = 2
