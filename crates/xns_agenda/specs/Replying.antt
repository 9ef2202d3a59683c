-- How a peer says by its replies that it lacks an item (XSIS 028112, Sequenced Packet Protocol): a reply acknowledges what the peer has
-- received in order, and allocates up to the last number that it accepts. Replies that say the same over and over mean that packets arrive,
-- but not the first one that is missing. When that one goes out again is this project's rule.
use Rattle.std.specs.Prelude.{ℕ, ◌+◌, ◌&&◌, ◌==◌, Bool, nat_le, nat_lt, if◌then◌else◌}
use Rattle.xns_agenda.specs.declared.replies.Replies.{Replies}

-- a reply with this allocation number is the third in a row that says the same
abbrev pub is_third : Replies → (allocation : ℕ) → Bool
is_third r allocation = (r.count == 2) && (r.allocation == allocation)

-- a reply that says something else is the first of others; after the third none is counted
abbrev pub counted : Replies → (allocation : ℕ) → Replies
counted r allocation =
    if nat_le 3 r.count then r
    else if nat_lt 0 r.count && (r.allocation == allocation) then record { count = r.count + 1; allocation = allocation }
    else record { count = 1; allocation = allocation }
