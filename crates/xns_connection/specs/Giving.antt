-- Which packet a conversation gives next, and what it owes then.
use Rattle.std.specs.Prelude.{◌≡◌, ◌⊎◌, ℕ, Bool, true, false, ◌&&◌, ◌||◌, List, [], ◌∷◌, Option, Some, None, Result, IfOk, OnErr}
use Rattle.std.specs.Option.{is_none, is_some}
use Rattle.std.specs.declared.alloc.AllocError.{AllocError}
use Rattle.xns_spp.specs.Held.{StandsFor}
use Rattle.xns_spp.specs.Sending.{after_flush, flush_answer}
use Rattle.xns_spp.specs.State.{State}
use Rattle.xns_spp.specs.Telling.{after_resend, resend_answer}
use Rattle.xns_connection.specs.Telling.{word_answer}
use Rattle.xns_connection.specs.declared.conversation.Conversation.{Conversation}
use Rattle.xns_connection.specs.declared.owed.Owed.{Owed}
use Rattle.xns_connection.specs.declared.owed.TheConstants.Owed.{SILENT}

-- the history of an end, the packets that wait, and what is owed
pub record Giving : Type 0 where
  pub state : State
  pub packets : List (List ℕ)
  pub owed : Owed

abbrev pub giving : Conversation → Owed → State → Giving
giving t o s = record { state = s; packets = t.packets.items; owed = o }

-- the conversation is so, and owes that
pub record IsGiving (t : Conversation) (o : Owed) (x : Giving) : Type 0 where
  pub stands : StandsFor t.endpoint x.state
  pub packets : t.packets.items ≡ x.packets
  pub owed : o ≡ x.owed

-- the packet is this one, and then it is so
abbrev pub GivesAs : Option (List ℕ) × Giving → Option (List ℕ) → Conversation → Owed → Type 0
GivesAs y p t o = (p ≡ y.0) × IsGiving t o y.1

-- the first item that is not acknowledged goes out once more
abbrev pub said_again : Option (List ℕ) → Giving → Option (List ℕ) × Giving
said_again p x = (p, record x { state = after_resend x.state; owed = record x.owed { again = false; word = x.owed.word && is_none p } })

abbrev pub if_again : Bool → Giving → Option (List ℕ) × Giving
if_again true x = said_again (resend_answer x.state) x
if_again false x = (None, x)

-- the first packet that waits; else what is to go out again
abbrev pub older_of : List (List ℕ) → Giving → Option (List ℕ) × Giving
older_of [] x = if_again x.owed.again x
older_of (p ∷ ps) x = (Some p, record x { packets = ps })

abbrev pub older : Giving → Option (List ℕ) × Giving
older x = older_of x.packets x

abbrev pub has_packets : List (List ℕ) → Bool
has_packets [] = false
has_packets (p ∷ ps) = true

-- packets were made of what goes out for the first time
abbrev pub flushed : Giving → Giving
flushed x = record x { state = after_flush x.state; packets = flush_answer x.state }

-- the first packet of those made; where there are none, the packet without an item that is owed
abbrev pub newer_of : List (List ℕ) → Giving → Option (List ℕ) × Giving
newer_of [] x = (word_answer x.owed x.state, record x { packets = []; owed = record x.owed { asks = false; word = false; fresh = x.owed.moving } })
newer_of (p ∷ ps) x =
    (Some p, record x { packets = ps; owed = record x.owed { word = false; fresh = x.owed.moving || (x.owed.asks || has_packets ps) } })

abbrev pub newer : Giving → Option (List ℕ) × Giving
newer x = newer_of (flush_answer x.state) (flushed x)

-- a packet goes out for the first time, or the word that is owed; or memory was refused where there was one of these, and it is as it was, or the
-- packets were made of all that goes out for the first time
pub record GivesNewer (result : Result (Option (List ℕ)) AllocError) (old new : Conversation) (owed owed_new : Owed) : Type 0 where
  pub side : (new.side ≡ old.side) × (new.closing ≡ old.closing)
  pub at : IfOk result (λ p. (s : State) → StandsFor old.endpoint s → GivesAs (newer (giving old owed s)) p new owed_new)
  pub short : OnErr result ((s : State) → StandsFor old.endpoint s → IsGiving new owed_new (giving old owed s) ⊎ IsGiving new owed_new (flushed (giving old owed s)))
  pub memory : OnErr result ((s : State) → StandsFor old.endpoint s → is_some (newer (giving old owed s)).0 ≡ true)

abbrev pub else_newer : Option (List ℕ) → Giving → Option (List ℕ) × Giving
else_newer None x = newer x
else_newer (Some p) x = (Some p, x)

-- the next packet: one that waits, or that goes out again; else one that goes out for the first time, or the word that is owed
abbrev pub next_of : Giving → Option (List ℕ) × Giving
next_of x = else_newer (older x).0 (older x).1

-- nothing is owed for good
abbrev pub silenced : Giving → Giving
silenced x = record x { owed = SILENT }

-- the next packet of a connection: one that is dead gives none, whatever waits
abbrev pub next_unless : (dead : Bool) → Giving → Option (List ℕ) × Giving
next_unless true x = (None, silenced x)
next_unless false x = next_of x

-- where memory was refused it is at one of these
pub data MayStopAt (x : Giving) : Giving → Type 0 where
  at_first : MayStopAt x x
  at_flush : (older x).0 ≡ None → MayStopAt x (older x).1
  at_word : (older x).0 ≡ None → MayStopAt x (flushed (older x).1)
