-- Why a connection is closed, or is not, after its items moved.
use Rattle.std.specs.Prelude.{◌≡◌, ◌≢◌, Bool, true, ◌&&◌, ◌||◌, ◌++◌, take, Option, None, Result, Err, IfErr}
use Rattle.std.specs.Option.{is_none, is_some}
use Rattle.courier_sessions.specs.declared.feed_refusal.FeedRefusal.{FeedRefusal}
use Rattle.courier_sessions.specs.declared.feed_refusal.FeedRefusal.TheVariants.{NoMemory}
use Rattle.xns_spp.specs.Growth.{Begins}
use Rattle.xns_spp.specs.Held.{StandsFor}
use Rattle.xns_spp.specs.State.{State}
use Rattle.xns_spp.specs.Datastreams.{end_stream}
use Rattle.xns_connection.specs.Closing.{drains, put_if}
use Rattle.xns_connection.specs.Connecting.{why_after}
use Rattle.xns_connection.specs.Deeds.{has_refused_item, why_left}
use Rattle.xns_connection.specs.Story.{Story, is_called}
use Rattle.xns_connection.specs.Telling.{GoesUntil, Tells, is_over}
use Rattle.xns_connection.specs.declared.conversation.Conversation.{Conversation}
use Rattle.xns_connection.specs.declared.why.Why.{Why}

-- a connection was open, and is closed
abbrev pub is_closed_now : (was closed : Option Why) → Bool
is_closed_now was closed = is_none was && is_some closed

-- whether what comes is looked at for the closing exchange alone, after items moved and this came of it: it was so before, or the side refused
-- an item, or the step closed the connection, or End is put out at a side that is called
abbrev pub drains_by : (before : Bool) → Result (Unit {0}) FeedRefusal → (closed_now : Bool) → (new : Conversation) → Bool
drains_by before moved closed_now new = before || (has_refused_item moved || (closed_now || (new.closing.end_sent && is_called new.side)))

-- after something was done its items moved, and this came of it: what its side refused, if it did, and else whether the closing exchange is
-- over, says why it is closed, if it was not closed before. That memory was refused is noted, and nothing else is
pub record ClosesBy (old : Conversation) (base : Story → Story) (new : Conversation) (moving : Bool) (was closed : Option Why) : Type 0 where
  pub moved : Result (Unit {0}) FeedRefusal
  pub refused : IfErr moved (λ e. GoesUntil old base e)
  pub reads : (h : Story) → Tells old h → drains new.side new.closing ≡ drains_by (drains old.side old.closing) moved (is_closed_now was closed) new
  pub why : was ≡ None → (s : State) → StandsFor new.endpoint s → closed ≡ why_after new.closing (is_over new.closing s) moved
  pub short : moving ≡ true → moved ≡ Err NoMemory
  pub noted : moved ≡ Err NoMemory → moving ≡ true

-- where a connection that is given up counts as closed by the exchange, the peer has acknowledged all that the side said, and End, if it was
-- put out
abbrev pub AGoodCloseLosesNothing : Type 0
AGoodCloseLosesNothing = (t : Conversation) (h : Story) (reason : Why) → Tells t h → why_left t reason ≢ reason
    → Begins (h.given ++ put_if t.closing.end_sent end_stream) (take h.state.acknowledged h.state.accepted)
