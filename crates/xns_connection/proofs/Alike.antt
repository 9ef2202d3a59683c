-- Where memory was not refused a step has one end only.
use Rattle.std.proofs.Common.{◌≡◌, ◌∙◌, ap, sym, ℕ, Bool, Option, Result}
use Rattle.courier_sessions.specs.declared.feed_refusal.FeedRefusal.{FeedRefusal}
use Rattle.xns_agenda.specs.Waiting.{Waiting}
use Rattle.xns_spp.specs.Held.{Held, StandsFor, held}
use Rattle.xns_spp.specs.Sending.{waiting_count}
use Rattle.xns_spp.specs.State.{State}
use Rattle.xns_connection.specs.Deeds.{Deed, Parts, closed_moved, done, is_starved, owed_by, owed_moved, shut, wait_after_deed, wait_moved}
use Rattle.xns_connection.specs.Moving.{IsAt, ConversationScene, conversation_scene, settled_by}
use Rattle.xns_connection.specs.Step.{AStepHasOneEnd, Step, parts_of}
use Rattle.xns_connection.specs.declared.closing.Closing.{Closing}
use Rattle.xns_connection.specs.declared.connection.Connection.{Connection}
use Rattle.xns_connection.specs.declared.conversation.Conversation.{Conversation}
use Rattle.xns_connection.specs.declared.owed.Owed.{Owed}
use Rattle.xns_connection.specs.declared.side.Side.{Side}
use Rattle.xns_connection.specs.declared.why.Why.{Why}
use Rattle.xns_connection.proofs.Outcomes.{not_starved}
use Rattle.xns_connection.proofs.Once.{moves_once}

-- the conversation at a scene
abbrev put : Conversation → ConversationScene → Conversation
put t y = record t { endpoint = held y.state; side = y.side; closing = y.closing }

is_put : (t u : Conversation) (y : ConversationScene) → IsAt u y → u.packets ≡ t.packets → u ≡ put t y
is_put t u y at packets =
    ap (λ (e : Held). let w : Conversation = record u { endpoint = e } in w) at.stands.holds
    ∙ (ap (λ p. let w : Conversation = record u { endpoint = held y.state; packets = p } in w) packets
    ∙ (ap (λ (b : Side). let w : Conversation = record t { endpoint = held y.state; side = b; closing = u.closing } in w) at.side
    ∙ ap (λ (c : Closing). let w : Conversation = record t { endpoint = held y.state; side = y.side; closing = c } in w) at.closing))

module _ (now : ℕ) (deed : Deed) (old : Connection) (s : State) (stands : StandsFor old.conversation.endpoint s) where
  abbrev first : ConversationScene
  first = done deed (conversation_scene old.conversation s)

  -- the parts of a connection that is closed so, after what can move moved there
  abbrev after : Option Why → Result (Unit {0}) FeedRefusal → ConversationScene → Parts
  after closed moved to = record {
    conversation = put old.conversation (shut old.closed closed to);
    wait = wait_moved old.closed closed (wait_after_deed deed old.wait s now) to now;
    owed = owed_moved (owed_by deed old.owed old.wait s now) (is_starved moved) (waiting_count first.state) (waiting_count to.state);
    closed = closed;
    told = old.told;
  }

  is_after : (new : Connection) (step : Step now deed old new)
      → parts_of new ≡ (let m = step.on s stands in after (closed_moved old.closed step.moved m.to) step.moved m.to)
  is_after new step =
      let m = step.on s stands in
      let t : Conversation = put old.conversation (shut old.closed new.closed m.to) in
      let w : Waiting = wait_moved old.closed new.closed (wait_after_deed deed old.wait s now) m.to now in
      let o : Owed = owed_moved (owed_by deed old.owed old.wait s now) (is_starved step.moved) (waiting_count first.state) (waiting_count m.to.state) in
      ap (λ (c : Conversation). let p : Parts = record { conversation = c; wait = new.wait; owed = new.owed; closed = new.closed; told = new.told } in p)
      (is_put old.conversation new.conversation (shut old.closed new.closed m.to) m.at step.packets)
      ∙ (ap (λ (v : Waiting). let p : Parts = record { conversation = t; wait = v; owed = new.owed; closed = new.closed; told = new.told } in p) m.waits
      ∙ (ap (λ (x : Owed). let p : Parts = record { conversation = t; wait = w; owed = x; closed = new.closed; told = new.told } in p) m.owes
      ∙ (ap (λ (b : Bool). let p : Parts = record { conversation = t; wait = w; owed = o; closed = new.closed; told = b } in p) step.told
      ∙ ap (λ (k : Option Why). after k step.moved m.to) m.why)))

pub one_end : AStepHasOneEnd
one_end now deed old new other s stands a b still too =
    let m = a.on s stands in
    let k = b.on s stands in
    let some = not_starved a.moved (sym (ap (λ (o : Owed). o.moving) m.owes) ∙ still) in
    let same = not_starved b.moved (sym (ap (λ (o : Owed). o.moving) k.owes) ∙ too) in
    let end = moves_once (done deed (conversation_scene old.conversation s)) a.moved b.moved m.settles.mid k.settles.mid m.settles.moves k.settles.moves some same in
    let to : m.to ≡ k.to =
    m.settles.is ∙ ap (λ (r : Result (Unit {0}) FeedRefusal). settled_by r m.settles.mid) end.result ∙ ap (λ (x : ConversationScene). settled_by b.moved x) end.scene ∙ sym k.settles.is in
    is_after now deed old s stands new a
    ∙ ap (λ (r : Result (Unit {0}) FeedRefusal). after now deed old s stands (closed_moved old.closed r m.to) r m.to) end.result
    ∙ ap (λ (x : ConversationScene). after now deed old s stands (closed_moved old.closed b.moved x) b.moved x) to
    ∙ sym (is_after now deed old s stands other b)
