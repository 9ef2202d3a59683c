use Rattle.std.proofs.Common.{◌≡◌, ◌∙◌, ℕ, refl, sym, subst, rules}
use Rattle.xns_spp.specs.Sending.{waiting_count}
use Rattle.xns_connection.specs.Moving.{IsAt, ConversationScene, conversation_scene, taken_one, taken_many}
use Rattle.xns_connection.proofs.Scenes.{at_first, many_more, then_at}
use Rattle.xns_connection.proofs.conversation.Conversation.drain.Goals as goal

pub loop-turn-init : goal.loop-turn-init
unfolding taken_many
loop-turn-init c = (c.requires, refl, λ s stands. at_first c.args.self.now s stands)

pub loop-turn-preserved : goal.loop-turn-preserved
loop-turn-preserved c = (
  c.take_one.ensures.drains,
  c.take_one.ensures.packets ∙ c.loop-turn.invariant.1,
  λ s stands.
      subst (λ (x : ConversationScene). IsAt c.take_one.new.self x) (sym (many_more c.loop-turn.turn (conversation_scene c.args.self.now s)))
      (then_at taken_one (c.loop-turn.invariant.2 s stands) c.take_one.ensures.at),
)

pub returns-clause-packets : goal.returns-clause-packets
returns-clause-packets c = c.loop-turn.invariant.1

pub returns-clause-at : goal.returns-clause-at
returns-clause-at c = λ s stands.
    let all : c.loop-turn.turn ≡ waiting_count s = search rules in
    subst (λ (n : ℕ). IsAt c.loop-turn.self (taken_many n (conversation_scene c.args.self.now s))) all (c.loop-turn.invariant.2 s stands)
