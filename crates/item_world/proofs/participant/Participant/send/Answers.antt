use Rattle.std.proofs.Common.{◌∙◌, sym, subst}
use Rattle.xns_spp.specs.Held.{StandsFor}
use Rattle.xns_spp.specs.Sending.{after_send}
use Rattle.xns_spp.specs.declared.item.Item.{Item}
use Rattle.item_world.proofs.Quiet.{accepted_it, refused_continues, went_on}
use Rattle.item_world.proofs.participant.Participant.send.Goals as goal

pub returns-else-is_ok : goal.returns-else-is_ok
returns-else-is_ok c laws s h =
    let x = c.args.item.now in
    let y = c.in_ok-copied.field-0 in
    let same = refused_continues laws s x y c.send.result (c.send.ensures.answer s h.stands) c.in_ok-copied.ensures.item (sym c.is_ok.ensures.value ∙ c.if-is_ok.false) in
    let stands = subst (λ (z : Item). StandsFor c.send.new.self (after_send s z)) c.in_ok-copied.ensures.item (c.send.ensures.stands s h.stands) in
    went_on c.args.self.now s (after_send s x) c.send.new.self h same stands

pub returns-in_ok-push : goal.returns-in_ok-push
returns-in_ok-push c laws s h =
    accepted_it laws c.args.self.now s c.args.item.now c.in_ok-copied.field-0 c.in_ok-copied-2.field-0 c.send.result c.send.new.self c.push.new.self h (c.send.ensures.answer s h.stands) c.in_ok-copied.ensures.item c.in_ok-copied-2.ensures.item
    (sym c.is_ok.ensures.value ∙ c.if-is_ok.true) (c.send.ensures.stands s h.stands) c.in_ok-push.ensures.ok
