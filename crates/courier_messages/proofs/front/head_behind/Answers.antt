use Rattle.std.proofs.Common.{◌∙◌, ap, ℕ, ◌+◌, ◌-◌, length}
use Rattle.courier_messages.proofs.Fronts.{short_front}
use Rattle.courier_messages.proofs.front.head_behind.Goals as goal

pub returns-then-count-lt6 : goal.returns-then-count-lt6
returns-then-count-lt6 c =
    c.head_of.ensures
    ∙ short_front c.args.skipped _ c.args.pieces.now c.args.body.now _ _ _ _ _ _ c.requires.skipped (ap (λ (n : ℕ). n + length c.args.body.now - c.args.skipped) c.len.ensures) c.if-behind-eq1.false c.requires.size
    c.if-count-lt6.true c.word_at.ensures c.word_at-2.ensures c.word_at-3.ensures c.word_at-4.ensures c.word_at-5.ensures c.word_at-6.ensures
