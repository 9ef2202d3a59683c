use Rattle.std.proofs.Common.{◌∙◌, ap, ℕ, ◌-◌, take, drop}
use Rattle.courier_messages.proofs.Puts.{long_put}
use Rattle.courier_messages.proofs.cutting.put_long.Goals as goal

pub returns-in-Ok-clause-ok : goal.returns-in-Ok-clause-ok
returns-in-Ok-clause-ok c =
    let words = c.args.words.now in
    long_put c.args.head words c.split_at.result.0.now c.split_at.result.1.now c.args.out.now.items c.push_back.new.self.items c.put_out.new.out.items c.in_ok-first.first c.requires
    (c.split_at.ensures.front ∙ ap (λ (n : ℕ). take (267 - n) words) c.size.ensures)
    (c.split_at.ensures.back ∙ ap (λ (n : ℕ). drop (267 - n) words) c.size.ensures)
    c.in_ok-first.ensures c.in_ok-push_back.ensures.items c.in-Ok.ensures.ok
