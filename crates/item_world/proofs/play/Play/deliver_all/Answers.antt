use Rattle.std.proofs.lemmas.Grind.{common_steps}
use Rattle.std.proofs.Common.{ℕ, List, [], ◌∷◌, take, fold, get_or, sym, ◌∙◌, ap, subst, arith}
use Rattle.std.proofs.lemmas.List.{take_more}
use Rattle.std.proofs.lemmas.List.Sums.{fold-append}
use Rattle.item_world.proofs.play.Play.deliver_all.Goals as goal
use Rattle.item_world.specs.Events.{delivers}
use Rattle.item_world.specs.Play.{IsPlaying}
use Rattle.item_world.specs.World.{World}

pub loop-number-preserved : goal.loop-number-preserved
loop-number-preserved c laws w h =
    let ns = c.args.numbers.now in
    let k = c.loop-number.number-index in
    let before : List ℕ = take k ns in
    let there = c.in_ok-deliver.ensures laws (fold delivers w before) (c.loop-number.invariant laws w h) in
    subst (λ (v : World). IsPlaying c.deliver.new.self v)
    (sym (ap (λ (l : List ℕ). fold delivers w l) (take_more ns k 0 (omega arith)) ∙ fold-append delivers w before (get_or ns k 0 ∷ []))) there

pub returns : goal.returns
returns c = grind (arith, common_steps)
