use Rattle.xns_script.proofs.Hexes.{longer}
use Rattle.xns_script.proofs.words.is_dash.Goals as goal

pub returns-in-Some : goal.returns-in-Some
returns-in-Some c = longer _ _ _ c.cut_word.ensures.words (λ e. let some = c.in-Some.is in cc)
