use Rattle.std.proofs.Common.{arith, add-one, eq-eqb}
use Rattle.std.proofs.lemmas.Bool.{eqb-true}
use Rattle.std.proofs.lemmas.List.{take_rest}
use Rattle.xns_script.proofs.WordCuts.{whole_word, word_cut}
use Rattle.xns_script.proofs.words.cut_word.Goals as goal

pub returns-in-Some-clause-words : goal.returns-in-Some-clause-words
returns-in-Some-clause-words c =
    let found = c.in-Some.ensures in
    rw (take_rest, add-one) (word_cut c.args.line.now c.in-Some.end found.0.high (eqb-true _ _ found.1)
    (λ k lt e. found.0.before k (omega arith) lt (eq-eqb _ _ e)))

pub returns-in-None-clause-words : goal.returns-in-None-clause-words
returns-in-None-clause-words c = whole_word c.args.line.now (λ k lt e. c.in-None.ensures k (omega arith) lt (eq-eqb _ _ e))
