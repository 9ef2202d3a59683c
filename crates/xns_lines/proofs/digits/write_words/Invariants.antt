use Rattle.std.proofs.Common.{◌≡◌, ◌*◌, ◌++◌, take, drop}
use Rattle.xns_lines.specs.Text.{words_behind_spaces}
use Rattle.xns_lines.proofs.digits.write_words.Given as goal

-- the words so far are written
abbrev pub invariant-loop-i : goal.invariant-loop-i
invariant-loop-i l = take (5 * l.i) l.text ++ words_behind_spaces (drop l.i l.words) ≡ words_behind_spaces l.words
