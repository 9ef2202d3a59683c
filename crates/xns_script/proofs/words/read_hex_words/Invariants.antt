use Rattle.std.proofs.Common.{◌≡◌, ◌++◌, ◌+◌, List, ℕ, Option, Some, None, length, option_map}
use Rattle.xns_script.specs.Word.{all_hex_words, words_after, words_of_line}
use Rattle.xns_script.proofs.words.read_hex_words.Given as goal

abbrev length_left : Option (List ℕ) → ℕ
length_left None = 0
length_left (Some rest) = length rest + 1

-- the words of the line are those so far and those of what is left
abbrev pub invariant-loop-left : goal.invariant-loop-left
invariant-loop-left l = all_hex_words (words_of_line l.line) ≡ option_map (λ ws. l.words.items ++ ws) (all_hex_words (words_after (option_map (λ rest. rest.now) l.left)))

abbrev pub decreases-loop-left : goal.decreases-loop-left
decreases-loop-left l = length_left (option_map (λ rest. rest.now) l.left)
