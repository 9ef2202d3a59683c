use Rattle.std.proofs.Common.{◌≡◌, drop}
use Rattle.courier_programs.specs.Meanings.{meaning_of, meanings_seen}
use Rattle.courier_programs.proofs.scope.meaning_of.Given as goal

abbrev pub invariant-loop-meaning : goal.invariant-loop-meaning
invariant-loop-meaning l = meaning_of (meanings_seen (drop l.meaning-index l.meanings)) l.name ≡ meaning_of (meanings_seen l.meanings) l.name
