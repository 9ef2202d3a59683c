use Rattle.std.proofs.Common.{◌≡◌, drop}
use Rattle.std.specs.List.{position_from}
use Rattle.courier_programs.specs.Texts.{is_name, name_index}
use Rattle.courier_programs.proofs.reading.index_of_name.Given as goal

abbrev pub invariant-loop-i : goal.invariant-loop-i
invariant-loop-i l = position_from (is_name l.name) l.i (drop l.i l.tokens) ≡ name_index l.tokens l.name
