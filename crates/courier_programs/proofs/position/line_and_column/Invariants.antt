use Rattle.std.proofs.Common.{◌≡◌, ◌+◌, ◌≤◌, take}
use Rattle.courier_programs.specs.Texts.{position_behind}
use Rattle.courier_programs.proofs.position.line_and_column.Given as goal

abbrev pub invariant-loop-byte : goal.invariant-loop-byte
invariant-loop-byte l = record {
  here : position_behind (take l.byte-index l.front) ≡ (l.line, l.column);
  lines : l.line ≤ l.byte-index + 1;
  columns : l.column ≤ l.byte-index + 1;
}
