-- The modes of the program.
use Rattle.std.specs.Prelude.{List, ℕ, codes}
use Rattle.xns_command.specs.declared.mode.Mode.{Mode}
use Rattle.xns_command.specs.declared.mode.Mode.TheVariants.{Calls, Dump, Sim}

-- the name of the subcommand that asks for the mode
abbrev pub name_of : Mode → List ℕ
name_of Dump = codes "dump"
name_of Calls = codes "calls"
name_of Sim = codes "sim"
