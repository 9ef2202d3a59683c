-- What the command of each mode makes of an input.
use Rattle.xns_calls.specs.Naming.{Programs}
use Rattle.xns_calls.specs.Printouts.{calls_printout}
use Rattle.xns_command.specs.declared.mode.Mode.{Mode}
use Rattle.xns_command.specs.declared.mode.Mode.TheVariants.{Calls, Dump, Sim}
use Rattle.xns_dump.specs.Dump.{dump_printout}
use Rattle.xns_lines.specs.Printouts.{Printout}
use Rattle.xns_lines.specs.declared.fault.RunFault.{RunFault}
use Rattle.xns_sim.specs.Sim.{sim_printout}

-- what the command of the mode makes of an input; the programs name the calls of `calls`
abbrev pub mode_printout : Programs → Mode → Printout RunFault
mode_printout programs Dump = dump_printout
mode_printout programs Calls = calls_printout programs
mode_printout programs Sim = sim_printout
