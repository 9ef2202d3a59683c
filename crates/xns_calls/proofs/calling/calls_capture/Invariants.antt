use Rattle.xns_calls.proofs.calling.calls_capture.Given as goal

abbrev pub ghosts-print_styled : goal.ghosts-print_styled
ghosts-print_styled g a = record { programs = a.programs }

abbrev pub ghosts-print_styled-2 : goal.ghosts-print_styled-2
ghosts-print_styled-2 g a = record { programs = a.programs }

abbrev pub ghosts-print_styled-3 : goal.ghosts-print_styled-3
ghosts-print_styled-3 g a = record { programs = a.programs }
