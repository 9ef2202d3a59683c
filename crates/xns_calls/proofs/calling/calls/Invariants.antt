use Rattle.xns_calls.proofs.calling.calls.Given as goal

abbrev pub ghosts-print_described : goal.ghosts-print_described
ghosts-print_described g a = record { programs = a.programs }
