use Rattle.std.proofs.Common.{map, drop}
use Rattle.std.specs.List.{flat_map}
use Rattle.courier_programs.specs.Meanings.{resolved_procedure, resolved_model}
use Rattle.call_texts.specs.Calls.{program_name}
use Rattle.call_texts.specs.Listing.{procedure_line}
use Rattle.call_texts.proofs.Appended.{SoFar}
use Rattle.call_texts.proofs.listing.append_procedures.Given as goal

abbrev pub invariant-loop-procedure : goal.invariant-loop-procedure
invariant-loop-procedure l =
    let line = procedure_line (program_name (resolved_model l.program)) in
    SoFar l.fn.out l.out (flat_map line (map resolved_procedure (drop l.procedure-index l.program.procedures.items))) (flat_map line (map resolved_procedure l.program.procedures.items))
