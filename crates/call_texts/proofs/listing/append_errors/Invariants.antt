use Rattle.std.proofs.Common.{map, drop}
use Rattle.std.specs.List.{flat_map}
use Rattle.courier_programs.specs.Meanings.{resolved_error, resolved_model}
use Rattle.call_texts.specs.Calls.{program_name}
use Rattle.call_texts.specs.Listing.{error_line}
use Rattle.call_texts.proofs.Appended.{SoFar}
use Rattle.call_texts.proofs.listing.append_errors.Given as goal

abbrev pub invariant-loop-error : goal.invariant-loop-error
invariant-loop-error l =
    let line = error_line (program_name (resolved_model l.program)) in
    SoFar l.fn.out l.out (flat_map line (map resolved_error (drop l.error-index l.program.errors.items))) (flat_map line (map resolved_error l.program.errors.items))
