use Rattle.std.proofs.Common.{IsOk}
use Rattle.courier_notation.specs.Lexing.{lexing_view}
use Rattle.courier_notation.specs.ProgramModels.{program_view}
use Rattle.courier_notation.specs.Programs.{header_at}
use Rattle.courier_programs.specs.Memory.{ResolvingWants}
use Rattle.courier_notation.proofs.Failing.{wants_more}
use Rattle.courier_programs.proofs.Begins.{has_header}
use Rattle.courier_programs.proofs.reading.read_lexed.Goals as goal

pub returns-in-Ok-clause-memory : goal.returns-in-Ok-clause-memory
returns-in-Ok-clause-memory c =
    let ts = (lexing_view c.args.lexed.now).tokens in
    let w = program_view c.in-Ok.written in
    let read = rw c.in-Ok.is at c.read_program.ensures.exact in
    wants_more c.resolve_text.result (ResolvingWants c.args.before.now w) (IsOk (header_at ts)) (λ _. has_header ts w (rw c.deref.ensures.value at read)) c.resolve_text.ensures.memory
