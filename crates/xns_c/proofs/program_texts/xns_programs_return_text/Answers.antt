use Rattle.std.proofs.Common.{List, rules}
use Rattle.call_texts.specs.Calls.{return_shown}
use Rattle.courier_programs.specs.declared.program.Program.{Program}
use Rattle.xns_c.specs.Programs.{kept_programs_of}
use Rattle.xns_c.proofs.ProgramsGiven.{no_return, shown_in}
use Rattle.xns_c.proofs.program_texts.xns_programs_return_text.Goals as goal

pub returns-clause-given : goal.returns-clause-given
returns-clause-given c =
    c.give_text.ensures.given _ (shown_in (kept_programs_of c.args.handle.now) c.ask-shown.result
    (λ (ps : List Program). return_shown ps c.args.program c.args.version c.args.procedure c.args.words.now)
    (no_return c.args.program c.args.version c.args.procedure c.args.words.now) c.ask-shown.ensures.none (λ k is. search rules))
