use Rattle.std.proofs.Common.{◌≡◌, ◌∙◌, subst, ℕ, List, [], ◌∷◌, ◌++◌, Option, Some, None, Ok}
use Rattle.std.specs.Prelude.{IfSome}
use Rattle.std.specs.Io.KnownBytes.{Appends}
use Rattle.courier_programs.specs.declared.program.Program.{Program}
use Rattle.courier_programs.specs.Meanings.{resolved_model}
use Rattle.call_texts.specs.Listing.{program_text}
use Rattle.xns_lines.specs.Faults.{AppendsPart}
use Rattle.xns_command.specs.Descriptions.{IsProgram, IsDescribed, IsTaken}
use Rattle.xns_command.proofs.descriptions.print_description.Goals as goal

taken : (old : Option (List ℕ)) (program : Program) (seen before after : List Program) (writes : List ℕ → Type 0) → seen ≡ before → IfSome old (λ text. IsDescribed (Ok program) text seen)
    → after ≡ before ++ program ∷ [] → writes (program_text (resolved_model program)) → IfSome old (λ text. IsTaken text before after writes)
taken None program seen before after writes same is grown written = tt
taken (Some text) program seen before after writes same is grown written = (program, subst (λ xs. IsProgram program text xs) same is, grown, written)

pub returns-in-Ok : goal.returns-in-Ok
returns-in-Ok g c =
    let held = g.W.Write.contents c.args.writer.now in
    let written = g.W.Write.contents c.write_whole.new.writer in
    taken (g.R.Read.remaining c.args.reader.now) c.in_ok-program.program c.deref.result.now c.args.programs.now.items _ (Appends held written)
    c.deref.ensures.value c.in_ok-program.ensures c.in_ok-push.ensures.items
    (subst (λ lines. Appends held written lines) (c.deref-2.ensures.value ∙ c.in_ok-lines.ensures) c.in-Ok.ensures.ok)

pub returns : goal.returns
returns g c =
    let held = g.W.Write.contents c.args.writer.now in
    let written = g.W.Write.contents c.write_whole.new.writer in
    rw c.in-Err.ensures.fault.0
    (taken (g.R.Read.remaining c.args.reader.now) c.in_ok-program.program c.deref.result.now c.args.programs.now.items _ (AppendsPart held written)
    c.deref.ensures.value c.in_ok-program.ensures c.in_ok-push.ensures.items
    (subst (λ lines. AppendsPart held written lines) (c.deref-2.ensures.value ∙ c.in_ok-lines.ensures) c.in-Err.ensures.fault.1))
