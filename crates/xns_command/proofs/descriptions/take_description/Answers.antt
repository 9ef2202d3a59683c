use Rattle.std.proofs.Common.{◌≡◌, subst, ℕ, List, [], ◌∷◌, ◌++◌, Option, Some, None, Ok}
use Rattle.std.specs.Prelude.{IfSome}
use Rattle.courier_programs.specs.declared.program.Program.{Program}
use Rattle.xns_command.specs.Descriptions.{IsProgram, IsDescribed, TakesDescription}
use Rattle.xns_command.proofs.descriptions.take_description.Goals as goal

taken : (old : Option (List ℕ)) (program : Program) (seen before after : List Program) → seen ≡ before → IfSome old (λ text. IsDescribed (Ok program) text seen) → after ≡ before ++ program ∷ []
    → IfSome old (λ text. TakesDescription (Ok tt) text before after)
taken None program seen before after same is grown = tt
taken (Some text) program seen before after same is grown = (program, subst (λ xs. IsProgram program text xs) same is, grown)

pub returns : goal.returns
returns g c =
    taken (g.R.Read.remaining c.args.reader.now) c.in_ok-program.program c.deref.result.now c.args.programs.now.items _ c.deref.ensures.value
    c.in_ok-program.ensures c.in_ok-push.ensures.items
