use Rattle.std.proofs.Common.{◌∙◌, ap, sym, ℕ, List, Option}
use Rattle.std.specs.Prelude.{slice_set}
use Rattle.xns_agenda.proofs.Beside.{all_again, other_again, set_again}
use Rattle.xns_agenda.proofs.times.Times.set.Goals as goal

pub returns-then-number-self : goal.returns-then-number-self
returns-then-number-self c =
    set_again c.self.inside.others c.self.inside.last c.args.number c.self.inside.time c.args.time c.if-number-self.true
    ∙ ap (λ (xs : List (Option ℕ)). slice_set xs c.args.number c.args.time) c.self.view_is

pub returns-then-is_same : goal.returns-then-is_same
returns-then-is_same c =
    sym c.self.view_is
    ∙ other_again c.self.inside.others c.self.inside.last c.args.number c.self.inside.time c.args.time c.get.result c.if-number-self.false c.get.ensures (c.is_same.ensures c.if-is_same.true)
    ∙ ap (λ (xs : List (Option ℕ)). slice_set xs c.args.number c.args.time) c.self.view_is

pub returns : goal.returns
returns c =
    ap (λ (xs : List (Option ℕ)). slice_set xs c.args.number c.args.time) c.exchange.ensures
    ∙ all_again c.self.inside.others c.self.inside.last c.args.number c.self.inside.time c.args.time
    ∙ ap (λ (xs : List (Option ℕ)). slice_set xs c.args.number c.args.time) c.self.view_is
