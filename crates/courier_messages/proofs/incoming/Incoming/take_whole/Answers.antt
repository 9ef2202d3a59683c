use Rattle.std.proofs.Common.{◌≡◌, ◌∷◌, [], length, rules}
use Rattle.courier_messages.proofs.Foreseen.{fault_said, whole_run, whole_said}
use Rattle.courier_messages.proofs.incoming.Incoming.take_whole.Goals as goal

pub returns-clause-runs : goal.returns-clause-runs
returns-clause-runs c =
    let none : length c.self.inside.pieces ≡ 0 = search rules in
    rw (← c.self.view_is) (whole_run _ c.in-Ok.stage c.in-Ok.skipped c.self.inside.pieces c.args.body.now none c.in-Ok.ensures.runs c.in-Some.ensures.steps)

pub returns-clause-said : goal.returns-clause-said
returns-clause-said c =
    let none : length c.self.inside.pieces ≡ 0 = search rules in
    rw (← c.self.view_is) (whole_said _ c.in-Ok.stage c.in-Ok.skipped c.self.inside.pieces c.args.body.now (c.in-Some.message ∷ []) none c.in-Ok.ensures.runs c.in-Some.ensures.ends)

pub returns-in_default-clause-none : goal.returns-in_default-clause-none
returns-in_default-clause-none c nothing =
    rw (← c.self.view_is) (fault_said c.in_default.field-0 _ c.args.body.now c.in_default.ensures.stops)

pub returns-in_default-whole_behind-clause-none : goal.returns-in_default-whole_behind-clause-none
returns-in_default-whole_behind-clause-none c nothing =
    let none : length c.self.inside.pieces ≡ 0 = search rules in
    rw (← c.self.view_is) (whole_said _ c.in-Ok.stage c.in-Ok.skipped c.self.inside.pieces c.args.body.now [] none c.in-Ok.ensures.runs c.in_default-whole_behind.ensures.ends)
