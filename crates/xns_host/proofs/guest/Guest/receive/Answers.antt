use Rattle.std.proofs.Common.{◌≡◌, ◌∙◌, ap, subst, sym, rules, Bool, true, false}
use Rattle.std.specs.Prelude.{◌||◌}
use Rattle.xns_host.specs.Went.{GuestHears, hears, lost}
use Rattle.xns_connection.specs.declared.connection.Connection.{Connection}
use Rattle.xns_host.specs.declared.guest.Guest.{Guest}
use Rattle.xns_host.proofs.guest.Guest.receive.Goals as goal

pub returns-clause-hears : goal.returns-clause-hears
returns-clause-hears c = λ yes b read.
    let on : c.args.confirms ≡ true = search rules in
    let flag : true ≡ (c.args.confirms || c.args.self.now.confirmed) = sym (ap (λ (x : Bool). x || c.args.self.now.confirmed) on) in
    hears (record {
      same = ap (λ (x : Bool). let h : Guest = record c.args.self.now { connection = c.receive.new.self; confirmed = x } in h) flag;
      step = c.in-Ok.ensures.step (search rules) b read;
    })

pub returns-clause-ours : goal.returns-clause-ours
returns-clause-ours c = λ s stands. sym (c.in-Ok.ensures.ours s stands ∙ search rules)

pub returns-then-not-confirms-clause-hears : goal.returns-then-not-confirms-clause-hears
returns-then-not-confirms-clause-hears c = λ yes b read.
    let off : c.args.confirms ≡ false = search rules in
    let flag : c.args.self.now.confirmed ≡ (c.args.confirms || c.args.self.now.confirmed) = sym (ap (λ (x : Bool). x || c.args.self.now.confirmed) off) in
    hears (record {
      same = ap (λ (x : Bool). let h : Guest = record c.args.self.now { connection = c.receive.new.self; confirmed = x } in h) flag;
      step = c.in-Ok.ensures.step (search rules) b read;
    })

pub returns-then-not-confirms-clause-ours : goal.returns-then-not-confirms-clause-ours
returns-then-not-confirms-clause-ours c = λ s stands. sym (c.in-Ok.ensures.ours s stands ∙ search rules)

pub returns-then-not-ours-clause-ours : goal.returns-then-not-ours-clause-ours
returns-then-not-ours-clause-ours c = λ s stands. sym (c.in-Ok.ensures.ours s stands ∙ search rules)

pub returns-then-not-ours-clause-foreign : goal.returns-then-not-ours-clause-foreign
returns-then-not-ours-clause-foreign c = λ no.
    ap (λ (t : Connection). let h : Guest = record c.args.self.now { connection = t } in h) (c.in-Ok.ensures.foreign (search rules))

pub returns-in_default-clause-ours : goal.returns-in_default-clause-ours
returns-in_default-clause-ours c = λ s stands. sym (c.in_default.ensures.ours s stands)

pub returns-in_default-clause-hears : goal.returns-in_default-clause-hears
returns-in_default-clause-hears c = λ yes b read.
    subst (λ (t : Connection). GuestHears c.args.now b c.args.confirms c.args.self.now (record c.args.self.now { connection = t })) (sym c.in_default.ensures.unchanged)
    (lost (λ s stands. c.in_default.ensures.memory s b stands read))
