use Rattle.std.proofs.Common.{◌≡◌, ◌∙◌, ap, rules, sym, None}
use Rattle.xns_connection.specs.declared.connection.Connection.{Connection}
use Rattle.xns_host.specs.declared.guest.Guest.{Guest}
use Rattle.xns_host.proofs.Fetching.{untold}
use Rattle.xns_host.proofs.Meant.{handed_none}
use Rattle.xns_host.proofs.guest.Guest.tell.Goals as goal

pub returns-in_err-why-clause-none : goal.returns-in_err-why-clause-none
returns-in_err-why-clause-none c = λ none.
    let none_taken : c.take_message.result ≡ None = search rules in
    let message = handed_none c.args.now c.args.self.now.connection c.take_message.new.self c.take_message.ensures.step (sym c.take_message.ensures.message ∙ none_taken) in
    let why = untold c.take_message.new.self c.take_why.new.self c.take_why.ensures.rest c.take_why.ensures.told (sym c.in_err-why.was ∙ c.take_why.ensures.why) in
    ap (λ (t : Connection). let g : Guest = record c.args.self.now { connection = t } in g) (why ∙ message)
