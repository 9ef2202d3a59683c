use Rattle.std.proofs.Common.{◌≡◌, ◌≢◌, [], rules}
use Rattle.xns_host.proofs.Waking.{stray_first, waking}
use Rattle.xns_host.proofs.host.Host.first_want.Goals as goal

pub returns-then-not-is_empty : goal.returns-then-not-is_empty
returns-then-not-is_empty c =
    let some : c.args.self.now.strays.waiting ≢ [] = search rules in
    stray_first c.args.self.now.guests.items c.args.self.now.strays.waiting c.args.self.now.agenda.short some

pub returns : goal.returns
returns c =
    let none : c.args.self.now.strays.waiting ≡ [] = search rules in
    waking c.args.self.now.agenda c.args.self.now.guests.items c.args.self.now.strays.waiting c.wake.result
    c.args.self.now.noted c.wake.ensures.room c.args.self.now.sized none c.wake.ensures.wake
