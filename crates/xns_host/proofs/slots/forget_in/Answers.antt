use Rattle.std.proofs.Common.{◌≡◌, rules, slice_get, slice_set, subst, ℕ, None}
use Rattle.xns_host.proofs.Leaving.{left, left_opened, none_left}
use Rattle.xns_host.proofs.slots.forget_in.Goals as goal

pub returns-in_default-clause-left : goal.returns-in_default-clause-left
returns-in_default-clause-left c =
    none_left c.args.register.now (slice_get c.args.guests.now.items c.args.number) c.vacate.result c.vacate.ensures.taken (search rules)

pub returns-in-Some-opener-clause-left : goal.returns-in-Some-opener-clause-left
returns-in-Some-opener-clause-left c =
    left_opened c.args.register.now c.release.new.self c.leave.new.self (slice_get c.args.guests.now.items c.args.number) c.vacate.result
    c.in-Some.guest _ c.vacate.ensures.taken c.in-Some.is
    (subst (λ (i : ℕ). c.release.new.self.identifiers ≡ record c.args.register.now.identifiers { owners = slice_set c.args.register.now.identifiers.owners i None })
    c.id.ensures c.release.ensures.identifiers) c.release.ensures.peers (search rules)
    c.leave.ensures.identifiers c.leave.ensures.left

pub returns-clause-left : goal.returns-clause-left
returns-clause-left c =
    left c.args.register.now c.release.new.self (slice_get c.args.guests.now.items c.args.number) c.vacate.result c.in-Some.guest
    c.vacate.ensures.taken c.in-Some.is
    (subst (λ (i : ℕ). c.release.new.self.identifiers ≡ record c.args.register.now.identifiers { owners = slice_set c.args.register.now.identifiers.owners i None })
    c.id.ensures c.release.ensures.identifiers) (search rules) c.release.ensures.peers
