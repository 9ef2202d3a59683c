use Rattle.std.proofs.Common.{◌++◌, Option, refl, sym, ◌∙◌, ap, append-nil}
use Rattle.std.specs.Option.{option_to_list}
use Rattle.courier_calls.specs.declared.call.Call.{Call}
use Rattle.item_world.proofs.Quiet.{ok_then}
use Rattle.xns_world.proofs.ServingEnds.{hears_well, hears_badly}
use Rattle.xns_world.specs.ServeEnd.{server_history}
use Rattle.xns_world.proofs.serving.ServingEnd.hear.Goals as goal

pub returns-in_ok-push-in-Ok-Some-clause-hearing : goal.returns-in_ok-push-in-Ok-Some-clause-hearing
returns-in_ok-push-in-Ok-Some-clause-hearing g c s F P answering h =
    let e = c.args.self.now in
    let listed = c.in_ok-push-in-Ok-Some.ensures.items ∙ ap (λ (o : Option Call). e.carried.items ++ option_to_list o) (sym c.in-Ok-Some.field-0-is) in
    hears_well g.S.Service.serving s e (record e { server = c.feed.new.self; carried = c.push.new.self }) F P c.args.item c.in-Ok-Some.field-0 answering.faults h (c.in-Ok-Some.ensures.stands (server_history s F P) h.session) (c.in-Ok-Some.ensures.calls (server_history s F P) h.session) listed refl

pub returns-in-Ok-None-clause-hearing : goal.returns-in-Ok-None-clause-hearing
returns-in-Ok-None-clause-hearing g c s F P answering h =
    let e = c.args.self.now in
    let listed = sym (append-nil e.carried.items) ∙ ap (λ (o : Option Call). e.carried.items ++ option_to_list o) (sym c.in-Ok-None.field-0-is) in
    hears_well g.S.Service.serving s e (record e { server = c.feed.new.self }) F P c.args.item c.in-Ok-None.field-0 answering.faults h (c.in-Ok-None.ensures.stands (server_history s F P) h.session) (c.in-Ok-None.ensures.calls (server_history s F P) h.session) listed refl

pub returns-in-Err-clause-hearing : goal.returns-in-Err-clause-hearing
returns-in-Err-clause-hearing g c =
    ok_then c.note.result c.note.ensures (λ n s F P answering h.
    let e = c.args.self.now in
    hears_badly g.S.Service.serving s e (record e { server = c.feed.new.self; fault = c.note.new.first }) F P c.args.item c.in-Err.fault answering.faults h (c.in-Err.ensures.stands (server_history s F P) h.session) refl n)
