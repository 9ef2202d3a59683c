use Rattle.std.proofs.Common.{refl}
use Rattle.xns_c.proofs.Kept.{changes}
use Rattle.xns_c.proofs.handling.Handle.change.Goals as goal

pub returns : goal.returns
returns g c =
    changes (g.Self.Handle.held c.args.self.now) (g.Self.Handle.held c.put.new.self) c.args.none c.deed-answer.result _ c.in-Some.kept.value _ c.in-Some.ensures.answer c.put.ensures (record {
      shown = c.deref_mut.result;
      shows = c.deref_mut.ensures.value;
      left = record c.deref_mut.result { now = c.deed-answer.new.arg2 };
      met = c.deed-answer.ensures;
      leaves = refl;
    })
