use Rattle.std.proofs.Common.{rules}
use Rattle.std.proofs.Math.Logic.{∥∥₁_elim, ∥∥₁_map}
use Rattle.std.proofs.Props.{props}
use Rattle.xns_connection.specs.Moving.{conversation_scene}
use Rattle.xns_connection.proofs.Settled.{still_drained}
use Rattle.xns_connection.proofs.Steps.{goes_on_by, left_history}
use Rattle.xns_connection.proofs.settling.settled.Goals as goal

pub after_moving-requires : goal.after_moving-requires
after_moving-requires c = record {
  fits = record {
    open_due = c.requires.fits.open_due;
    closed_due = c.requires.fits.closed_due;
    deaf = λ some. ∥∥₁_elim c.requires.stands (Prim.hlevel props) (λ x.
        let k = c.settle-moved.ensures.settles x.0 x.1 in
        still_drained c.settle-moved.new.self (conversation_scene c.args.conversation.now x.0) k.0 c.settle-moved.result k.1 k.2 (c.requires.fits.deaf some));
  };
}

pub returns-clause-moved : goal.returns-clause-moved
returns-clause-moved c =
    goes_on_by c.args.now c.args.conversation.now c.settle-moved.new.self c.after_moving.new.conversation c.settle-moved.result c.args.owed.now _ c.args.closed.now
    c.after_moving.new.closed c.args.wait.now c.after_moving.new.wait c.settle-moved.ensures.settles c.settle-moved.ensures.packets c.after_moving.ensures.closes
    (λ s u here there. search rules)

pub returns-clause-stands : goal.returns-clause-stands
returns-clause-stands c =
    left_history c.args.now c.settle-moved.new.self c.after_moving.new.conversation c.settle-moved.result c.args.closed.now c.after_moving.new.closed c.args.wait.now
    c.after_moving.new.wait
    (∥∥₁_map c.requires.stands (λ x. let k = c.settle-moved.ensures.settles x.0 x.1 in (k.0.state, k.1.stands))) c.after_moving.ensures.closes
