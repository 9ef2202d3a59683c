use Rattle.std.proofs.Common.{◌≡◌, refl}
use Rattle.item_world.specs.declared.side.Side.TheVariants.{A, B}
use Rattle.host_world.specs.Meeting.{Meeting, at, new_meeting}
use Rattle.host_world.specs.Meets.{opens}
use Rattle.host_world.specs.Pairing.{connection_at}
use Rattle.host_world.specs.declared.pair.Pair.{Pair}
use Rattle.host_world.proofs.pair.Pair.new.Goals as goal

pub returns-clause-stands : goal.returns-clause-stands
returns-clause-stands c =
    let p : Pair = record { a = c.in_ok-a.a; b = c.in_ok-b.b } in
    let m : Meeting = new_meeting c.args.calls.now c.args.called.now c.args.programs.items c.in_ok-a.a.conversation c.in_ok-b.b.conversation in
    record {
      calls = c.known.ensures;
      called = c.known-2.ensures;
      meets = opens c.in_ok-a.a.conversation c.in_ok-b.b.conversation c.in_ok-a.ensures.tells c.in_ok-b.ensures.tells c.in_ok-a.ensures.made.silent c.in_ok-b.ensures.made.silent;
      same = λ side. elim side as (λ s. (at m s).conversation ≡ (connection_at p s).conversation) [ A ↦ refl | B ↦ refl ];
    }
