use Rattle.std.proofs.Common.{◌≡◌, ℕ, true, length, sym, ap, subst, arith}
use Rattle.std.proofs.lemmas.List.Elements.{All-nil}
use Rattle.xns_world.proofs.CallPlays.{pair_of}
use Rattle.xns_world.proofs.ServingEnds.{served_of}
use Rattle.xns_world.specs.CallWorld.{call_start}
use Rattle.item_world.specs.Network.{count_of, is_settled, AreRested}
use Rattle.item_world.specs.World.{start, end_at}
use Rattle.item_world.specs.declared.counts.Counts.{Counts}
use Rattle.item_world.specs.declared.side.Side.TheVariants.{A, B}
use Rattle.xns_world.proofs.call_play.CallPlay.new.Goals as goal

pub returns : goal.returns
returns g c p serving service =
    let setup = c.args.setup.now in
    let network = c.new-3 in
    record {
      ends = pair_of p _ (call_start setup) (c.in_ok-a.ensures p serving) (served_of g.S.Service.serving p.serving c.args.service p.service _ _ serving service c.in_ok-b.ensures);
      network = record {
        bag = network.ensures.0;
        taken = λ side. elim side as (λ t. count_of network.result.taken t ≡ length (end_at (start setup) t).taken) [ A ↦ ap (λ (n : Counts). n.a) network.ensures.1 | B ↦ ap (λ (n : Counts). n.b) network.ensures.1 ];
        rested = subst (λ (n : ℕ). AreRested n (start setup)) (sym network.ensures.2) (record { within = omega arith; settled = All-nil (λ x. is_settled (start setup) x ≡ true) });
      };
    }
