use Rattle.std.proofs.Common.{◌≡◌, Bool, Result, Ok, Err, ap, sym, subst, rules, arith}
use Rattle.xns_connection.specs.declared.side.Side.{Side}
use Rattle.courier_sessions.specs.declared.feed_refusal.FeedRefusal.{FeedRefusal}
use Rattle.courier_sessions.specs.declared.feed_refusal.FeedRefusal.TheVariants.{NoMemory}
use Rattle.xns_connection.specs.Moving.{once, Converses, calms, starves, refuses}
use Rattle.xns_connection.proofs.Rounds.{Reached, one_more, refused_on}
use Rattle.xns_connection.proofs.side.Side.converse.Goals as goal

pub loop-alloc-init : goal.loop-alloc-init
loop-alloc-init c = record { rounds = λ s stands. let x = c.in_ok-pump.ensures.pumps s stands in (x.0, x.1, once x.2); waits = c.waiting-waiting.ensures }

pub loop-alloc-preserved : goal.loop-alloc-preserved
loop-alloc-preserved c = record { rounds = λ s stands. one_more (c.loop-alloc.invariant.rounds s stands) (cc) (c.in_ok-reject_unlisted.ensures.rejects (ap (λ (b : Bool). Ok b) c.if-not-branch.false)) c.in_ok-pump-2.ensures.pumps; waits = c.waiting-left.ensures }

pub returns-in_err-pump : goal.returns-in_err-pump
returns-in_err-pump c = record {
  converses = λ s stands.
      let is : c.from_residual.result ≡ Err c.in_err-pump.field-0.0 = search rules in
      let x = c.in_err-pump.ensures.pumps s stands in
      subst (λ (r : Result (Unit {0}) FeedRefusal). Reached c.pump.new.endpoint (λ v. Converses c.args.self.now s r c.pump.new.self v)) (sym is)
      (x.0, x.1, refuses c.in_err-pump.field-0.0 x.2);
}

pub returns-then-is_stopped : goal.returns-then-is_stopped
returns-then-is_stopped c = record {
  converses = λ s stands.
      let x = c.loop-alloc.invariant.rounds s stands in
      (x.0, x.1, calms x.2 (λ going. absurd (cc)));
}

pub returns-in_err-reject_unlisted : goal.returns-in_err-reject_unlisted
returns-in_err-reject_unlisted c = record {
  converses = λ s stands.
      let is : c.from_residual-in_err-reject_unlisted.result ≡ Err NoMemory = search rules in
      let same = c.in_err-reject_unlisted.ensures.unchanged in
      let x = c.loop-alloc.invariant.rounds s stands in
      subst (λ (r : Result (Unit {0}) FeedRefusal). Reached c.loop-alloc.endpoint (λ v. Converses c.args.self.now s r c.reject_unlisted.new.self v)) (sym is)
      (subst (λ (n : Side). Reached c.loop-alloc.endpoint (λ v. Converses c.args.self.now s (Err NoMemory) n v)) (sym same)
      (x.0, x.1, starves x.2 c.in_err-reject_unlisted.ensures.memory));
}

pub returns-then-not-branch : goal.returns-then-not-branch
returns-then-not-branch c = record {
  converses = λ s stands.
      let k = c.in_ok-reject_unlisted.ensures.listed (ap (λ (b : Bool). Ok b) c.if-not-branch.true) in
      let x = c.loop-alloc.invariant.rounds s stands in
      subst (λ (n : Side). Reached c.loop-alloc.endpoint (λ v. Converses c.args.self.now s (Ok tt) n v)) (sym k.0)
      (x.0, x.1, calms x.2 (λ going. k.1));
}

pub returns-in_err-pump-2 : goal.returns-in_err-pump-2
returns-in_err-pump-2 c = record {
  converses = λ s stands.
      let is : c.from_residual-in_err-pump-2.result ≡ Err c.in_err-pump-2.field-0.0 = search rules in
      subst (λ (r : Result (Unit {0}) FeedRefusal). Reached c.pump-in-loop-alloc.new.endpoint (λ v. Converses c.args.self.now s r c.pump-in-loop-alloc.new.self v)) (sym is)
      (refused_on c.in_err-pump-2.field-0.0 (c.loop-alloc.invariant.rounds s stands) (cc) (c.in_ok-reject_unlisted.ensures.rejects (ap (λ (b : Bool). Ok b) c.if-not-branch.false)) c.in_err-pump-2.ensures.pumps);
}

pub returns-then-left-waiting : goal.returns-then-left-waiting
returns-then-left-waiting c = record {
  converses = λ s stands.
      let rejected = c.in_ok-reject_unlisted.ensures.rejects (ap (λ (b : Bool). Ok b) c.if-not-branch.false) in
      let x = c.loop-alloc.invariant.rounds s stands in
      let y = one_more x (cc) rejected c.in_ok-pump-2.ensures.pumps in
      let is = c.loop-alloc.invariant.waits x.0 x.1 in
      let was = c.waiting-left.ensures y.0 y.1 in
      let over = c.if-left-waiting.true in (
        y.0,
        y.1,
        calms y.2 (λ going. c.in_ok-pump-2.ensures.calls (c.in_ok-reject_unlisted.ensures.gone (ap (λ (b : Bool). Ok b) c.if-not-branch.false)) x.0 y.0 x.1 y.1 (omega (arith, is, was, over))),
      );
}
