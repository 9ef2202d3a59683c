use Rattle.std.proofs.Common.{◌≡◌, Bool, Result, Ok, Err, ap, sym, subst, ◌∙◌, arith, rules}
use Rattle.std.specs.Option.{is_some}
use Rattle.courier_sessions.specs.Pumping.{here, Pumped}
use Rattle.courier_sessions.specs.declared.feed_refusal.FeedRefusal.{FeedRefusal}
use Rattle.courier_sessions.proofs.Pumps.{sent, full, fed, refused, settles, all_fed}
use Rattle.courier_sessions.proofs.pumping.pump.Goals as goal

pub loop-init : goal.loop-init
loop-init g c = λ s stands. record { end = s; leads = here; stands = stands }

pub loop-preserved : goal.loop-preserved
loop-preserved g c =
    λ s stands. sent g.S.Hearer.side (c.args.side.now, s) c.loop.side c.send_first.new.side c.loop.endpoint c.send_first.new.endpoint
    (c.send_first.ensures.fewer c.loop-test.true) (c.send_first.ensures.beside c.loop-test.true)
    (λ u x xs standing is. c.send_first.ensures.sent u x xs standing is c.loop-test.true) (c.loop.invariant s stands)

pub returns-then-is_some : goal.returns-then-is_some
returns-then-is_some g c =
    let side = g.S.Hearer.side in
    let stays = c.send_first.ensures.stays c.loop-test.false in
    λ s stands. full side (c.args.side.now, s) c.loop.side c.send_first.new.side c.loop.endpoint c.send_first.new.endpoint stays.0 stays.1
    (λ none. c.first_out.ensures.some (λ is. absurd (cc (ap is_some is, c.is_some.ensures, c.if-is_some.true)))
    (ap (λ (t : g.row.S.Denot). side.out t) stays.0 ∙ none))
    (λ u x xs standing is. c.send_first.ensures.refused u x xs standing is c.loop-test.false) (c.loop.invariant s stands)

pub returns-in_err-feed_first : goal.returns-in_err-feed_first
returns-in_err-feed_first g c =
    let w : c.from_residual.result ≡ Err c.in_err-feed_first.field-0.0 = search rules in
    λ s stands. subst (λ (r : Result (Unit {0}) FeedRefusal). Pumped g.S.Hearer.side
    (c.args.side.now, s) r c.feed_first.new.side c.feed_first.new.endpoint) (sym w)
    (refused g.S.Hearer.side (c.args.side.now, s) c.loop-2.side c.feed_first.new.side c.loop-2.endpoint c.feed_first.new.endpoint c.waiting-end.result c.loop-2.counter c.in_err-feed_first.field-0.0 c.loop-2.invariant.1
    (c.in_err-feed_first.ensures.stays (λ is. cc)) (λ u standing. c.in_err-feed_first.ensures.refused u standing)
    (c.loop-2.invariant.0 s stands))

pub returns-then-not-branch : goal.returns-then-not-branch
returns-then-not-branch g c =
    let none = ap (λ (b : Bool). Ok b) c.if-not-branch.true in
    λ s stands. settles g.S.Hearer.side (c.args.side.now, s) c.loop-2.side c.feed_first.new.side c.loop-2.endpoint c.feed_first.new.endpoint c.waiting-end.result c.loop-2.counter
    (c.in_ok-feed_first.ensures.same none) (c.in_ok-feed_first.ensures.stays (λ is. absurd (cc (is, none)))) c.loop-2.invariant.1
    (λ u standing. c.in_ok-feed_first.ensures.unfed u standing none) (c.loop-2.invariant.0 s stands)

pub loop-2-preserved : goal.loop-2-preserved
loop-2-preserved g c =
    let one = ap (λ (b : Bool). Ok b) c.if-not-branch.false in (
      λ s stands. fed g.S.Hearer.side (c.args.side.now, s) c.loop-2.side c.feed_first.new.side c.loop-2.endpoint c.feed_first.new.endpoint c.waiting-end.result c.loop-2.counter c.loop-2.invariant.1
          (λ u standing. c.in_ok-feed_first.ensures.fed u standing one) (c.loop-2.invariant.0 s stands),
      c.in_ok-feed_first.ensures.out ∙ c.loop-2.invariant.1,
    )

pub returns : goal.returns
returns g c =
    λ s stands. all_fed g.S.Hearer.side
    (c.args.side.now, s) c.loop-2.side c.loop-2.endpoint c.waiting-end.result c.loop-2.counter c.loop-2.invariant.1 (omega arith)
    (c.loop-2.invariant.0 s stands)
