use Rattle.std.proofs.Common.{◌∙◌, ◌+◌, ◌*◌, ◌/◌, ◌==◌, ap, ap₂, sym, subst, arith, drop, ◌&&◌}
use Rattle.xns_captures.specs.Times.{resolution_of}
use Rattle.xns_captures.proofs.Resolutions.{Gives, gives-end, gives-first, gives-rest, gives-short, gives-value}
use Rattle.xns_captures.proofs.options.read_resolution.Goals as goal

pub loop-rest-init : goal.loop-rest-init
loop-rest-init c = gives-first c.args.order c.args.options.now

pub returns-then-code-eq-END : goal.returns-then-code-eq-END
returns-then-code-eq-END c =
    gives-end c.args.order c.loop-rest.rest.now _ (omega (arith, c.loop-rest-test.true)) c.loop-rest.invariant (sym c.read_word-code.ensures ∙ c.if-code-eq-END.true)

pub returns-then-is_resolution : goal.returns-then-is_resolution
returns-then-is_resolution c =
    c.byte_at.ensures
    ∙ gives-value c.args.order c.loop-rest.rest.now _ (omega (arith, c.loop-rest-test.true)) c.loop-rest.invariant (λ e. c.if-code-eq-END.false (c.read_word-code.ensures ∙ e))
    (ap₂ (λ m n. m == 9 && n == 1) (sym c.read_word-code.ensures) (sym c.read_word-size.ensures) ∙ sym c.is_resolution.ensures ∙ c.if-is_resolution.true)

pub loop-rest-preserved : goal.loop-rest-preserved
loop-rest-preserved c =
    subst (λ rest. Gives c.args.order rest (resolution_of c.args.order c.args.options.now))
    (sym (c.behind-rest.ensures ∙ ap (λ n. drop (4 + (n + 3) / 4 * 4) c.loop-rest.rest.now) (c.from.ensures ∙ c.read_word-size.ensures)))
    (gives-rest c.args.order c.loop-rest.rest.now _ (omega (arith, c.loop-rest-test.true)) c.loop-rest.invariant (λ e. c.if-code-eq-END.false (c.read_word-code.ensures ∙ e))
    (ap₂ (λ m n. m == 9 && n == 1) (sym c.read_word-code.ensures) (sym c.read_word-size.ensures) ∙ sym c.is_resolution.ensures ∙ c.if-is_resolution.false))

pub returns : goal.returns
returns c = gives-short c.args.order c.loop-rest.rest.now _ (omega (arith, c.loop-rest-test.false)) c.loop-rest.invariant
