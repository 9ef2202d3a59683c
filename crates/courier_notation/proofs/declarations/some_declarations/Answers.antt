use Rattle.std.proofs.Common.{inl, inr, sym}
use Rattle.std.proofs.lemmas.Result.{err_from_is_err_and}
use Rattle.courier_notation.specs.ProgramModels.{declaration_view, declaration_views}
use Rattle.courier_notation.specs.Programs.{DeclarationWants, DeclarationsWant, declarations_at, most_declarations}
use Rattle.courier_notation.proofs.Failing.{is_right, wanted_more}
use Rattle.courier_notation.proofs.Listing.{first_is_wanted, seen_push}
use Rattle.courier_notation.proofs.Declaring.{one_more, one_fails, all_read, most_read, too_many}
use Rattle.courier_notation.proofs.declarations.some_declarations.Goals as goal

pub returns-in_err-declaration-clause-exact : goal.returns-in_err-declaration-clause-exact
returns-in_err-declaration-clause-exact c =
    let p = err_from_is_err_and c.from_residual.result c.from_residual.ensures.1 in
    rw (p.1, p.2) (one_fails c.in_err-declaration.field-0.0 (declaration_views c.loop.declarations.items) most_declarations c.loop.counter c.loop.rest.now (declarations_at most_declarations c.args.tokens.now) c.loop-test.true (sym c.if-is_end.ensures) c.in_err-declaration.ensures.exact c.loop.invariant.so_far)

pub loop-preserved : goal.loop-preserved
loop-preserved c =
    let x = c.in_ok-declaration.declaration in
    let pushed = seen_push declaration_view c.loop.declarations.items x c.in_ok-push.ensures.items in
    record {
      so_far = rw pushed (one_more (declaration_views c.loop.declarations.items) most_declarations c.loop.counter c.loop.rest.now (declaration_view x) c.in_ok-declaration.after.now (declarations_at most_declarations c.args.tokens.now) c.loop-test.true (sym c.if-is_end.ensures) c.in_ok-declaration.ensures.exact c.loop.invariant.so_far);
      first = inr (first_is_wanted DeclarationsWant c.args.tokens.now c.loop.rest.now c.loop.invariant.first (inr (is_right c.in_ok-declaration.ensures.exact)));
    }

pub returns-then-is_end-clause-exact : goal.returns-then-is_end-clause-exact
returns-then-is_end-clause-exact c = all_read (declaration_views c.loop.declarations.items) most_declarations c.loop.counter c.loop.rest.now (declarations_at most_declarations c.args.tokens.now) c.loop-test.true (sym c.if-is_end.ensures) c.loop.invariant.so_far

pub returns-then-is_end-2-clause-exact : goal.returns-then-is_end-2-clause-exact
returns-then-is_end-2-clause-exact c = most_read (declaration_views c.loop.declarations.items) most_declarations c.loop.counter c.loop.rest.now (declarations_at most_declarations c.args.tokens.now) c.loop-test.false (sym c.if-is_end-2.ensures) c.loop.invariant.so_far

pub returns-clause-exact : goal.returns-clause-exact
returns-clause-exact c = rw c.wrong.ensures (too_many (declaration_views c.loop.declarations.items) most_declarations c.loop.counter c.loop.rest.now (declarations_at most_declarations c.args.tokens.now) c.loop-test.false (sym c.if-is_end-2.ensures) c.loop.invariant.so_far)

pub returns-in_err-declaration-clause-memory : goal.returns-in_err-declaration-clause-memory
returns-in_err-declaration-clause-memory c =
    let p = err_from_is_err_and c.from_residual.result c.from_residual.ensures.1 in
    let tokens = c.args.tokens.now in
    let rest = c.loop.rest.now in
    rw (p.1, p.2) (wanted_more c.in_err-declaration.field-0.0 (DeclarationWants rest) (DeclarationsWant tokens) (λ h. first_is_wanted DeclarationsWant tokens rest c.loop.invariant.first (inl h)) c.in_err-declaration.ensures.memory)

pub returns-in_err-push-clause-memory : goal.returns-in_err-push-clause-memory
returns-in_err-push-clause-memory c =
    let p = err_from_is_err_and c.from_residual-in_err-push.result c.from_residual-in_err-push.ensures.1 in
    let rest = c.loop.rest.now in
    rw (p.1, p.2) (first_is_wanted DeclarationsWant c.args.tokens.now rest c.loop.invariant.first (inr (is_right c.in_ok-declaration.ensures.exact)))
