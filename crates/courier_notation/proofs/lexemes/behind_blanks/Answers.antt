use Rattle.std.proofs.Common.{Bool, sym, ◌∙◌, ap, false, not, drop}
use Rattle.courier_notation.specs.Lexing.{skipped}
use Rattle.courier_notation.proofs.Skipping.{dashes, in_comment, blank, stands}
use Rattle.courier_notation.proofs.lexemes.behind_blanks.Goals as goal

pub loop-rest-preserved-then-are_dashes : goal.loop-rest-preserved-then-are_dashes
loop-rest-preserved-then-are_dashes c =
    let l = c.loop-rest in
    ap (λ rest. skipped (not l.is_comment) rest) c.split_at.ensures.back ∙ sym (dashes l.is_comment l.rest.now c.loop-rest-test.true (sym c.if-are_dashes.ensures)) ∙ l.invariant

pub loop-rest-preserved-then-is_comment : goal.loop-rest-preserved-then-is_comment
loop-rest-preserved-then-is_comment c =
    let l = c.loop-rest in
    ap (λ rest. skipped (not c.is_line_end-is_comment.result) rest) c.split_at-then-is_comment.ensures.back
    ∙ ap (λ (b : Bool). skipped (not b) (drop 1 l.rest.now)) c.is_line_end-is_comment.ensures
    ∙ sym (in_comment l.rest.now c.loop-rest-test.true (sym c.if-are_dashes.ensures))
    ∙ ap (λ (b : Bool). skipped b l.rest.now) (sym c.if-is_comment.true) ∙ l.invariant

pub loop-rest-preserved : goal.loop-rest-preserved
loop-rest-preserved c =
    let l = c.loop-rest in
    ap (λ (b : Bool). skipped b c.split_at-then-is_blank.result.1.now) c.if-is_comment.false
    ∙ ap (λ rest. skipped false rest) c.split_at-then-is_blank.ensures.back
    ∙ sym (blank l.rest.now c.loop-rest-test.true (sym c.if-are_dashes.ensures) (sym c.if-is_blank.ensures))
    ∙ ap (λ (b : Bool). skipped b l.rest.now) (sym c.if-is_comment.false) ∙ l.invariant

pub returns-else-is_blank : goal.returns-else-is_blank
returns-else-is_blank c =
    let l = c.loop-rest in
    sym (stands l.rest.now c.loop-rest-test.true (sym c.if-are_dashes.ensures) (sym c.if-is_blank.ensures))
    ∙ ap (λ (b : Bool). skipped b l.rest.now) (sym c.if-is_comment.false) ∙ l.invariant
