use Rattle.std.proofs.Common.{◌∙◌, drop, sym, ap}
use Rattle.std.proofs.lemmas.List.{take_rest}
use Rattle.xns_captures.specs.Links.{behind_number}
use Rattle.xns_captures.proofs.Tags.{behind_tag}
use Rattle.xns_captures.proofs.link.in_number.Goals as goal

pub loop-rest-preserved : goal.loop-rest-preserved
loop-rest-preserved c =
    ap (behind_number c.read_word-kind.result) (take_rest c.loop-rest.rest.now 4)
    ∙ ap (λ kind. behind_number kind (drop 4 c.loop-rest.rest.now)) c.read_word-kind.ensures
    ∙ sym (behind_tag c.loop-rest.kind c.loop-rest.rest.now (sym c.is_tag.ensures ∙ c.loop-rest-test.true) c.if-rest-lt4.false)
    ∙ c.loop-rest.invariant
