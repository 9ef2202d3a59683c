use Rattle.std.proofs.Common.{◌≡◌, ◌∙◌, ap, sym, arith, Some, eq-eqb}
use Rattle.std.proofs.lemmas.Bool.{eqb-true}
use Rattle.xns_script.specs.Word.{bytes_if_any, hex_bytes_of}
use Rattle.xns_script.proofs.Hexes.{err_bytes, no_bytes, some_bytes}
use Rattle.xns_script.proofs.words.read_hex_bytes.Goals as goal

pub returns-then-is_empty : goal.returns-then-is_empty
unfolding hex_bytes_of
returns-then-is_empty c = no_bytes c.in-Ok.bytes.items (let e : c.in-Ok.bytes.len ≡ 0 = eqb-true c.in-Ok.bytes.len 0 (sym c.if-is_empty.ensures) in omega (arith, c.in-Ok.bytes.ok.0)) ∙ ap bytes_if_any (sym c.in-Ok.ensures.ok)

pub returns-else-is_empty : goal.returns-else-is_empty
unfolding hex_bytes_of
returns-else-is_empty c =
    ap Some c.new.ensures ∙ some_bytes c.in-Ok.bytes.items (λ e. let z : c.in-Ok.bytes.len ≡ 0 = omega (arith, c.in-Ok.bytes.ok.0) in let t = eq-eqb c.in-Ok.bytes.len 0 z in let f = c.if-is_empty.ensures in cc) ∙ ap bytes_if_any (sym c.in-Ok.ensures.ok)

pub returns-in_default : goal.returns-in_default
unfolding hex_bytes_of
returns-in_default c = err_bytes _ _ c.in-Err.ensures.err c.in_default.not-OutOfMemory
