use Rattle.std.proofs.Common.{◌∙◌, ap, Some}
use Rattle.xns_script.proofs.Hexes.{dash, no_dash}
use Rattle.xns_script.proofs.words.read_raw_words.Goals as goal

pub returns-then-is_dash : goal.returns-then-is_dash
returns-then-is_dash c = ap Some c.new.ensures.items ∙ dash c.args.line.now c.if-is_dash.ensures

pub returns : goal.returns
returns c = rw (no_dash c.args.line.now c.if-is_dash.ensures) c.read_hex_words.ensures
