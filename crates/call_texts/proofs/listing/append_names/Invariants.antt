use Rattle.std.proofs.Common.{[], drop}
use Rattle.courier_programs.specs.Meanings.{components_seen}
use Rattle.call_texts.specs.Listing.{names_text}
use Rattle.call_texts.proofs.Appended.{SoFar}
use Rattle.call_texts.proofs.listing.append_names.Given as goal

abbrev pub invariant-loop-component : goal.invariant-loop-component
invariant-loop-component l = SoFar l.fn.out l.out (names_text l.front (components_seen (drop l.component-index l.components))) (names_text [] (components_seen l.components))
