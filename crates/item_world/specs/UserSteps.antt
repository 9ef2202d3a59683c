-- The steps that an end takes only because its user asks for them.
use Rattle.std.specs.Prelude.{Bool}
use Rattle.std.specs.Option.{option_to_list}
use Rattle.xns_spp.specs.Telling.{told_answer, resend_answer, after_resend}
use Rattle.item_world.specs.declared.side.Side.{Side}
use Rattle.item_world.specs.World.{World, end_at, moved}

-- an end sends its first item again, or the system packet that a tick sends in the place of items
abbrev pub resends : World → Side → World
resends w side = moved w side (after_resend (end_at w side)) (option_to_list (resend_answer (end_at w side)))

-- an end sends a system packet, if it is open, and stays as it is
abbrev pub sends_system_packet : World → Side → (asks : Bool) → World
sends_system_packet w side asks = moved w side (end_at w side) (option_to_list (told_answer (end_at w side) asks))
