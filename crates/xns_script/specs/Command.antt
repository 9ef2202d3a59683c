-- What a line of a simulation says.
use Rattle.std.specs.Prelude.{ℕ, ◌==◌, ◌&&◌, if◌then◌else◌, List, [], ◌∷◌, codes, Option, Some, None, option_map}
use Rattle.std.specs.Str.{bytes_eq}
use Rattle.courier_types.specs.Value.{ValueModel, no_values}
use Rattle.courier_calls.specs.Calls.{CallModel, call_model, typed, raw_words}
use Rattle.item_world.specs.declared.event.Event.{Event}
use Rattle.item_world.specs.declared.event.Event.TheVariants.{Deliver, Rest, Tick, Foreign}
use Rattle.item_world.specs.declared.side.Side.{Side}
use Rattle.xns_script.specs.declared.command.Command.{Command}
use Rattle.xns_script.specs.declared.command.Command.TheVariants as command
use Rattle.xns_script.specs.Word.{hex_bytes_of, number_of, raw_words_of, side_of, words_of_line}

-- a line says nothing, makes a call, or lets an event happen
pub data CommandModel : Type 0 where
  skips : CommandModel
  calls : CallModel → CommandModel
  happens : Event → CommandModel

abbrev pub command_model : Command → CommandModel
command_model command.Skip = skips
command_model (command.Call c) = calls (call_model c)
command_model (command.Happen e) = happens e

-- ---- calls of the tally, version 2

abbrev pub add_call : ℕ → CallModel
add_call n = record { program = 7; version = 2; procedure = 1; arguments = typed (ValueModel.cardinal n) }

abbrev pub total_call : CallModel
total_call = record { program = 7; version = 2; procedure = 2; arguments = typed (ValueModel.fields no_values) }

-- ---- lines by the number of their words

abbrev pub one_word : List ℕ → Option CommandModel
one_word a = if bytes_eq a (codes "rest") then Some (happens Rest) else None

abbrev pub two_words : List ℕ → List ℕ → Option CommandModel
two_words a b =
    if bytes_eq a (codes "deliver") then option_map (λ k. happens (Deliver k)) (number_of 4294967295 b)
    else if bytes_eq a (codes "tick") then option_map (λ side. happens (Tick side)) (side_of b)
    else if bytes_eq a (codes "call") && bytes_eq b (codes "total") then Some (calls total_call)
    else None

abbrev pub foreign_of : Option Side → Option (List ℕ) → Option CommandModel
foreign_of (Some side) (Some bytes) = Some (happens (Foreign side bytes))
foreign_of _ _ = None

abbrev pub three_words : List ℕ → List ℕ → List ℕ → Option CommandModel
three_words a b c =
    if bytes_eq a (codes "call") && bytes_eq b (codes "add") then option_map (λ n. calls (add_call n)) (number_of 65535 c)
    else if bytes_eq a (codes "foreign") then foreign_of (side_of b) (hex_bytes_of c)
    else None

abbrev pub raw_call_of : Option ℕ → Option ℕ → Option ℕ → Option (List ℕ) → Option CommandModel
raw_call_of (Some p) (Some v) (Some q) (Some ws) =
    Some (calls (record { program = p; version = v; procedure = q; arguments = raw_words ws }))
raw_call_of _ _ _ _ = None

abbrev pub more_words : List ℕ → List ℕ → List ℕ → List ℕ → List ℕ → List (List ℕ) → Option CommandModel
more_words a b p v q words =
    if bytes_eq a (codes "call") && bytes_eq b (codes "raw")
    then raw_call_of (number_of 4294967295 p) (number_of 65535 v) (number_of 65535 q) (raw_words_of words)
    else None

abbrev pub command_in : List (List ℕ) → Option CommandModel
command_in (a ∷ []) = one_word a
command_in (a ∷ b ∷ []) = two_words a b
command_in (a ∷ b ∷ c ∷ []) = three_words a b c
command_in (a ∷ b ∷ p ∷ v ∷ q ∷ words) = more_words a b p v q words
command_in _ = None

-- what a line says; none where the line is refused. An empty line and one that begins with byte 35 say nothing
unfoldable pub command_of : List ℕ → Option CommandModel
command_of [] = Some skips
command_of (byte ∷ bytes) = if byte == 35 then Some skips else command_in (words_of_line (byte ∷ bytes))
