-- The first value of an argument among those that a subcommand was given.
use Rattle.std.proofs.Common.{◌≡◌, ap, List, Option, Some, None}
use Rattle.std.specs.Prelude.{option_and_then, option_map}
use Rattle.std.specs.Option.{unwrap_or}
use Rattle.clap.specs.Words.{Row, Text, first_of}

pub of_rows : (id : Text) (o : Option (Text × List Row)) (rows : List Row) → Some rows ≡ option_map (λ p. p.1) o → first_of id rows ≡ option_and_then (λ p. first_of id p.1) o
of_rows id None rows e = (cc)
of_rows id (Some p) rows e = ap (λ o. first_of id (unwrap_or o rows)) e
