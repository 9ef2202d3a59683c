use Rattle.host_world.proofs.Dialogues.{first, first_again}
use Rattle.host_world.proofs.laws.a_free_number_gets_a_connection.Goals as goal

pub returns : goal.returns
returns c = record { first = first; again = first_again }
