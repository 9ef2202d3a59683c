use Rattle.courier_messages.proofs.Called as called
use Rattle.courier_messages.proofs.laws.a_server_hears_one_item_more.Goals as goal

pub returns : goal.returns
returns c = record { goes = called.goes; stays = called.stays_failed; silent = called.silent }
