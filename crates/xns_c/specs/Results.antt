-- The numbers by which C is told what happened.
use Rattle.std.specs.Prelude.{ℕ, Option, Some, None, Result, Ok, Err}
use Rattle.xns_idp.specs.declared.fault.IdpFault.{IdpFault}
use Rattle.xns_idp.specs.declared.fault.IdpFault.TheVariants.{Short, LengthSmall, LengthLarge, Cut, BadSum}
use Rattle.xns_spp.specs.declared.dropped.Dropped.{Dropped}
use Rattle.xns_spp.specs.declared.dropped.Dropped.TheVariants.{NotIdp, NotSpp, NotOurs, AheadOfUs, OutOfOrder, NoRoom, Repeat}
use Rattle.xns_spp.specs.declared.item.Item.{Item}
use Rattle.xns_spp.specs.declared.send_fault.SendFault.{SendFault}
use Rattle.xns_spp.specs.declared.send_fault.SendFault.TheVariants.{TooLong, AttentionSize, Exhausted, Full}

abbrev pub ok : ℕ
ok = 0

abbrev pub nothing : ℕ
nothing = 1

abbrev pub no_memory : ℕ
no_memory = 2

abbrev pub no_endpoint : ℕ
no_endpoint = 3

abbrev pub short_buffer : ℕ
short_buffer = 4

abbrev pub bad_argument : ℕ
bad_argument = 5

abbrev pub short : ℕ
short = 11

abbrev pub too_long : ℕ
too_long = 21

abbrev pub no_slot : ℕ
no_slot = 27

abbrev pub stopped : ℕ
stopped = 56

abbrev pub busy : ℕ
busy = 57

abbrev pub closing : ℕ
closing = 58

abbrev pub attention : ℕ
attention = 59

abbrev pub truncated : ℕ
truncated = 71

abbrev pub not_boolean : ℕ
not_boolean = 72

abbrev pub over_maximum : ℕ
over_maximum = 73

abbrev pub not_listed : ℕ
not_listed = 74

abbrev pub left_over : ℕ
left_over = 75

abbrev pub no_host : ℕ
no_host = 81

abbrev pub no_connection : ℕ
no_connection = 82

abbrev pub too_many_services : ℕ
too_many_services = 83

abbrev pub peer_calls : ℕ
peer_calls = 84

abbrev pub every_host : ℕ
every_host = 85

abbrev pub no_socket : ℕ
no_socket = 86

abbrev pub echo_socket_refused : ℕ
echo_socket_refused = 87

abbrev pub no_version : ℕ
no_version = 88

abbrev pub wrong_text : ℕ
wrong_text = 91

-- the number of a reason why bytes are no internet packet
abbrev pub idp_fault_number : IdpFault → ℕ
idp_fault_number (Short h) = short
idp_fault_number (LengthSmall l) = 12
idp_fault_number (LengthLarge l) = 13
idp_fault_number (Cut n h) = 14
idp_fault_number (BadSum f c) = 15

-- the number of a reason why an item is not accepted
abbrev pub send_fault_number : SendFault → ℕ
send_fault_number TooLong = too_long
send_fault_number AttentionSize = 22
send_fault_number Exhausted = 23
send_fault_number Full = 24

-- the number that an endpoint returns for an item
abbrev pub send_number : Result (Unit {0}) (SendFault × Item) → ℕ
send_number (Ok u) = ok
send_number (Err f) = send_fault_number f.0

-- the number of a reason why a packet's item was neither taken nor kept, or 0
abbrev pub dropped_number : Option Dropped → ℕ
dropped_number None = 0
dropped_number (Some NotIdp) = 31
dropped_number (Some NotSpp) = 32
dropped_number (Some NotOurs) = 33
dropped_number (Some AheadOfUs) = 34
dropped_number (Some OutOfOrder) = 35
dropped_number (Some NoRoom) = 36
dropped_number (Some Repeat) = 37
