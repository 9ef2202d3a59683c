-- Why what was asked or heard was refused, as C is told it by number.
use Rattle.std.specs.Prelude.{ℕ, Result, Ok, Err}
use Rattle.courier_messages.specs.declared.fault.MessageFault.{MessageFault}
use Rattle.courier_messages.specs.declared.fault.MessageFault.TheVariants.{OddLength, ShortMessage, UnknownKind}
use Rattle.courier_messages.specs.declared.fault.MessageFault.TheVariants as message
use Rattle.courier_messages.specs.declared.fault.SessionFault.{SessionFault}
use Rattle.courier_messages.specs.declared.fault.SessionFault.TheVariants.{NoCommonVersion, BadVersions, BadMessage, WrongTransaction}
use Rattle.courier_messages.specs.declared.fault.SessionFault.TheVariants.{BadReply, Stream, Failed}
use Rattle.courier_messages.specs.declared.fault.SessionFault.TheVariants as session
use Rattle.courier_sessions.specs.declared.feed_refusal.FeedRefusal.{FeedRefusal}
use Rattle.courier_sessions.specs.declared.feed_refusal.FeedRefusal.TheVariants as unfed
use Rattle.xns_host.specs.declared.host_fault.HostFault.{HostFault}
use Rattle.xns_host.specs.declared.host_fault.HostFault.TheVariants.{OutOfRange, NoConnection, NoRoom, TooManyServices, Busy, PeerCalls}
use Rattle.xns_host.specs.declared.host_fault.HostFault.TheVariants.{NoCall, Closing, TooLong, NoMemory, EveryHost, NoSocket, EchoSocket, NoVersion}
use Rattle.xns_connection.specs.declared.why.Why.{Why}
use Rattle.xns_connection.specs.declared.why.Why.TheVariants.{Asked, ByPeer, Silent, NotServed, Refused}
use Rattle.xns_c.specs.Results.{ok, nothing, no_memory, bad_argument, too_long, no_slot, stopped, busy, closing, attention}
use Rattle.xns_c.specs.Results.{no_connection, too_many_services, peer_calls, every_host, no_socket, echo_socket_refused, no_version}

-- ---- what a peer said

-- the number of a reason why bytes are no message
abbrev pub message_fault_number : MessageFault → ℕ
message_fault_number OddLength = 41
message_fault_number ShortMessage = 42
message_fault_number (UnknownKind k) = 43
message_fault_number message.TooLong = 44

-- the number of a reason why a conversation stops
abbrev pub session_fault_number : SessionFault → ℕ
session_fault_number NoCommonVersion = 51
session_fault_number BadVersions = 52
session_fault_number (BadMessage f) = message_fault_number f
session_fault_number WrongTransaction = 53
session_fault_number BadReply = 54
session_fault_number (Stream kind) = 55
session_fault_number session.NoMemory = no_memory
session_fault_number Failed = stopped

-- the number of a reason why an item is not taken in
abbrev pub feed_refusal_number : FeedRefusal → ℕ
feed_refusal_number unfed.Stopped = stopped
feed_refusal_number unfed.Busy = busy
feed_refusal_number unfed.TooLong = too_long
feed_refusal_number unfed.Attention = attention
feed_refusal_number (unfed.Fault f) = session_fault_number f
feed_refusal_number unfed.NoMemory = no_memory

-- the number of a reason why a connection is closed
abbrev pub closed_number : Why → ℕ
closed_number Asked = 1
closed_number ByPeer = 2
closed_number Silent = 3
closed_number (NotServed number) = 4
closed_number (Refused r) = 5

-- the number of what the peer said that was refused, or 0
abbrev pub refused_number : Why → ℕ
refused_number (Refused r) = feed_refusal_number r
refused_number _ = ok

-- the number of the Error packet that closed a connection, or 0
abbrev pub error_heard : Why → ℕ
error_heard (NotServed number) = number
error_heard _ = 0

-- ---- what a host was asked

abbrev pub host_fault_number : HostFault → ℕ
host_fault_number (OutOfRange setting) = bad_argument
host_fault_number (NoConnection number) = no_connection
host_fault_number NoRoom = no_slot
host_fault_number EveryHost = every_host
host_fault_number NoSocket = no_socket
host_fault_number EchoSocket = echo_socket_refused
host_fault_number NoVersion = no_version
host_fault_number TooManyServices = too_many_services
host_fault_number Busy = busy
host_fault_number PeerCalls = peer_calls
host_fault_number NoCall = nothing
host_fault_number Closing = closing
host_fault_number TooLong = too_long
host_fault_number NoMemory = no_memory

abbrev pub host_told : Result (Unit {0}) HostFault → ℕ
host_told (Ok u) = ok
host_told (Err fault) = host_fault_number fault
