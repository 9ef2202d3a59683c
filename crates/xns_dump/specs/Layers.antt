-- What each layer of a packet says.
pub mod Body
pub mod Courier
pub mod Packets
pub mod Sequenced
pub mod Small
pub mod Text
