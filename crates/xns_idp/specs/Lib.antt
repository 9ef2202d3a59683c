pub mod Checksum
pub mod Packet
pub mod Reading
pub mod Laws
