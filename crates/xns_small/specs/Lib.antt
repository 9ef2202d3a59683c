pub mod Reading
pub mod Sending
pub mod Echo
pub mod ErrorReport
pub mod Exchange
pub mod Laws
