pub mod Numbers
pub mod Formats
pub mod Echoes
pub mod Errors
pub mod Exchanges
