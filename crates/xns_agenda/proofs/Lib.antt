pub mod Agendas
mod Ambiguities
mod Asking
mod Beside
pub mod Free
mod Later
mod Measures
mod Mending
mod Patience
pub mod Putting
mod Repeats
mod Silent
mod Thirds
mod Tree
mod Turning
mod Wanting
