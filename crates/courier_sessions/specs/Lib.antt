pub mod Feeding
pub mod Refusing
pub mod Talk
pub mod Talks
pub mod Answering
pub mod Answerings
pub mod Room
pub mod Pumping
