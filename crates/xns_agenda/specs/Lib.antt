pub mod Agenda
pub mod Clock
pub mod Measuring
pub mod Patience
pub mod Replying
pub mod Times
pub mod Turns
pub mod Waiting
