pub mod Outcomes
pub mod Played
pub mod Scripted
