pub mod Judging
pub mod Done
pub mod Hearing
pub mod Answered
pub mod Agree
pub mod Room
pub mod Pumps
