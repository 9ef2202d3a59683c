pub mod Runs
pub mod Signs
pub mod Ranges
pub mod Joins
pub mod Cuts
pub mod MessageWords
pub mod Talks
pub mod Written
pub mod Wholes
pub mod Bounds
pub mod Shorts
pub mod Numbers
pub mod Heads
pub mod Puts
pub mod More
pub mod Lists
pub mod Numbered
pub mod Called
mod Fronts
mod Foreseen
pub mod Apart
pub mod Empties
