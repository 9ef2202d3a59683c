pub mod AtFirst
pub mod Cuts
pub mod Cutting
pub mod FewDigits
pub mod Joined
pub mod OnPages
pub mod WordsInHex
pub mod Writes
