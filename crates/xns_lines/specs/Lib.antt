pub mod Faults
pub mod Laws
pub mod Lines
pub mod Printing
pub mod Printouts
pub mod Report
pub mod Text
