pub mod Named
pub mod Printing
pub mod Laws
pub mod Appending
