pub mod CallsFit
pub mod Hexes
pub mod Numbers
pub mod WordCuts
pub mod Said
pub mod Scripts
