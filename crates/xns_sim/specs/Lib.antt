pub mod Sim
