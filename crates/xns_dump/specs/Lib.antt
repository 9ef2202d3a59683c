pub mod Dump
pub mod Flows
pub mod Laws
pub mod Layers
pub mod Spelled
