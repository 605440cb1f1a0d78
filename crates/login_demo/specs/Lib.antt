-- To be read in this order.
pub mod Tree
pub mod Walking
pub mod Facts
pub mod Standing
pub mod Session
pub mod Guarded
