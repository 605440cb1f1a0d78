-- To be read in this order.
pub mod Dialogue
pub mod Exchange
pub mod Steps
pub mod ForwardingSteps
pub mod Order
