-- To be read in this order.
pub mod Numbers
pub mod HostPorts
pub mod Extended
