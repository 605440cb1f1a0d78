-- To be read in this order.
pub mod ProxyAnswers
pub mod ProxyCalls
pub mod Traffic
