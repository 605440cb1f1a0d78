pub mod ClientStepLemmas
pub mod AgreementLemmas
pub mod ForwardingLemmas
pub mod OrderLemmas
