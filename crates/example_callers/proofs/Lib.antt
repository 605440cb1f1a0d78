mod PieceLemmas
mod ExampleLemmas
mod CallerLemmas
mod EventLoopLemmas
mod TlsLemmas
pub mod DataAnswersLemmas
pub mod TransferLemmas
pub mod TransferRunLemmas
pub mod TransferOutcomeLemmas
pub mod TransferLawLemmas
mod LogLemmas
mod RelayLemmas
