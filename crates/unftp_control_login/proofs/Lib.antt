mod CallLemmas
mod CalledLemmas
mod GateLemmas
mod AskedLemmas
pub mod FinalLemmas
pub mod StageLemmas
pub mod StagedLemmas
pub mod MemberLemmas
pub mod AlikeLemmas
pub mod LimitLemmas
mod ExampleLemmas
