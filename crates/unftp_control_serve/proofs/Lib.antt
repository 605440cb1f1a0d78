pub mod HeardLemmas
mod MappedLemmas
pub mod EventLineLemmas
pub mod ClientLineLemmas
pub mod DecoderLemmas
mod ExampleLemmas
pub mod SendLemmas
pub mod EndingLemmas
mod EngineLemmas
mod LineRunLemmas
pub mod SoFarLemmas
pub mod ServiceLemmas
