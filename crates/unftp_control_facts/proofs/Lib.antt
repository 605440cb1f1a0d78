pub mod YearLemmas
pub mod FactTextLemmas
pub mod CivilLemmas
pub mod ListingLemmas
pub mod ExampleLemmas
