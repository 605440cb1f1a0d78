pub mod AnswerLemmas
pub mod SendLemmas
pub mod TrafficLemmas
pub mod CallLemmas
pub mod ExampleLemmas
