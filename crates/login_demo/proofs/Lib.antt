mod PathLemmas
mod TimeLemmas
mod FactLemmas
mod CommandLemmas
mod PlainLemmas
