pub mod PutLemmas
pub mod LoopLemmas
pub mod KnownLemmas
pub mod RunLemmas
pub mod PercentileLemmas
pub mod TimedLemmas
pub mod ViewLemmas
pub mod OutcomeLemmas
