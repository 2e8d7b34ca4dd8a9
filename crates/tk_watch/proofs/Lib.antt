pub mod OddLemmas
pub mod KeyLemmas
pub mod TurnLemmas
pub mod WatchLemmas
pub mod LastLemmas
