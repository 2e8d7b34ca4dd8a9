pub mod PollLemmas
pub mod PlaceLemmas
pub mod TurnLemmas
pub mod DriveLemmas
pub mod OrderLemmas
pub mod FutureLemmas
