pub mod WalkLemmas
pub mod FindingLemmas
pub mod PlaceLemmas
pub mod RecentLemmas
