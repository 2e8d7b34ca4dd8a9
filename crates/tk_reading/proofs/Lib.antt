pub mod ReadLemmas
pub mod ShownLemmas
pub mod PieceLemmas
pub mod StopLemmas
pub mod FrontLemmas
