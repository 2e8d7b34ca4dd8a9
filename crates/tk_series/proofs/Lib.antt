pub mod SeriesLemmas
pub mod TotalLemmas
pub mod NameLemmas
pub mod LimitedLemmas
pub mod SumLemmas
pub mod FoldLemmas
