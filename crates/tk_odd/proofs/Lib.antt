pub mod DiagnosisLemmas
mod ShareLemmas
pub mod ListLemmas
pub mod LoopLemmas
pub mod MemberLemmas
pub mod RowLemmas
pub mod SpanLemmas
