pub mod CourseLemmas
pub mod PutLemmas
pub mod Weaving
