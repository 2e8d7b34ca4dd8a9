pub mod Numbers
pub mod Outcomes
pub mod ParseLemmas
pub mod WordLemmas
pub mod WordRows
