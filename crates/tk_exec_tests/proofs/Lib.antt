pub mod PermitLemmas
