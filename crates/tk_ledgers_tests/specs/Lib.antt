-- What contracts of tests say of their steps
pub mod Uses
