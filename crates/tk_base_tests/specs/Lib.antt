-- What contracts of the tests say of their own object
pub mod Uses
