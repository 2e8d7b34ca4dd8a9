-- What the same labels add up to
pub mod Series
-- What a number of the values adds up to
pub mod Totals
-- The first labels, and the rest
pub mod Limited
