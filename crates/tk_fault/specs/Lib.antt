-- The numbers of faults, and what is told of them
pub mod Faults
