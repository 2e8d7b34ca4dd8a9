mod Cuts
pub mod Told
pub mod Found
