-- What a reader must believe of the work that records in its polls
pub mod Permits
