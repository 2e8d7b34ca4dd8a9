-- What a reader must believe: what a poll of a connection does
pub mod Connections
