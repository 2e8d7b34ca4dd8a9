-- What a caller must believe: errors, offers, and what the handles show
pub mod Errors
pub mod Offers
pub mod Items
pub mod Handles
-- Inner: the rules of the buffer and of the counts, and what the handles keep
pub mod Buffer
pub mod Counts
pub mod Parts
