-- The families of a stream
pub mod Families
-- Families of samples, as they are written
pub mod Samples
-- Who holds up whom
pub mod Blame
-- What is added up of tasks, and of resources
pub mod Sums
-- Whether what has left stays
pub mod Stays
-- Which labels of tasks stand by themselves
pub mod Keys
-- What tasks add to their labels
pub mod Entries
-- The text of a stream's numbers
pub mod Metrics
-- What has left the tables of a stream
pub mod Leaving
-- Histograms of tasks
pub mod Histograms
-- What the numbers of a stream are, and what writing them came to
pub mod Streams
-- What a place is given
pub mod Places
-- What a place is given of a stream whose numbers are kept there
pub mod Keeping
-- That no count falls
pub mod Rising
-- Inner: no public clause cites these
pub mod Following
pub mod Timed
pub mod KeysKept
pub mod Kept
