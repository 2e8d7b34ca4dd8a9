-- The report of tables, a definition a kind of line
pub mod Report
-- What the view of a stream writes
pub mod Views
-- How long a poll is known to have run, by two rows of its task
pub mod Runs
-- What lines show of how long polls ran
pub mod Known
-- The report with what is known of how long polls ran
pub mod Timed
-- What the view of a stream writes with it
pub mod TimedViews
-- Inner: no public clause cites these
pub mod Pieces
pub mod Uninterrupted
pub mod Watched
