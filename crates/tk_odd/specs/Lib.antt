-- What a task ran and waited between two lines
pub mod Gains
-- Who waits for a poll at the begin of a step
pub mod Waiters
-- What tasks waited in a step, shared out among those that ran in it
pub mod Sharing
-- When one task ran, and another waited
pub mod Apart
-- What tasks are charged with, of what others waited
pub mod Charging
-- What is said of a step, besides what tasks are charged with
pub mod Steps
-- Which tasks are of one place
pub mod Places
-- Who ran or waited in a step
pub mod Members
-- Who waited for those that are charged, by places
pub mod Victims
-- Line by line: what the steps of a stream came to
pub mod Diagnosis
-- The lines of a span of a stream
pub mod Span
-- Inner: what is kept of the last line's tasks
pub mod Keeping
-- Inner: how what is kept shows what the definitions say
pub mod Inner
-- What is odd, worst first
pub mod Findings
-- Which tasks wait now
pub mod Waiting
-- What is said of what is odd, to people
pub mod Words
