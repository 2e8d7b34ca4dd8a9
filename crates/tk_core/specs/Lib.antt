-- Words on lists
pub mod Lists
-- Histories, and what an object of calls is
pub mod History
pub mod Fold
pub mod Meaning
pub mod Legal
-- Tasks
pub mod Polls
pub mod Task
pub mod TaskMeaning
pub mod Lasting
-- Attributes, resources and async operations
pub mod Attributes
pub mod Resource
pub mod ResourceMeaning
pub mod Op
pub mod OpMeaning
-- Histograms of times
pub mod Times
pub mod TimesMeaning
pub mod Percentiles
-- The numbers of refusals
pub mod Codes
-- Inner: the layout of rows in words, and laws with their proofs. No public clause above this crate cites these
pub mod Words
pub mod TaskWords
pub mod AttrValues
pub mod AttrWords
pub mod ResourceWords
pub mod OpWords
pub mod TimesWords
pub mod Laws
