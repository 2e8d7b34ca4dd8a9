-- The numbers of the errors.
pub mod Errors
-- Ids, and the blocks that give them out.
pub mod Ids
pub mod IdBlocks
-- Names, and the attributes that they tell apart.
pub mod Names
pub mod Attributes
