-- Mathematics of comparing two blocks; no function of src/ is named.
--   Interfaces    the same interface, word by word
--   Differences   what one setting tells, and the search over all of them
--   Rooms         numbers that were read
--   Accepted      the operation answers by the two sentences of the definitions
--   Rendered      what Render makes of a block is accepted for it
--   Chain         the operation's conditions
pub mod Interfaces
pub mod Differences
pub mod Rooms
pub mod Accepted
pub mod Rendered
pub mod Chain
