-- The claims hold.
pub mod Rewired
pub mod InPlace
pub mod Numbers
pub mod Seen
pub mod Cases
pub mod Loops
pub mod Values
pub mod Own
pub mod Connected
pub mod Settings
pub mod Shown
pub mod Moved
pub mod Applied
pub mod OneByOne
pub mod AllShown
