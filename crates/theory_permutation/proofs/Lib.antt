-- Gates in another order.
pub mod Permutation
pub mod Arranged
pub mod Values
pub mod Groups
pub mod Gathered
pub mod Words
pub mod Together
pub mod Again
pub mod SettleMoved
