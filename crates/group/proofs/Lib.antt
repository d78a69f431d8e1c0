-- The proof of demand 3 for groups of this replica.
pub mod Typed
pub mod Ordered
pub mod Reread
pub mod Calls
pub mod Theorem
pub mod Meaning
