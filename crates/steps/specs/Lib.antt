-- The definitions, in the order to read: a replica in a caller's areas, and what a step leaves there.
pub mod Areas
pub mod Calls
pub mod Pages
