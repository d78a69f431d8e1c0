-- The definitions, in the order to read: a group of replicas, what its results mean, demand 3 for it, and the single controller's command in the law's words.
pub mod Group
pub mod Meaning
pub mod Demand3
pub mod Command
