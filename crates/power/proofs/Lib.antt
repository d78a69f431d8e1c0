-- Demand 3 with power cycles and with events asked first, and the laws that it stands on.
pub mod Paths
pub mod Plain
pub mod Tables
pub mod Boxes
pub mod Asked
pub mod Unasked
pub mod Theorem
pub mod Special
pub mod Examples
pub mod AskExamples
