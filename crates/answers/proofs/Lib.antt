-- The proof of demand 1: laws of answers, the protocol's steps, the calls of each crate, and the theorem.
pub mod Numbers
pub mod Outcomes
pub mod Replica
mod Law
mod Frames
mod Pages
mod Records
mod RecordAreas
pub mod Asks
mod TicketAreas
pub mod Theorem
