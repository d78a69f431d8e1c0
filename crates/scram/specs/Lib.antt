-- The definitions, in the order to read: quorums, answers, what a replica holds, the events, histories, demand 3 and what an implementation must show, over any law.
pub mod Quorum
pub mod Answers
pub mod Held
pub mod Events
pub mod History
pub mod Demand3
pub mod Shown
