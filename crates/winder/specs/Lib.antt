pub mod Version
pub mod Answers
pub mod Areas
pub mod LawAreas
pub mod FrameAreas
pub mod PageAreas
pub mod ReplicaAreas
pub mod TicketAreas
