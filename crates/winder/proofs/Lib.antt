pub mod Refused
pub mod Recordings
pub mod Stepped
pub mod TicketLaws
pub mod Made
