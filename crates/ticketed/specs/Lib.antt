-- The definitions, in the order to read: how long a replica with tickets is, the tickets' part of it, which bytes are one, and what each call gives.
pub mod Lengths
pub mod TicketsPart
pub mod Reading
pub mod Calls
