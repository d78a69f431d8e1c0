-- The definitions, in the order to read: tickets, with what asks, steps and commits do with them; and calls at one box, one after the other.
pub mod Tickets
pub mod Calls
