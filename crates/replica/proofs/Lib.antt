-- Laws of settings that are accepted, of the calls and of what they write.
pub mod Accepted
pub mod Calls
pub mod Gives
pub mod Lent
pub mod Written
