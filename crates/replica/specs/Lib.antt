-- The definitions, in the order to read: settings, what is held, frames, the four calls, and what the functions inside them do.
pub mod Settings
pub mod Held
pub mod Frames
pub mod Calls
pub mod Rules
