-- The definitions, in the order to read: lengths, the record's two parts, what is recorded, what the types of it say, what is read, and what returning gives.
pub mod Lengths
pub mod SettingsPart
pub mod HeldPart
pub mod Recording
pub mod Reading
pub mod InOrder
pub mod Returning
