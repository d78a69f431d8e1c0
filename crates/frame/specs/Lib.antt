-- The definitions, in the order to read: sizes, kinds and lengths, the format, what reading finds and what writing does, commands,
-- worked frames.
pub mod Sizes
pub mod Kinds
pub mod Lengths
pub mod Format
pub mod Fields
pub mod Reading
pub mod Writing
pub mod Command
pub mod CommandReading
pub mod Cases
