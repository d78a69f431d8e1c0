-- The definitions, in the order to read: numbers as bytes, and areas that bytes are written to.
pub mod Words
pub mod Areas
