-- The definitions, in the order to read: an estimate's values, lengths, the byte of marks, the two parts as bytes, and what reading them finds.
pub mod Fields
pub mod Lengths
pub mod Marks
pub mod Format
pub mod Reading
