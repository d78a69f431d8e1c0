-- The definitions, in the order to read: numbers with commas between them, a printed line, and the pages of a text.
pub mod Values
pub mod Lines
pub mod Pages
pub mod Placing
