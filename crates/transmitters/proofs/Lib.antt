-- Laws of the floor, of a single's bits, of rows and of kinds, and what the conversion means.
pub mod Floor
pub mod Bits
pub mod Newtons
pub mod Rows
pub mod ReadingKinds
pub mod Meaning
