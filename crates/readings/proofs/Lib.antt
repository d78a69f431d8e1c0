-- Laws of marks, and of rows as they are read.
pub mod Marks
pub mod Normalised
