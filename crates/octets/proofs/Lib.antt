-- Laws of numbers as bytes, of areas, and of lists of values.
pub mod Numbers
pub mod TwosComplement
pub mod Areas
pub mod ValueLists
