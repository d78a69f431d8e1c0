-- The definitions, in the order to read: a single by its bits, the conversion of a reading and of a row, what it means, readings as numbers.
pub mod Single
pub mod Conversion
pub mod Meaning
pub mod Numbers
