-- The definitions, in the order to read: text and decimals that are printed, decimals that are read, and parts of a text.
pub mod Printing
pub mod Numbers
pub mod Lines
