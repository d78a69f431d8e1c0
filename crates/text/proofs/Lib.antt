-- Laws of text that is put together and how long it is, of numbers that are read, of both ways, and of parts of a text.
pub mod PrintingLaws
pub mod PrintingLengths
pub mod NumberLaws
pub mod RoundTrip
pub mod LineLaws
