-- The definitions, in the order to read: entries, a line, the lines of a page, writing a page, reading it back, and a worked page.
pub mod Entries
pub mod Line
pub mod Page
pub mod Placing
pub mod Writing
pub mod Reading
pub mod Cases
