-- Laws of tests, choices, places, parts of lists and refusals.
pub mod Booleans
pub mod Choice
pub mod Below
pub mod Places
pub mod Parts
pub mod Refusals
