-- The cases P1 to P10 and those of document 02, and four histories.
pub mod Cases
pub mod Histories
