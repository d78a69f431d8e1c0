-- The four histories compute.
pub mod Histories
