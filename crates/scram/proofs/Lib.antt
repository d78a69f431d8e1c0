-- The agreement theorem, and the laws that it stands on.
pub mod Boxes
pub mod Rows
pub mod Counting
pub mod Facts
pub mod Growth
pub mod Periods
pub mod Ties
pub mod Moves
pub mod Steps
pub mod Longest
pub mod Invariant
pub mod Agreement
