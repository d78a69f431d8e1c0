mod Integers
mod Offsets
mod Nearest
mod Changes
mod Division
mod Sums
mod Listed
mod Formulas
pub mod Accepted
pub mod Laws
pub mod Lent
