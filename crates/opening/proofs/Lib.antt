-- Laws of sizes, of what stands behind the numbers, of first lines that are too long, and of what is wrong with a first line.
pub mod OpeningLaws
pub mod EndingLaws
pub mod Majorities
pub mod LongOpening
pub mod WrongLaws
pub mod BadLines
