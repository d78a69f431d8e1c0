-- Laws of present marks, of the two parts, and of their round trips.
pub mod PresentMarks
pub mod Lengths
pub mod EachPart
pub mod RoundTrip
