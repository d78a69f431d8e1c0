-- Laws of entries that are placed, of columns and lines, of writing and reading, the three laws of both, and a worked page.
pub mod PlacingLaws
pub mod WordLaws
pub mod WritingLaws
pub mod ColumnLaws
pub mod LineLaws
pub mod ReadingLaws
pub mod LineReading
pub mod ShownLaws
pub mod RoundTrip
mod Cases
