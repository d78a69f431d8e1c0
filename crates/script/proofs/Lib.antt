-- Laws of a line played, how long it is and what it leaves, and of a script's lines.
pub mod LineLengths
pub mod BoxLaws
pub mod AskLaws
pub mod PlayLaws
pub mod ScriptLaws
pub mod Played
pub mod Groups
