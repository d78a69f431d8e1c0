-- Laws of frames, of their round trips, and of commands.
pub mod Conditions
pub mod FrameBytes
pub mod Refusals
pub mod EachReading
pub mod CommandReading
pub mod Forth
pub mod Back
pub mod RoundTrip
pub mod CommandRoundTrip
pub mod FrameLaws
pub mod Commands
pub mod Cases
