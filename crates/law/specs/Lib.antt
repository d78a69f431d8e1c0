pub mod Fixed
pub mod Rounding
pub mod Limits
pub mod Settings
pub mod Law
