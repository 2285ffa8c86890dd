pub mod Limits
pub mod Records
pub mod Lines
pub mod Playing
pub mod Whole
pub mod Failures
