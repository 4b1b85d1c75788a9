-- What the entry's tests leave.
mod Tested
pub mod Determined
