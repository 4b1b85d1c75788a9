-- What each test is about, and that it has one answer.
pub mod Spinning
pub mod Marking
pub mod Groups
pub mod Determined
