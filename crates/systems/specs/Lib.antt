-- What each test is about, and that it has one answer.
pub mod Rows
pub mod Owners
pub mod Determined
