-- What the test and the filling are about, and that each has one answer.
pub mod Tables
pub mod Backward
pub mod Determined
