-- Tests 1 to 7, then tests 8 to 10, then that each has one verdict.
pub mod Lengths
pub mod Panel
pub mod Choices
pub mod Determined
