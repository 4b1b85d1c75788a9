-- That a sweep has one answer.
pub mod Determined
