-- The way from a verdict to an answer, and that there is one answer.
pub mod Determined
