-- Decimal numbers, the form of an edge list, how its text is read and written, and that each promise allows one answer.
pub mod Decimal
pub mod Form
pub mod Numbers
pub mod Outcome
pub mod Reading
pub mod Writing
pub mod Determined
