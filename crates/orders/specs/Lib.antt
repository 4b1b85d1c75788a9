-- Words; the 120 orders of five: the table and its rule, the rank, that each order stands there once, that the table keeps its rule; then what the
-- functions answer, that they undo each other, and that each has one answer.
pub mod Words
pub mod Table
pub mod Counting
pub mod Rank
pub mod Once
pub mod Check
pub mod Answers
