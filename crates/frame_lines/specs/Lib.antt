-- Answers first, then digits to words and lines; reading, writing and the way back; that each promise allows one answer.
pub mod Outcome
pub mod Number
pub mod Words
pub mod Lines
pub mod Spelling
pub mod Entries
pub mod Fill
pub mod Scan
pub mod Reading
pub mod Writing
pub mod RoundTrip
pub mod Worked
pub mod Determined
