-- Digits and lines, what the cut promises, then why the kept text has the answers of the whole one; last, that the promise allows one cut.
pub mod Digits
pub mod Line
pub mod Cut
pub mod Shared
pub mod Walk
pub mod Ends
pub mod Kept
pub mod Pieces
pub mod Determined
