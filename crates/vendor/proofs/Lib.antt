-- Laws for the proofs: test 2 of a pair, and what the labels and the bytes tell of the answer.
pub mod Tests
pub mod Compared
-- Our own moves are accepted, and what is written plays: the edit idle_not_compared breaks both.
pub mod Own
pub mod Played
