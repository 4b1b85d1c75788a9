-- Laws for the proofs: sets of one site and of all, a row settled place by place, counted up, lent and put back, and what is then written.
pub mod Bytes
pub mod Word
pub mod Parts
pub mod Repeated
pub mod Counted
pub mod Kept
pub mod Alike
pub mod Rows
pub mod Found
-- A square of places, which the edit one_permutation_for_all breaks.
pub mod Square
-- One answer, which the edit largest_place breaks.
pub mod Determined
