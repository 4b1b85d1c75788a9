-- What the proofs of this crate lean on.
pub mod Cells
