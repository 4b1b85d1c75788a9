-- What the proofs here share: a test that is made only where its input is taken.
pub mod Taken
