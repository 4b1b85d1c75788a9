-- What a row says of its bonds, for the proofs of one bond and of the two sums.
pub mod Bonds
pub mod Totalled
