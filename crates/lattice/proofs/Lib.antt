-- What two proofs would be long without: the tests of a cut, and a flag that tells whether a number is moved.
pub mod Cuts
pub mod Moved
