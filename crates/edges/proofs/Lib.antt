-- What the proofs of the functions share.
pub mod Find
pub mod Codes
pub mod Going
pub mod Loading
pub mod Lists
pub mod Writing
