-- What the proofs of the functions share.
pub mod Scan
pub mod Lines
pub mod Puts
