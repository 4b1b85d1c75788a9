-- Bits of bytes; words that fit and the least of them; which places a place may have come from; then what is written, and that it is one.
pub mod Bits
pub mod Fitting
pub mod Sources
pub mod Least
pub mod Explain
pub mod Allowed
pub mod Determined
