-- xoshiro256** and what is drawn by it: words, numbers, permutations, fills. Then the laws of draws, and that each function has one result.
pub mod Answer
pub mod Words
pub mod Draw
pub mod Rows
pub mod Fill
pub mod Promise
pub mod Writing
pub mod Numbers
pub mod Laws
pub mod Permuted
pub mod Determined
