-- The crate's lemmas; each function's proof is in its own folder.
pub mod Answered
pub mod Laws
pub mod Undo
