-- What the functions' proofs need: what tests tell, a turn of each loop, and a fill's answer.
pub mod Choosing
pub mod Telling
pub mod Trying
pub mod Shuffling
pub mod Filling
pub mod Placing
pub mod Answering
