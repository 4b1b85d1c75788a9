-- The rows that bytes stand for and the bytes of rows, and their laws; then the promises, how tight they are, and that one undoes the other.
pub mod Bytes
pub mod Gathered
pub mod Answer
pub mod Determined
