-- Laws for the proofs on columns: rows that are read, rows that are written, and one site.
pub mod Packed
pub mod Lent
pub mod Site
pub mod Eight
