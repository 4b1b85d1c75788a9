-- Laws for the rules on columns: the first bits of a byte, flips, tables in the making, and the look-up of every site.
pub mod Bits
pub mod Flips
pub mod Bytes
pub mod Marking
