-- The tests of lengths and of what was found, from the tests of their parts; a look for pins among marked sites.
pub mod Parts
pub mod Pins
