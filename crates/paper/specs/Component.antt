-- Components from the bottom up: what is linked, sizes, labels, one component's members, and bytes that mark.
pub mod Links
pub mod Sizes
pub mod Labels
pub mod Members
pub mod Marks
