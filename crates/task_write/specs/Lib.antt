-- The step that writes: its tests; the members' sites in a list; the columns at listed sites; what it leaves.
pub mod Tested
pub mod Marks
pub mod Sites
pub mod Wrote
pub mod Determined
