-- What the loop of `task_group` needs: a table of eight numbers filled from the front.
pub mod Filling
