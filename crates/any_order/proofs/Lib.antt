-- The theorems over what the tasks' steps do and how a panel is put together, which the edits choose_may_write_rows and counts_by_steps of specs/Tasks break: of an
-- accepted sweep, that no step is refused and that the tasks' moves make up the sweep; then one team, and two whose steps are mixed.
pub mod NoRefusal
pub mod InPanel
pub mod Sweeping
pub mod HandedBack
pub mod AnyOrder
pub mod Mixed
pub mod TwoTeams
pub mod TwoAnswers
