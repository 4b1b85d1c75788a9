-- The three steps of a task (14/14): what each asks, answers and writes; that a step which follows is never refused; that the three one after another are
-- the move; and how tight the promises are.
pub mod Label
pub mod Choose
pub mod Write
pub mod Found
pub mod Follow
pub mod Still
pub mod Three
pub mod Determined
