-- What tested input says; what the steps ask and leave; laws from columns, bonds and choices to the paper; the answers, on rows and on columns; that there is
-- one.
pub mod Tested
pub mod Looked
pub mod Moved
pub mod Steps
pub mod Leaves
pub mod Labelling
pub mod Held
pub mod Freeing
pub mod Labelled
pub mod Choosing
pub mod Choices
pub mod Finish
pub mod Given
pub mod Rewritten
pub mod Answered
pub mod Done
pub mod Determined
