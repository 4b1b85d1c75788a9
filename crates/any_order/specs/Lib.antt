-- Tasks in any order (14/14). Turns, and that those of different tasks may be exchanged; the tasks of a sweep as steps; what an accepted sweep says of each;
-- what the theorems of proofs/ are about: steps that are not refused, one team, and two whose steps are mixed.
pub mod Schedule
pub mod Commute
pub mod EachTurn
pub mod Tasks
pub mod Unmasked
pub mod Whose
pub mod Sound
pub mod NoRefusal
pub mod AnyOrder
pub mod Mixed
pub mod Acceptance
pub mod TwoTeams
pub mod TwoAnswers
