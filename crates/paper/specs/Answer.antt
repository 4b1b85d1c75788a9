-- What is answered: the cases of an answer, their numbers, then a move, a sweep and its tasks, the meter, totals beside the replicas, two teams, and the frame program.
pub mod Cases
pub mod Number
pub mod Move
pub mod Task
pub mod Made
pub mod Sweep
pub mod Meter
pub mod Totals
pub mod Team
pub mod Frame
pub mod Same
