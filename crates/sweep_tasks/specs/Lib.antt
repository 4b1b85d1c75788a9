-- From one task outwards: spins stay spins, tasks in ascending order, their totals, one task, one turn of the loop, the whole, and its one answer.
pub mod Ascending
pub mod Totalling
pub mod Running
pub mod Turning
pub mod Updating
pub mod Determined
