-- Demand 3: its statement, then one step of a move, two steps and composite choices, the theorem, for the rows named alone, totals, teams, and worked
-- cases.
pub mod Statement
pub mod Reversible
pub mod ActsKept
pub mod Held
pub mod Step
pub mod Turns
pub mod BondSums
pub mod ChoicesAdd
pub mod Compose
pub mod ChoiceRows
pub mod ChoicesFit
pub mod Such
pub mod Chain
pub mod Theorem
pub mod NamedRows
pub mod Products
pub mod TotalsSum
pub mod Teams
pub mod Worked
