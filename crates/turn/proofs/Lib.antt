-- The cluster's choice on one column, then one member more.
pub mod Choice
pub mod Step
