pub mod Access
pub mod Branching
pub mod Conditions
pub mod Multiplying
pub mod Processing
pub mod StatusMoves
