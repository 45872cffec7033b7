pub mod Tails
pub mod Names
pub mod Operands
pub mod Transfers
pub mod Statement
pub mod Forms
pub mod Placing
