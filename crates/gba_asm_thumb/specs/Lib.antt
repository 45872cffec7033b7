pub mod Names
pub mod Statement
pub mod Forms
pub mod Placing
