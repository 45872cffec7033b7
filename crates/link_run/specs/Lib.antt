pub mod Rounds
pub mod Adding
pub mod Going
pub mod Opening
pub mod Round
