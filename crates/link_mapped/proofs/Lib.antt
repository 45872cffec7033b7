pub mod Matching
pub mod InCommon
pub mod Running
pub mod OneStep
pub mod Soundness
