pub mod Source
pub mod Job
pub mod Law
