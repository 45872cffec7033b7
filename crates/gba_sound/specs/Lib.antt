pub mod Queue
pub mod Queues
pub mod Quiet
