pub mod DrawnLines
pub mod SignalsKept
pub mod RowSteps
pub mod MemoryPuts
pub mod ConsoleLines
pub mod Begun
pub mod NextDraft
pub mod Jobs
