pub mod FilePlans
pub mod Consoles
pub mod SoundInputs
pub mod Replay
pub mod FilledLists
