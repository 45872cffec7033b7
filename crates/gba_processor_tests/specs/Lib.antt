pub mod Places
pub mod RamBus
pub mod RamLaws
