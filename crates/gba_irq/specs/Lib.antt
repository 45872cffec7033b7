pub mod Interrupts
pub mod Keypad
