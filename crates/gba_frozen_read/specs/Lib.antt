pub mod Thawed
