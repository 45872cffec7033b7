pub mod Marching
