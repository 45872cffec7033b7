pub mod Blending
pub mod Foremost
pub mod Layers
pub mod Mixing
pub mod Painting
pub mod Stacks
pub mod Windows
