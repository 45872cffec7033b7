pub mod Numbers
pub mod Again
