pub mod Areas
pub mod PartsOf
