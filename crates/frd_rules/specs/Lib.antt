pub mod Header
pub mod Block
pub mod Log
pub mod Writing
pub mod RoundTrip
pub mod Examples
