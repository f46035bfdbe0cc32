pub mod Ident
pub mod Frames
pub mod Request
pub mod Rows
pub mod Device
pub mod Holder
pub mod Demand2
pub mod Examples
