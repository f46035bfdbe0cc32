pub mod ListInRoom
