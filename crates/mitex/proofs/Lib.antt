pub mod Rooms
pub mod Walking
pub mod Commanding
pub mod Environing
pub mod Taking
pub mod Bodies
pub mod Grouping
pub mod Spelt
