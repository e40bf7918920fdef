pub mod Middle
pub mod Rounding
pub mod Counted
pub mod Units
pub mod ShownStamps
pub mod Near
pub mod Examples
