pub mod Asked
pub mod Bits
pub mod Coded
pub mod Copies
pub mod Totals
pub mod Worked
