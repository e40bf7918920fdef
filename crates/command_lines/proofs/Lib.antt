pub mod InLines
pub mod Known
