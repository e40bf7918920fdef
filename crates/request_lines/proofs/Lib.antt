pub mod TextLines
pub mod HexWords
pub mod Exact
pub mod Beginnings
