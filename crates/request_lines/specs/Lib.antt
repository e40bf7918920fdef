pub mod HexWords
pub mod Requests
pub mod Lost
