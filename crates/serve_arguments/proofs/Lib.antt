pub mod SourcesRead
pub mod Unread
