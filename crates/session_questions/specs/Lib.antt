pub mod Details
pub mod Findings
pub mod FindingLaws
pub mod Kept
pub mod Lines
pub mod LineLaws
pub mod Places
