pub mod ReportedRefusals
