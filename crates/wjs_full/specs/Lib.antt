pub mod FixedLaws
pub mod Rows
pub mod History
pub mod HistoryCode
