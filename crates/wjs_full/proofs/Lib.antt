pub mod Tables
pub mod HistoryLaws
pub mod HistoryLists
