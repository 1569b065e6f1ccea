pub mod Steps
pub mod Budgets
