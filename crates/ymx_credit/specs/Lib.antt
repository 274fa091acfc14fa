pub mod Debts
pub mod Flows
