-- What a run of jobs reports and prints.
pub mod Chains
pub mod Failing
pub mod FoldOrders
pub mod GoodRuns
pub mod Journals
pub mod Laws
pub mod Loaded
pub mod Outputs
pub mod Pairing
pub mod Reports
pub mod ReportTexts
pub mod Rounds
pub mod Runnable
pub mod RunOrder
pub mod Sequential
pub mod Sources
pub mod Sums
