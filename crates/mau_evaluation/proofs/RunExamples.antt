-- Computed cases of rule runs and strategies. What is expected is said in words beside each.
pub mod Programs
pub mod RuleRuns
pub mod Lists
pub mod Strategies
pub mod Exact
