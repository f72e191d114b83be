-- Items that rewrite by rules.

-- which rules keep terms from being rewritten
pub mod Conditions
-- what is kept of a run, what it answers, and what its watcher is told
pub mod RuleItems
