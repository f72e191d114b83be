-- Strategy runs between the items of a session.

-- what is kept of a run, where it stands, and when it can go on
pub mod Kept
-- what comes of asking it for a solution
pub mod Shown
-- what only inner contracts and proofs cite
pub mod Rest
pub mod RestLaws
pub mod Asked
