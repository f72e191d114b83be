-- What may be answered where the results of a strategy are listed.

-- where a listing stands, what comes next, and how it ends
pub mod Listings
-- what is proved of these
pub mod Laws
-- where a run stands, and what comes of asking it for a solution
pub mod Standing
