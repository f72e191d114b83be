-- What a user of evaluators and watchers has to read, in this order.

-- a program, as the definitions of evaluation see it: the sorts of its signature, what is built in, its statements
pub mod SortLists
pub mod BuiltIns
pub mod Programs
-- what an evaluator goes by
pub mod Meanings
-- terms that may be evaluated, and contexts
pub mod Terms
-- what is told: the variables of a statement, events, and the runs that they tell
pub mod Variables
pub mod Events
pub mod Told
-- what the answers of an evaluator say
pub mod Answers
pub mod Faults
-- Laws for the crates above: no call's contract cites these files.

-- what the view of a program gives is exact
pub mod Exact
-- listings, and computed lists of solutions
pub mod Remaining
-- sorts that are known where terms are settled
pub mod KnownSorts
