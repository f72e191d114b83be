-- Lemmas of the checker, lowest first.
pub mod Results
-- lookups by numbers
pub mod Numbers
pub mod Saids
-- terms and facts in stores that grow
pub mod Equals
-- an operator over terms
pub mod Overs
-- facts that lead from one term to another
pub mod Leading
-- contexts
pub mod Fills
pub mod Filled
pub mod HolesFilled
-- sorts that facts tell
pub mod Tells
-- variables and fragments
pub mod Adding
pub mod Shown
pub mod Growing
-- statements
pub mod UseOf
pub mod Using
pub mod Naming
-- texts of variables, and lines
pub mod Texts
pub mod Lined
-- facts about sorts
pub mod Sorting
-- built-ins
pub mod BuiltOf
-- all facts of a section
pub mod Checked
-- what the last fact concludes
pub mod Concluding
-- arguments by the numbers of another store
pub mod NumbersElsewhere
