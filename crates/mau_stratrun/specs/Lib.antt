-- Runs of strategies over whoever gives the results of leaves and the bodies of calls.

-- what strategies yield, and why they yield no more
pub mod Settings
pub mod Yields
pub mod Worlds
-- configurations by numbers, in a setting
pub mod States
-- runs
pub mod Runs
-- what leaves and calls yield
pub mod Laws
-- what only inner contracts and proofs cite
pub mod Turns
pub mod Moves
pub mod Branches
pub mod Courses
pub mod CourseLaws
