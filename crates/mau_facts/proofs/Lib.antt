pub mod NumberLists
pub mod FieldsRead
pub mod FieldsAgain
pub mod Strict
pub mod Feeds
pub mod Spellings
pub mod Likes
pub mod Entries
pub mod Runs
pub mod OneMore
pub mod Openings
pub mod SectionFaults
pub mod HeadFaults
pub mod Spelled
pub mod Written
pub mod Law
-- lines that can be written
pub mod Ranged
