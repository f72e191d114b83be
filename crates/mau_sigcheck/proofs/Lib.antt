pub mod MemberLemmas
pub mod Results
pub mod Walks
pub mod Counting
pub mod Identities
pub mod Reached
pub mod OneFault
