pub mod Trimmed
pub mod FreeBasis
pub mod Written
pub mod Sorted
pub mod Joined
pub mod JoinedLists
