pub mod Combining
pub mod Lists
