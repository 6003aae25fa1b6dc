-- the degrees that sums of products meet
pub mod Sums
