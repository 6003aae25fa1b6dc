pub mod Tied
