mod ProvedFractions
mod Stopping
mod Together
mod MetInProofs
