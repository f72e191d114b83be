mod NoReach
mod Rested
