mod Holding
mod Ids
mod Rounds
mod Sendings
