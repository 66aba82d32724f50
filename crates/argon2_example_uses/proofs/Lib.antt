mod Rounds
mod Stores
