mod Crowns
mod Standing
mod Tries
