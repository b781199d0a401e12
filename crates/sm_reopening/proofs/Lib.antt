mod Confirming
mod Firsts
mod Successors
mod Standings
mod Taking
mod Updates
