mod Lines
mod Runs
mod Floors
mod Fresh
mod Renumbers
