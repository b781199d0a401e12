mod Files
mod Shots
