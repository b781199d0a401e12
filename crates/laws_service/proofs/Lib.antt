mod Lists
mod Versions
mod Low
mod Permits
mod Stays
mod Held
mod Possible
mod Safe
