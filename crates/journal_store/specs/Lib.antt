pub mod Store
pub mod Disk
pub mod FileStore
pub mod Shot
pub mod MemoryDisk
