pub mod Doubles
pub mod Printed
pub mod Unknown
pub mod Written
mod Said
