pub mod Append
pub mod Fault
pub mod Laws
pub mod Log
pub mod Reading
pub mod Record
