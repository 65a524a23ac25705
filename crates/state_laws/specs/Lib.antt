pub mod Files
pub mod Accepted
pub mod States
pub mod Laws
