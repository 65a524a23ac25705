pub mod Different
pub mod Index
pub mod Laws
pub mod Rising
