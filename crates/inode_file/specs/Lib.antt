pub mod Counting
pub mod Inodes
pub mod Laws
pub mod Loading
pub mod Noted
pub mod Renewal
pub mod Rewriting
pub mod Taken
