pub mod Cause
pub mod Checked
pub mod Faults
pub mod Left
pub mod Looked
pub mod Phases
pub mod Reads
