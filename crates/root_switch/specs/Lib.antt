pub mod Current
pub mod Switch
