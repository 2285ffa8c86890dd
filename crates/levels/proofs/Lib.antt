pub mod Below
pub mod Sets
pub mod Members
pub mod Places
pub mod Marks
pub mod Backward
pub mod Asking
pub mod Exactness
